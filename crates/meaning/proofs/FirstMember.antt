-- The first member of a set from number i on, told by what number i is: a loop that looks for it goes by these.

use Rattle.std.proofs.Common.{◌≡◌, ℕ, zero, suc, ◌<◌, ◌≤◌, Bool, true, false, List, [], ◌∷◌, length, get_or, drop, refl, add-suc, suc-add, arith}
use mathlib.Core.Bool.{false≢true}
use Rattle.meaning.specs.Sets.{skipped, first_member}

pub first_here : (bs : List Bool) (i : ℕ) → get_or bs i false ≡ true → first_member bs i ≡ i
first_here [] i here = absurd (false≢true here)
first_here (b ∷ bs) zero here = rw here (omega arith)
first_here (b ∷ bs) (suc i) here = let rest = first_here bs i here in omega arith

pub first_further : (bs : List Bool) (i : ℕ) → i < length bs → get_or bs i false ≡ false → first_member bs i ≡ first_member bs (suc i)
first_further [] i below none = absurd (omega (arith, below))
first_further (b ∷ bs) zero below none = rw none (omega arith)
first_further (b ∷ bs) (suc i) below none = let rest = first_further bs i (omega (arith, below)) none in omega arith

pub first_past : (bs : List Bool) (i : ℕ) → length bs ≤ i → first_member bs i ≡ i
first_past [] zero past = omega arith
first_past [] (suc i) past = omega arith
first_past (b ∷ bs) zero past = absurd (omega (arith, past))
first_past (b ∷ bs) (suc i) past = let rest = first_past bs i (omega (arith, past)) in omega arith

pub first_is_member : (bs : List Bool) (i : ℕ) → first_member bs i < length bs → get_or bs (first_member bs i) false ≡ true
first_is_member [] i below = absurd (omega (arith, below))
first_is_member (true ∷ bs) zero below = refl
first_is_member (false ∷ bs) zero below = rw (add-suc 0 (skipped bs)) (first_is_member bs zero (omega (arith, below)))
first_is_member (b ∷ bs) (suc i) below = rw (suc-add i (skipped (drop i bs))) (first_is_member bs i (omega (arith, below)))
