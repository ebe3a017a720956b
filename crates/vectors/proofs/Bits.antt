-- Lists of truths: how many are true, and the first of many that are.

use Rattle.std.proofs.Common.{◌≡◌, ℕ, zero, suc, ◌+◌, ◌<◌, ◌≤◌, min, Bool, true, false, List, [], ◌∷◌, length, get_or, take, replicate, refl, ap, ◌∙◌, arith}
use mir.Val.{bool_byte}
use Rattle.meaning.specs.Vectors.{members, all_of}

pub take_replicate : (n m : ℕ) → take n (replicate m true) ≡ all_of (min n m)
take_replicate zero m = ap all_of (let e : 0 ≡ min 0 m = omega arith in e)
take_replicate (suc n) zero = ap all_of (let e : 0 ≡ min (suc n) 0 = omega arith in e)
take_replicate (suc n) (suc m) = ap (λ (xs : List Bool). true ∷ xs) (take_replicate n m) ∙ ap all_of (let e : suc (min n m) ≡ min (suc n) (suc m) = omega arith in e)

-- one more truth counted
pub members_next : (bs : List Bool) (i : ℕ) → i < length bs → members (take (suc i) bs) ≡ members (take i bs) + bool_byte (get_or bs i false)
members_next [] i h = absurd (omega (arith, h))
members_next (true ∷ bs) zero h = refl
members_next (false ∷ bs) zero h = refl
members_next (b ∷ bs) (suc i) h = let rest = members_next bs i (omega (arith, h)) in omega (arith, rest)

pub one_at_most : (b : Bool) → bool_byte b ≤ 1
one_at_most true = omega arith
one_at_most false = omega arith
