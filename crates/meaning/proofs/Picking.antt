-- The weighted pick: a draw below the sum of the weights picks one of the options.

use Rattle.std.proofs.Common.{◌≡◌, ℕ, zero, suc, ◌+◌, ◌-◌, ◌^◌, ◌<◌, ◌≤◌, Bool, true, false, cond, leb, List, [], ◌∷◌, length, Ok, sum, count_by, Option, refl, ap, arith}
use Rattle.std.proofs.Math.Nat.{le-max_left, le-max_right}
use Rattle.std.proofs.lemmas.List.Sums.{sum_by-cons, count_by-le-length}
use Rattle.std.proofs.lemmas.Bool.{leb-true}
use Rattle.draws.specs.Draws.{drawn}
use Rattle.meaning.specs.Unions.{running, pick_for, greatest}
use Rattle.meaning.proofs.Drawing.{drawn_range}

-- how many of the running sums lie at or below a draw
abbrev counted : (draw so_far : ℕ) → List ℕ → ℕ
counted draw so_far weights = count_by (λ x. leb x draw) (running so_far weights)

running_length : (so_far : ℕ) (weights : List ℕ) → length (running so_far weights) ≡ length weights
running_length so_far [] = refl
running_length so_far (weight ∷ weights) = ap suc (running_length (so_far + weight) weights)

-- the first, and then those after it
counted_first : (draw so_far : ℕ) (weights : List ℕ) (test : Bool) → leb so_far draw ≡ test → (so_far ≤ draw → counted draw so_far weights < length weights) → cond test 1 0 + counted draw so_far weights < suc (length weights)
counted_first draw so_far weights true e later = let rest = later (leb-true so_far draw e) in omega arith
counted_first draw so_far weights false e later = grind (arith, count_by-le-length, running_length)

counted_below : (draw so_far : ℕ) (weights : List ℕ) → so_far ≤ draw → draw < so_far + sum weights → counted draw so_far weights < length weights
counted_below draw so_far [] past low = absurd (omega arith)
counted_below draw so_far (weight ∷ weights) past low =
    let next = so_far + weight in
    let all = sum_by-cons (λ x. x) weight weights in
    let count = sum_by-cons (λ x. cond (leb x draw) 1 0) next (running next weights) in
    let first = counted_first draw next weights (leb next draw) refl (λ under. counted_below draw next weights under (omega arith)) in
    omega arith

pub picked_below : (weights : List ℕ) → 0 < sum weights → sum weights < 2 ^ 64 → (word : Option ℕ) (draw : ℕ) → drawn 0 (sum weights - 1) word ≡ Ok draw → pick_for weights draw < length weights
picked_below weights some few word draw e =
    let range = drawn_range 0 (sum weights - 1) (omega arith) (omega arith) word draw e in
    counted_below draw 0 weights (omega arith) (omega (arith, range.1))

-- none of the first n states more than the greatest
pub none_greater : (f : ℕ → ℕ) (n i : ℕ) → i < n → f i ≤ greatest f n
none_greater f zero i low = absurd (omega arith)
none_greater f (suc n) i low = grind (arith, le-max_left, le-max_right, none_greater f n i)
