-- Looking for a number among the items, by their numbers from 0 on.

use Rattle.std.proofs.Common.{◌≡◌, ℕ, zero, suc, ◌+◌, ◌-◌, ◌^◌, Bool, ◌||◌, List, [], ◌∷◌, length, take, Some, refl, ap, ◌∙◌, arith, nat_eq}
use Rattle.std.specs.List.{list_any, range_with_len}
use Rattle.std.specs.Option.{option_eq}
use Rattle.std.proofs.lemmas.List.{take_min}
use Rattle.std.proofs.Math.Seq.{take-nil}
use Rattle.meaning.specs.Readings.{counted, item_at}
use Rattle.reduction.specs.Verdicts.{numbered, holds}

-- whether item number i is the number n
abbrev pub item_is : ℕ → List ℕ → ℕ → Bool
item_is n xs i = option_eq nat_eq (item_at xs i) (Some n)

-- a test of the numbers from a on that says this of each item
tested : (n : ℕ) (test : ℕ → Bool) (a m : ℕ) (xs : List ℕ) → ((i j : ℕ) → a + i ≡ j → test j ≡ item_is n xs i) → list_any test (range_with_len a m) ≡ holds n (take m xs)
tested n test a zero xs e = refl
tested n test a (suc m) [] e = rw (e 0 a (omega arith)) (tested n test (a + 1) m [] (λ i j f. e (suc i) j (omega (arith, f))) ∙ ap (holds n) (take-nil m))
tested n test a (suc m) (x ∷ xs) e = rw (e 0 a (omega arith)) (ap (λ rest. nat_eq x n || rest) (tested n test (a + 1) m xs (λ i j f. e (suc i) j (omega (arith, f)))))

pub held : (n : ℕ) (xs : List ℕ) (len : ℕ) → len ≡ counted (length xs) → list_any (item_is n xs) (range_with_len 0 len) ≡ holds n (numbered xs)
held n xs len e = tested n (item_is n xs) 0 len xs (λ i j f. ap (item_is n xs) (omega (arith, f))) ∙ ap (λ m. holds n (take m xs)) (omega (arith, e)) ∙ ap (holds n) (take_min (2 ^ 64 - 1) xs)
