-- The verdicts that are here.
--   numbered    the items that a usize can number: all of them, short of 2 ^ 64 - 1
--   holds       whether a number is among the items
--   more_than   whether there are more than so many items

use Rattle.std.specs.Prelude.{ℕ, ◌-◌, ◌^◌, Bool, List, length, take, ◌==◌, nat_lt}
use Rattle.std.specs.List.{list_any}
use Rattle.meaning.specs.Readings.{counted}

abbrev pub numbered : {I : Type 0} → List I → List I
numbered xs = take (2 ^ 64 - 1) xs

abbrev pub holds : ℕ → List ℕ → Bool
holds n xs = list_any (λ x. x == n) xs

abbrev pub more_than : {I : Type 0} → ℕ → List I → Bool
more_than n xs = nat_lt n (counted (length xs))
