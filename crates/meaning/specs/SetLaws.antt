-- When a set is sound.
--   Distinct    no two of the first n numbers name one item
--   SetSound    enough members; its items are distinct; no more members, also with the noted one back, than the longest
--   set_sound   a set's place is blank, or the set is sound
--   Within      a number of a range, which has so many numbers from a first one on
--   Naming      each number of a grown set names an item that fits
--   Once        a list has no item twice
--   Sampleable  what a sampled bit set needs to find its members: as many bits as the highest size, all within the set
--   Choosable   what a range subset needs to choose its numbers: as many as the highest size, in 64 bits

use Rattle.std.specs.Prelude.{◌≡◌, ℕ, ◌+◌, ◌-◌, ◌^◌, ◌<◌, ◌≤◌, List, [], ◌∷◌, length, ◌≢◌}
use Rattle.std.specs.List.{AllByRecursion}
use Rattle.meaning.specs.Places.{Place}
use Rattle.meaning.specs.PlaceLaws.{WhereGrown}
use Rattle.meaning.specs.Sets.{SetTree, with_noted}
use Rattle.meaning.specs.Vectors.{members}

abbrev pub Distinct : {I : Type 0} → (ℕ → I) → ℕ → Type 0
Distinct item n = (i j : ℕ) → i < n → j < n → item i ≡ item j → i ≡ j

pub record SetSound {I : Type 0} (s : SetTree I) : Type 0 where
  pub enough : s.min_count ≤ members s.included
  pub distinct : Distinct s.item (length s.included)
  pub room : members (with_noted s.included s.prev_shrink) ≤ s.longest

abbrev pub set_sound : {I : Type 0} → Place (SetTree I) → Type 0
set_sound = WhereGrown SetSound

abbrev pub Within : (start count : ℕ) → ℕ → Type 0
Within start count n = (start ≤ n) × (n < start + count)

abbrev pub Naming : {I : Type 0} → (I → Type 0) → Place (SetTree I) → Type 0
Naming Fit = WhereGrown (λ s. (i : ℕ) → i < length s.included → Fit (s.item i))

abbrev pub Once : {I : Type 0} → List I → Type 0
Once [] = Unit {0}
Once (x ∷ xs) = AllByRecursion (λ y. y ≢ x) xs × Once xs

pub record Sampleable (min max size low high : ℕ) : Type 0 where
  pub sizes : low ≤ high
  pub bits : min ≤ max
  pub enough : high ≤ max - min
  pub inside : max ≤ size
  pub few : size < 2 ^ 64 - 1

pub record Choosable (count low high : ℕ) : Type 0 where
  pub sizes : low ≤ high
  pub enough : high ≤ count
  pub few : high < 2 ^ 64 - 1
  pub narrow : count < 2 ^ 64
