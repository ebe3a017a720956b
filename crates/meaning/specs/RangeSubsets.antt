-- Growing range subsets: sets of distinct numbers out of a range, which has so many numbers (count) from number start on.
-- At first each number stands at its own place in the range, from place 0 on.
--   exchanged       the place at which the number stood that stands at place k once places i and j have changed numbers
--   shuffle_from    n draws, for places from i on, each from its own place to the range's last: the number at the drawn place
--                   is chosen, and changes with the number at its own
--   chosen          the numbers of a range subset: a draw of how many, from low to high, then so many chosen by shuffling
--   subset          a range subset as it is grown, by its items, of which all are members
--   subset_growth   a range subset, which keeps its lowest size

use Rattle.std.specs.Prelude.{ℕ, zero, suc, ◌+◌, ◌-◌, cond, List, [], ◌∷◌, ◌++◌, length, Ok, ◌==◌, slice_index}
use Rattle.draws.specs.Draws.{drawn}
use Rattle.draws.specs.Runners.{RunnerState, advanced}
use Rattle.draws.specs.Sources.{Words, word}
use Rattle.meaning.specs.Places.{Place}
use Rattle.meaning.specs.Growths.{Outcome, Grows, Growth}
use Rattle.meaning.specs.Sets.{SetTree, fresh, draw_on, set_grown}
use Rattle.meaning.specs.Vectors.{all_of}

abbrev pub exchanged : (i j k : ℕ) → ℕ
exchanged i j k = cond (k == i) j (cond (k == j) i k)

-- at: the number that stands at each place now
abbrev pub shuffle_from : {X : Type 0} → Words X → (count n i : ℕ) → (at : ℕ → ℕ) → Grows X (List ℕ)
shuffle_from w count zero i at r items = record { answer = Ok tt; runner = r; place = items }
shuffle_from w count (suc n) i at r items = draw_on (drawn i (count - 1) (word w r.source)) (advanced w r) items
    (λ j r items. shuffle_from w count n (suc i) (λ k. at (exchanged i j k)) r (items ++ (at j ∷ [])))

abbrev pub chosen : {X : Type 0} → Words X → (start count low high : ℕ) → RunnerState X → Outcome X (List ℕ)
chosen w start count low high r = draw_on (drawn low high (word w r.source)) (advanced w r) [] (λ n. shuffle_from w count n 0 (λ k. start + k))

abbrev pub subset : (min_count longest : ℕ) → List ℕ → SetTree ℕ
subset min_count longest items = fresh (all_of (length items)) (λ i. slice_index items i) min_count 0 longest

abbrev pub subset_growth : {P : Type 0} → (start count low high : P → ℕ) → Growth P (Place (SetTree ℕ))
subset_growth start count low high p X w r s = set_grown (subset (low p) (high p)) s.tree (chosen w (start p) (count p) (low p) (high p) r)
