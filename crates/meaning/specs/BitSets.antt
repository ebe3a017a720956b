-- Growing bit sets: sets of the bits from number min up to, but not with, number max, among so many bits (size).
--   own_number      the item that a bit names: its own number
--   bit_set         a bit set as it is grown, by its included bits
--   flip_from       a yes/no draw for each of n bits from number i on, in order: yes includes the bit
--   flipped         the bits of a plain bit set: such a draw for each of its bits
--   bits_growth     a plain bit set, which may lose all its members
--   bits_stated     the longest of a plain bit set: the number of its bits
--   sample_from     walking upward, k of the m bits from number i on: a draw from 0 to m - 1 takes bit i when it is below k
--   sampled         the bits of a sampled bit set: a draw of how many, from low to high, then so many of its bits
--   sampled_growth  a sampled bit set, which keeps its lowest size

use Rattle.std.specs.Prelude.{ℕ, zero, suc, ◌-◌, Bool, true, false, cond, List, replicate, Ok, nat_lt, slice_set}
use Rattle.draws.specs.Draws.{drawn, answered}
use Rattle.draws.specs.Runners.{RunnerState, advanced}
use Rattle.draws.specs.Sources.{Words, word}
use Rattle.meaning.specs.Places.{Place}
use Rattle.meaning.specs.Growths.{Outcome, Grows, Growth}
use Rattle.meaning.specs.Sets.{SetTree, fresh, draw_on, set_grown}

abbrev pub own_number : ℕ → ℕ
own_number i = i

abbrev pub bit_set : (min_count shrink longest : ℕ) → List Bool → SetTree ℕ
bit_set min_count shrink longest included = fresh included own_number min_count shrink longest

abbrev pub flip_from : {X : Type 0} → Words X → (n i : ℕ) → Grows X (List Bool)
flip_from w zero i r included = record { answer = Ok tt; runner = r; place = included }
flip_from w (suc n) i r included = draw_on (answered (word w r.source)) (advanced w r) included
    (λ yes r included. flip_from w n (suc i) r (cond yes (slice_set included i true) included))

abbrev pub flipped : {X : Type 0} → Words X → (min max size : ℕ) → RunnerState X → Outcome X (List Bool)
flipped w min max size r = flip_from w (max - min) min r (replicate size false)

abbrev pub bits_growth : {P : Type 0} → (min max size : P → ℕ) → Growth P (Place (SetTree ℕ))
bits_growth min max size p X w r s = set_grown (bit_set 0 (min p) (max p - min p)) s.tree (flipped w (min p) (max p) (size p) r)

abbrev pub bits_stated : {P : Type 0} → (min max : P → ℕ) → P → ℕ
bits_stated min max p = max p - min p

abbrev pub sample_from : {X : Type 0} → Words X → (m k i : ℕ) → Grows X (List Bool)
sample_from w m zero i r included = record { answer = Ok tt; runner = r; place = included }
sample_from w zero (suc k) i r included = record { answer = Ok tt; runner = r; place = included }
sample_from w (suc m) (suc k) i r included = draw_on (drawn 0 m (word w r.source)) (advanced w r) included
    (λ v r included. cond (nat_lt v (suc k)) (sample_from w m k (suc i) r (slice_set included i true)) (sample_from w m (suc k) (suc i) r included))

abbrev pub sampled : {X : Type 0} → Words X → (min max size low high : ℕ) → RunnerState X → Outcome X (List Bool)
sampled w min max size low high r = draw_on (drawn low high (word w r.source)) (advanced w r) (replicate size false) (λ k. sample_from w (max - min) k min)

abbrev pub sampled_growth : {P : Type 0} → (min max size low high : P → ℕ) → Growth P (Place (SetTree ℕ))
sampled_growth min max size low high p X w r s = set_grown (bit_set (low p) (min p) (high p)) s.tree (sampled w (min p) (max p) (size p) (low p) (high p) r)
