-- The laws of the growth of bit sets.
--   bits_roots      a plain bit set has no more members than bits
--   sampled_roots   a sampled bit set has as many members as were drawn
--   sampled_minimum its fewest members are its lowest size

use Rattle.std.proofs.Common.{◌≡◌, ℕ, zero, suc, ◌+◌, ◌-◌, ◌^◌, ◌<◌, ◌≤◌, Bool, true, false, cond, ltb, List, length, get_or, set, replicate, Ok, le_refl, arith, length-set, get_or-set_other}
use Rattle.std.proofs.lemmas.List.{length-replicate, get_or-replicate}
use Rattle.std.proofs.lemmas.Bool.{cond_both, ltb-false}
use Rattle.draws.specs.Draws.{drawn, answered}
use Rattle.draws.specs.Runners.{RunnerState, advanced}
use Rattle.draws.specs.Sources.{Words, word}
use Rattle.meaning.specs.Places.{Place}
use Rattle.meaning.specs.Growths.{Outcome, Roots}
use Rattle.meaning.specs.Sets.{SetTree, set_steps}
use Rattle.meaning.specs.SetLaws.{SetSound, set_sound, Sampleable}
use Rattle.meaning.specs.BitSets.{own_number, bit_set, flip_from, flipped, bits_growth, bits_stated, sample_from, sampled, sampled_growth}
use Rattle.meaning.specs.Vectors.{members}
use Rattle.meaning.proofs.Included.{members_more, members_put, no_members}
use Rattle.meaning.proofs.Drawing.{drawn_range, Draws, drawn_on}
use Rattle.meaning.proofs.SetGrowth.{set_minimum, set_roots}

-- the included bits make a sound bit set
abbrev Sound : (low cursor longest : ℕ) → List Bool → Type 0
Sound low cursor longest included = SetSound (bit_set low cursor longest included)

bits_sound : (low cursor longest : ℕ) (included : List Bool) → low ≤ members included → members included ≤ longest → Sound low cursor longest included
bits_sound low cursor longest included enough room = record { enough = enough; distinct = λ i j _ _ same. same; room = room }

-- the m bits from number i on lie within the set, and no bit from there on is included
record Clear (m i : ℕ) (bs : List Bool) : Type 0 where
  inside : i + m ≤ length bs
  none : (j : ℕ) → i ≤ j → j < length bs → get_or bs j false ≡ false

taken_clear : (m i : ℕ) (bs : List Bool) → Clear (suc m) i bs → Clear m (suc i) (set bs i true)
taken_clear m i bs clear = record { inside = rw length-set (omega arith); none = λ j past below. grind (arith, length-set, get_or-set_other, clear.none j) }

passed_clear : (m i : ℕ) (bs : List Bool) → Clear (suc m) i bs → Clear m (suc i) bs
passed_clear m i bs clear = record { inside = omega arith; none = λ j past below. clear.none j (omega arith) below }

none_clear : (min max size : ℕ) → min ≤ max → max ≤ size → Clear (max - min) min (replicate size false)
none_clear min max size ordered within = let all = length-replicate size false in record { inside = omega arith; none = λ j past below. get_or-replicate size j false false (omega arith) }

module _ {X : Type 0} (w : Words X) (low cursor longest : ℕ) where
  abbrev Drawn : RunnerState X → Outcome X (List Bool) → Type 0
  Drawn r = Draws (Sound low cursor longest) r.rejections

  -- with k wanted of the m bits from number i on, all of which can be had
  samples : (m k i : ℕ) (r : RunnerState X) (bs : List Bool) → m < 2 ^ 64 → k ≤ m → Clear m i bs → low ≤ members bs + k → members bs + k ≤ longest → Drawn r (sample_from w m k i r bs)
  samples m zero i r bs few wanted clear large small = (bits_sound low cursor longest bs (omega arith) (omega arith), le_refl r.rejections)
  samples zero (suc k) i r bs few wanted clear large small = absurd (omega arith)
  samples (suc m) (suc k) i r bs few wanted clear large small =
      let more = members_more bs i (omega arith) (clear.none i (le_refl i) (omega arith)) in
      drawn_on (Sound low cursor longest) (drawn 0 m (word w r.source)) r' bs _
      (λ v drew. cond_both (ltb v (suc k)) (sample_from w m k (suc i) r' (set bs i true)) (sample_from w m (suc k) (suc i) r' bs) (Drawn r)
      (λ taken. samples m k (suc i) r' (set bs i true) (omega arith) (omega arith) (taken_clear m i bs clear) (omega arith) (omega arith))
      (λ passed. samples m (suc k) (suc i) r' bs (omega arith) (still_there v drew passed) (passed_clear m i bs clear) large small))
    where
      r' : RunnerState X
      r' = advanced w r

      -- a bit is passed only where another can be had for it
      still_there : (v : ℕ) → drawn 0 m (word w r.source) ≡ Ok v → ltb v (suc k) ≡ false → suc k ≤ m
      still_there v drew passed =
          let above = ltb-false v (suc k) passed in
          let below = (drawn_range 0 m (omega arith) (omega arith) (word w r.source) v drew).1 in
          omega arith

flips : {X : Type 0} (w : Words X) (cursor longest n i : ℕ) (r : RunnerState X) (bs : List Bool) → members bs + n ≤ longest → Draws (Sound 0 cursor longest) r.rejections (flip_from w n i r bs)
flips w cursor longest zero i r bs room = (bits_sound 0 cursor longest bs (omega arith) (omega arith), le_refl r.rejections)
flips w cursor longest (suc n) i r bs room = drawn_on (Sound 0 cursor longest) (answered (word w r.source)) (advanced w r) bs _
    (λ yes drew. let more = cond_both yes (set bs i true) bs (λ now. members now ≤ suc (members bs)) (λ taken. (members_put bs i).1) (λ passed. omega arith) in flips w cursor longest n (suc i) (advanced w r) (cond yes (set bs i true) bs) (omega arith))

module _ {X : Type 0} (w : Words X) (min max size : ℕ) (r : RunnerState X) where
  flipped_sound : Draws (Sound 0 min (max - min)) r.rejections (flipped w min max size r)
  flipped_sound = let none = no_members size in flips w min (max - min) (max - min) min r (replicate size false) (omega arith)

  module _ (low high : ℕ) (can : Sampleable min max size low high) where
    sized_sound : (k : ℕ) → (low ≤ k) × (k ≤ high) → Draws (Sound low min high) r.rejections (sample_from w (max - min) k min (advanced w r) (replicate size false))
    sized_sound k (large, small) =
        let none = no_members size in
        samples w low min high (max - min) k min (advanced w r) (replicate size false) (omega arith) (omega arith) (none_clear min max size can.bits can.inside) (omega arith) (omega arith)

    sampled_sound : Draws (Sound low min high) r.rejections (sampled w min max size low high r)
    sampled_sound =
        let range = drawn_range low high can.sizes (omega arith) (word w r.source) in
        drawn_on (Sound low min high) (drawn low high (word w r.source)) (advanced w r) (replicate size false) _ (λ k drew. sized_sound k (range k drew))

pub bits_roots : {P : Type 0} (min max size : P → ℕ) → Roots set_steps set_sound (λ p s. false) (bits_growth min max size) (bits_stated min max)
bits_roots min max size = set_roots (λ p X w. flipped w (min p) (max p) (size p)) (λ p included. included) (λ p included. own_number) (λ p. 0) min (bits_stated min max)
    (λ p X w. flipped_sound w (min p) (max p) (size p))

pub sampled_roots : {P : Type 0} (min max size low high : P → ℕ) → ((p : P) → Sampleable (min p) (max p) (size p) (low p) (high p)) →
    Roots set_steps set_sound (λ p s. false) (sampled_growth min max size low high) high
sampled_roots min max size low high can = set_roots (λ p X w. sampled w (min p) (max p) (size p) (low p) (high p)) (λ p included. included) (λ p included. own_number) low min high
    (λ p X w r. sampled_sound w (min p) (max p) (size p) r (low p) (high p) (can p))

pub sampled_minimum : {P : Type 0} (min max size low high : P → ℕ) (p : P) (X : Type 0) (w : Words X) (r : RunnerState X) (s : Place (SetTree ℕ)) → (sampled_growth min max size low high p X w r s).answer ≡ Ok tt → (sampled_growth min max size low high p X w r s).place.tree.min_count ≡ low p
sampled_minimum min max size low high = set_minimum (λ p X w. sampled w (min p) (max p) (size p) (low p) (high p)) (λ p included. included) (λ p included. own_number) low min high
