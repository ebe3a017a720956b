-- The first elements of a table, grown in order: what they are then, and what their growth keeps.

use Rattle.std.proofs.Common.{◌≡◌, ℕ, suc, ◌<◌, ◌≤◌, Bool, true, false, cond, ltb, None, Ok, ◌∙◌, le_refl, arith}
use Rattle.std.proofs.Math.Nat.{le-min}
use Rattle.std.proofs.lemmas.Bool.{ltb-false}
use Rattle.draws.specs.Runners.{RunnerState}
use Rattle.draws.specs.Sources.{Words}
use Rattle.draws.specs.declared.faults.Cause.{Cause}
use Rattle.draws.specs.declared.faults.Cause.TheVariants.{Slots}
use Rattle.meaning.specs.declared.collection.Shrink.{Shrink}
use Rattle.meaning.specs.declared.collection.Shrink.TheVariants.{DeleteElement, ShrinkElement}
use Rattle.meaning.specs.Trees.{Steps}
use Rattle.meaning.specs.GrowthLaws.{gives}
use Rattle.meaning.specs.Tables.{TableGrowth}
use Rattle.meaning.specs.TableLaws.{Standing, TableRoots, together}
use Rattle.meaning.specs.Vectors.{all_of, grow_from, most_items, vec_stated}
use Rattle.meaning.specs.VectorLaws.{Ahead, VecSound}
use Rattle.meaning.proofs.Included.{all_length, all_members, all_there}
use Rattle.meaning.proofs.Joining.{everywhere, together_same}
use Rattle.meaning.proofs.Growing.{neither, Given, given_from, Kept, unchanged}

-- slots enough for n elements, and no more items than may be stated
pub slots_and_room : {T : Type 0} (short : ℕ → T → Bool) (stated : ℕ → ℕ) (n : ℕ) (s : T) → cond (short n s) true (ltb most_items (stated n)) ≡ false → (short n s ≡ false) × (stated n ≤ vec_stated stated n)
slots_and_room short stated n s enough =
    let (slots, room) = neither (short n s) (ltb most_items (stated n)) enough in
    (slots, le-min (le_refl (stated n)) (ltb-false most_items (stated n) room))

all_ahead : (shrink : Shrink) (n : ℕ) → Ahead shrink (all_of n)
all_ahead (DeleteElement cursor) n = λ i past below. all_there n i below
all_ahead (ShrinkElement cursor) n = tt

module _ {T I P : Type 0} {table : ℕ → Steps T I} {sound : ℕ → T → Type 0} {short : P → ℕ → T → Bool} {g : TableGrowth P T} {stated : P → ℕ → ℕ}
    (roots : TableRoots table sound short g stated) (p : P) (X : Type 0) (w : Words X) where
  -- the first n elements stand, and together state no more than the strategy does
  pub record Elements (n : ℕ) (s : T) : Type 0 where
    pub each : (j : ℕ) → j < n → Standing (table j) (sound j) s
    pub room : together (λ j. (table j).longest s) n ≤ stated p n

  no_elements : (s : T) → Elements 0 s
  no_elements s = record { each = λ j below. absurd (omega arith); room = omega arith }

  one_more : (i : ℕ) (r : RunnerState X) (s : T) → Elements i s → (g p X w i r s).answer ≡ Ok tt → Elements (suc i) (g p X w i r s).place
  one_more i r s elements e =
      let now = (g p X w i r s).place in
      let (rooted, states) = roots.accepted p X w i r s e in
      let apart = λ (j : ℕ) (other : j ≡ i → ⊥). roots.apart p X w i j other r s in
      record {
        each = everywhere (λ j. j < suc i → Standing (table j) (sound j) now) i
            (λ below. (rooted.is_sound, rooted.is_grown))
            (λ j other below. let standing = elements.each j (omega arith) in ((apart j other).still_sound standing.0, (apart j other).same_grown ∙ standing.1));
        room =
            let before = together_same (λ j. (table j).longest now) (λ j. (table j).longest s) i (λ j below. (apart j (λ e. omega arith)).same_longest) in
            omega arith;
      }

  -- a vector of all of them is sound, wherever its cursor stands
  pub all_sound : (low n longest : ℕ) (shrink : Shrink) (s : T) → low ≤ n → stated p n ≤ longest → Elements n s →
      VecSound table (λ i. Standing (table i) (sound i)) (record { elements = s; included = all_of n; min_size = low; shrink = shrink; prev_shrink = None; longest = longest })
  all_sound low n longest shrink s large fits elements = record {
    enough = rw (all_members n) large;
    each = λ i below. elements.each i (rw all_length at below);
    ahead = all_ahead shrink n;
    noted = tt;
    room = rw (all_length n) (omega arith);
  }

  -- from the runner and table that a growth starts with
  module _ (r : RunnerState X) (s : T) where
    kept_on : (i : ℕ) (r' : RunnerState X) (s' : T) → Kept short r s r' s' → Kept short r s (g p X w i r' s').runner (g p X w i r' s').place
    kept_on i r' s' kept = let here = roots.calm p X w i r' s' in record { calm = omega arith; lasting = λ q n. roots.lasting p q X w n i r' s' ∙ kept.lasting q n }

    abbrev pub Done : ℕ → RunnerState X → T → Type 0
    Done i r' s' = Elements i s' × Kept short r s r' s'

    abbrev pub Failed : RunnerState X → T → Cause → Type 0
    Failed r' s' cause = (cause ≡ Slots → ⊥) × Kept short r s r' s'

    -- n elements that grow in order, where there are slots enough for the highest size
    module _ (high : ℕ) (enough : short p high s ≡ false) (n : ℕ) (small : n ≤ high) where
      element_given : (i : ℕ) (r' : RunnerState X) (s' : T) → i < n → Done i r' s' → Given (g p X w) n Done Failed (suc i) (g p X w i r' s') (g p X w i r' s').answer
      element_given i r' s' below (elements, kept) = gives _ _ (g p X w i r' s').answer
          (λ e. (one_more i r' s' elements e, kept_on i r' s' kept))
          (λ fault e. (roots.untold p X w high i (omega arith) r' s' fault (kept.lasting p high ∙ enough) e, kept_on i r' s' kept))

      pub elements_given : Given (g p X w) n Done Failed n (grow_from (g p X w) n 0 r s) (grow_from (g p X w) n 0 r s).answer
      elements_given = given_from (g p X w) n Done Failed element_given n 0 (omega arith) r s (no_elements s, unchanged short r s)
