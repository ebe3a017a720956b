-- The laws of the growth of range subsets.
--   subset_roots   a range subset has as many members as were drawn, all of them distinct
--   subset_inside  they lie within the range
--   subset_minimum its fewest members are its lowest size

use Rattle.std.proofs.Common.{◌≡◌, ℕ, zero, suc, ◌+◌, ◌-◌, ◌<◌, ◌≤◌, false, List, [], ◌∷◌, ◌++◌, length, get_or, Ok, Err, sym, refl, ap, ◌∙◌, subst, le_refl, arith, length-append}
use Rattle.std.proofs.lemmas.List.{get_or_append_left, get_or_push}
use Rattle.std.proofs.lemmas.Bool.Decides.{nat_tests}
use Rattle.draws.specs.Draws.{drawn}
use Rattle.draws.specs.Runners.{RunnerState, advanced}
use Rattle.draws.specs.Sources.{Words, word}
use Rattle.draws.specs.declared.faults.Cause.TheVariants.{Slots}
use Rattle.meaning.specs.Places.{Place}
use Rattle.meaning.specs.Growths.{Grown, Outcome, Roots}
use Rattle.meaning.specs.GrowthLaws.{Gives}
use Rattle.meaning.specs.Sets.{SetTree, set_steps, set_answered, set_grown}
use Rattle.meaning.specs.SetLaws.{Distinct, SetSound, set_sound, Within, Naming, Choosable}
use Rattle.meaning.specs.RangeSubsets.{exchanged, shuffle_from, chosen, subset, subset_growth}
use Rattle.meaning.specs.Vectors.{all_of}
use Rattle.meaning.proofs.Included.{all_length, all_members}
use Rattle.meaning.proofs.Drawing.{drawn_range, Draws, drawn_on, drawn_so}
use Rattle.meaning.proofs.SetGrowth.{set_minimum, set_roots}

-- places i and j have changed numbers
module _ (i j : ℕ) where
  exchanged_first : exchanged i j i ≡ j
  exchanged_first = grind (arith, nat_tests)

  exchanged_else : (k : ℕ) → (k ≡ i → ⊥) → (k ≡ j → ⊥) → exchanged i j k ≡ k
  exchanged_else k not-i not-j = grind (arith, nat_tests)

  exchanged_twice : (k : ℕ) → exchanged i j (exchanged i j k) ≡ k
  exchanged_twice k = grind (arith, nat_tests)

  exchanged_below : (n : ℕ) → i < n → j < n → (k : ℕ) → k < n → exchanged i j k < n
  exchanged_below n i-below j-below k below = grind (arith, nat_tests)

-- i numbers of a range, chosen by shuffling: they stand at its first places, and it still has each of its numbers once
record Shuffled (start count i : ℕ) (at : ℕ → ℕ) (items : List ℕ) : Type 0 where
  all : length items ≡ i
  first : (k : ℕ) → k < i → get_or items k 0 ≡ at k
  apart : (k l : ℕ) → at k ≡ at l → k ≡ l
  inside : (k : ℕ) → k < count → Within start count (at k)

unshuffled : (start count : ℕ) → Shuffled start count 0 (λ k. start + k) []
unshuffled start count = record {
  all = refl;
  first = λ k below. absurd (omega arith);
  apart = λ k l same. omega arith;
  inside = λ k below. (omega arith, omega arith);
}

one_more : (start count i j : ℕ) (at : ℕ → ℕ) (items : List ℕ) → i ≤ j → j < count → Shuffled start count i at items → Shuffled start count (suc i) (λ k. at (exchanged i j k)) (items ++ (at j ∷ []))
one_more start count i j at items from below shuffled = record {
  all = simp length-append (omega arith);
  first = λ k under. grind (arith, get_or_push, get_or_append_left, exchanged_first, exchanged_else, shuffled.first k);
  apart = λ k l same. sym (exchanged_twice i j k) ∙ ap (exchanged i j) (shuffled.apart _ _ same) ∙ exchanged_twice i j l;
  inside = λ k under. shuffled.inside (exchanged i j k) (exchanged_below i j count (omega arith) below k under);
}

-- distinct numbers of a range, from low to high of them
record Subset (start count low high : ℕ) (items : List ℕ) : Type 0 where
  enough : low ≤ length items
  room : length items ≤ high
  distinct : Distinct (λ i. get_or items i 0) (length items)
  inside : (i : ℕ) → i < length items → Within start count (get_or items i 0)

shuffled_subset : (start count low high n : ℕ) (at : ℕ → ℕ) (items : List ℕ) → (low ≤ n) × (n ≤ high) → n ≤ count → Shuffled start count n at items → Subset start count low high items
shuffled_subset start count low high n at items (large, small) fits shuffled = record {
  enough = omega arith;
  room = omega arith;
  distinct = λ i j i-below j-below same. shuffled.apart i j (sym (shuffled.first i (omega arith)) ∙ same ∙ shuffled.first j (omega arith));
  inside = λ i below. rw (shuffled.first i (omega arith)) (shuffled.inside i (omega arith));
}

module _ {X : Type 0} (w : Words X) (start count low high : ℕ) (can : Choosable count low high) where
  abbrev Drawn : RunnerState X → Outcome X (List ℕ) → Type 0
  Drawn r = Draws (Subset start count low high) r.rejections

  -- n numbers in all, of which more are still to be chosen
  module _ (n : ℕ) (size : (low ≤ n) × (n ≤ high)) (fits : n ≤ count) where
    shuffles : (more i : ℕ) (at : ℕ → ℕ) (r : RunnerState X) (items : List ℕ) → i + more ≡ n → Shuffled start count i at items → Drawn r (shuffle_from w count more i at r items)
    shuffles zero i at r items e shuffled =
        let all : i ≡ n = omega arith in
        (shuffled_subset start count low high n at items size fits (subst (λ (k : ℕ). Shuffled start count k at items) all shuffled), le_refl r.rejections)
    shuffles (suc more) i at r items e shuffled = drawn_on (Subset start count low high) (drawn i (count - 1) (word w r.source)) (advanced w r) items _
        (λ j drew. shuffles more (suc i) (λ k. at (exchanged i j k)) (advanced w r) (items ++ (at j ∷ [])) (omega arith) (next j drew))
      where
        next : (j : ℕ) → drawn i (count - 1) (word w r.source) ≡ Ok j → Shuffled start count (suc i) (λ k. at (exchanged i j k)) (items ++ (at j ∷ []))
        next j drew =
            let (from, to) = drawn_range i (count - 1) (omega arith) (omega arith) (word w r.source) j drew in
            one_more start count i j at items from (omega arith) shuffled

  sized_subset : (r : RunnerState X) (n : ℕ) → (low ≤ n) × (n ≤ high) → Drawn r (shuffle_from w count n 0 (λ k. start + k) (advanced w r) [])
  sized_subset r n size = shuffles n size (omega arith) n 0 (λ k. start + k) (advanced w r) [] (omega arith) (unshuffled start count)

  chosen_subset : (r : RunnerState X) → Drawn r (chosen w start count low high r)
  chosen_subset r =
      let range = drawn_range low high can.sizes (omega arith) (word w r.source) in
      drawn_on (Subset start count low high) (drawn low high (word w r.source)) (advanced w r) [] _ (λ n drew. sized_subset r n (range n drew))

  subset_sound : (items : List ℕ) → Subset start count low high items → SetSound (subset low high items)
  subset_sound items is_subset = record {
    enough = rw (all_members (length items)) is_subset.enough;
    distinct = rw (all_length (length items)) is_subset.distinct;
    room = rw (all_members (length items)) is_subset.room;
  }

  chosen_sound : (r : RunnerState X) → Draws (λ items. SetSound (subset low high items)) r.rejections (chosen w start count low high r)
  chosen_sound r = drawn_so r.rejections (chosen w start count low high r) subset_sound (chosen_subset r)

  inside_grown : (old : SetTree ℕ) (o : Outcome X (List ℕ)) (answer : Grown) → Gives (Subset start count low high o.place) (λ cause. cause ≡ Slots → ⊥) answer →
      Naming (Within start count) (set_answered (subset low high) old o answer).place
  inside_grown old o (Ok _) is_subset = λ i below. is_subset.inside i (rw all_length at below)
  inside_grown old o (Err fault) not_slots = tt

  chosen_inside : (r : RunnerState X) (old : SetTree ℕ) → Naming (Within start count) (set_grown (subset low high) old (chosen w start count low high r)).place
  chosen_inside r old = inside_grown old (chosen w start count low high r) (chosen w start count low high r).answer (chosen_subset r).0

module _ {P : Type 0} (start count low high : P → ℕ) (can : (p : P) → Choosable (count p) (low p) (high p)) where
  pub subset_roots : Roots set_steps set_sound (λ p s. false) (subset_growth start count low high) high
  subset_roots = set_roots (λ p X w. chosen w (start p) (count p) (low p) (high p)) (λ p items. all_of (length items)) (λ p items i. get_or items i 0) low (λ p. 0) high
      (λ p X w. chosen_sound w (start p) (count p) (low p) (high p) (can p))

  pub subset_inside : (p : P) (X : Type 0) (w : Words X) (r : RunnerState X) (s : Place (SetTree ℕ)) → Naming (Within (start p) (count p)) (subset_growth start count low high p X w r s).place
  subset_inside p X w r s = chosen_inside w (start p) (count p) (low p) (high p) (can p) r s.tree

pub subset_minimum : {P : Type 0} (start count low high : P → ℕ) (p : P) (X : Type 0) (w : Words X) (r : RunnerState X) (s : Place (SetTree ℕ)) → (subset_growth start count low high p X w r s).answer ≡ Ok tt → (subset_growth start count low high p X w r s).place.tree.min_count ≡ low p
subset_minimum start count low high = set_minimum (λ p X w. chosen w (start p) (count p) (low p) (high p)) (λ p items. all_of (length items)) (λ p items i. get_or items i 0) low (λ p. 0) high
