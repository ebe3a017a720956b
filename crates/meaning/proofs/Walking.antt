-- What a step of one tree of a table does to all of them, and what simplifying the members in turn does.

use Rattle.std.proofs.Common.{◌≡◌, ℕ, suc, ◌<◌, Bool, true, false, List, [], ◌∷◌, length, get_or, drop, sym, refl, ap, ◌∙◌, subst, inl, arith}
use Rattle.std.proofs.lemmas.Bool.{false≢true}
use Rattle.meaning.specs.Trees.{Steps, meant, Simplifies}
use Rattle.meaning.specs.TableLaws.{Apart, TableKeeps}
use Rattle.meaning.specs.Vectors.{Walked, go_on, walk}
use Rattle.meaning.proofs.Included.{front}
use Rattle.meaning.proofs.Joining.{everywhere}

-- a simplify after one that answered false is as one from the start
after_false : {S I : Type 0} (t : Steps S I) (first then now : S) (answer : Bool) → Simplifies (meant t first) false (meant t then) → Simplifies (meant t then) answer (meant t now) → Simplifies (meant t first) answer (meant t now)
after_false t first then now true still step = step ∙ still.0
after_false t first then now false still step = (step.0 ∙ still.0, grind (arith, still.0, still.1, step.1))

-- a tree that was not changed is apart, and one that a call left apart shows what it did
pub same_apart : {S I : Type 0} (t : Steps S I) (sound : S → Type 0) {before now : S} → now ≡ before → Apart t sound before now
same_apart t sound e = record { same_meant = ap (meant t) e; same_longest = ap t.longest e; same_grown = ap t.grown e; still_sound = subst sound (sym e) }

pub apart_candidate : {S I : Type 0} {t : Steps S I} {sound : S → Type 0} {before now : S} → Apart t sound before now → t.candidate now ≡ t.candidate before
apart_candidate apart = ap (λ m. m.candidate) apart.same_meant

-- it is as after a false simplify
apart_false : {S I : Type 0} {t : Steps S I} {sound : S → Type 0} {before now : S} → Apart t sound before now → Simplifies (meant t before) false (meant t now)
apart_false apart = (apart_candidate apart, inl (ap (λ m. m.home) apart.same_meant))

module _ {T I : Type 0} (table : ℕ → Steps T I) (sound : ℕ → T → Type 0) where
  -- a call on tree number i alone, which keeps its soundness and its longest
  pub record Touched (i : ℕ) (before now : T) : Type 0 where
    pub still_sound : sound i before → sound i now
    pub same_longest : (table i).longest now ≡ (table i).longest before
    pub apart : (j : ℕ) → (j ≡ i → ⊥) → Apart (table j) (sound j) before now

  pub touched_sound : {i : ℕ} {before now : T} → Touched i before now → (j : ℕ) → sound j before → sound j now
  touched_sound {i} {before} {now} t = everywhere (λ j. sound j before → sound j now) i t.still_sound (λ j other. (t.apart j other).still_sound)

  pub touched_longest : {i : ℕ} {before now : T} → Touched i before now → (j : ℕ) → (table j).longest now ≡ (table j).longest before
  touched_longest {i} {before} {now} t = everywhere (λ j. (table j).longest now ≡ (table j).longest before) i t.same_longest (λ j other. (t.apart j other).same_longest)

  -- what a walk over the members of included leaves, of all trees and of the one at which it stopped
  pub record Walks (included : List Bool) (s : T) (w : Walked T) : Type 0 where
    pub each : (j : ℕ) → j < length included → sound j w.elements
    pub same_longest : (j : ℕ) → (table j).longest w.elements ≡ (table j).longest s
    pub others : (j : ℕ) → (j ≡ w.place → ⊥) → Simplifies (meant (table j) s) false (meant (table j) w.elements)
    pub here : Simplifies (meant (table w.place) s) w.found (meant (table w.place) w.elements)
    pub member : w.found ≡ true → (w.place < length included) × (get_or included w.place false ≡ true)

  -- member number i was asked, and the walk stops there or goes on
  walks_on : (included : List Bool) (i : ℕ) (s s₁ : T) (answer : Bool) (next : T → Walked T) →
      (i < length included) × (get_or included i false ≡ true) → ((j : ℕ) → j < length included → sound j s₁) → Touched i s s₁ → Simplifies (meant (table i) s) answer (meant (table i) s₁) →
      Walks included s₁ (next s₁) → Walks included s (go_on i (record { answer = answer; tree = s₁ }) next)
  walks_on included i s s₁ true next member each touched step later = record {
    each = each;
    same_longest = touched_longest touched;
    others = λ j other. apart_false (touched.apart j other);
    here = step;
    member = λ found. member;
  }
  walks_on included i s s₁ false next member each touched step later =
      let still = everywhere (λ j. Simplifies (meant (table j) s) false (meant (table j) s₁)) i step (λ j other. apart_false (touched.apart j other)) in
      let w = next s₁ in
      record {
        each = later.each;
        same_longest = λ j. later.same_longest j ∙ touched_longest touched j;
        others = λ j other. after_false (table j) s s₁ w.elements false (still j) (later.others j other);
        here = after_false (table w.place) s s₁ w.elements w.found (still w.place) later.here;
        member = later.member;
      }

  module _ (keeps : TableKeeps table sound) where
    pub simplify_touched : (i : ℕ) (s : T) → sound i s → Touched i s ((table i).simplify s).tree
    simplify_touched i s is_sound = let kept = (keeps.each i).simplify s is_sound in record { still_sound = λ _. kept.0; same_longest = kept.2; apart = λ j other. keeps.simplify_apart i j other s }

    pub complicate_touched : (i : ℕ) (s : T) → sound i s → Touched i s ((table i).complicate s).tree
    complicate_touched i s is_sound = let kept = (keeps.each i).complicate s is_sound in record { still_sound = λ _. kept.0; same_longest = kept.2; apart = λ j other. keeps.complicate_apart i j other s }

    pub walks : (included : List Bool) (bs : List Bool) (i : ℕ) → drop i included ≡ bs → (s : T) → ((j : ℕ) → j < length included → sound j s) → Walks included s (walk table bs i s)
    walks included [] i left s each = record { each = each; same_longest = λ j. refl; others = λ j other. (refl, inl refl); here = (refl, inl refl); member = λ found. absurd (false≢true found) }
    walks included (false ∷ bs) i left s each = walks included bs (suc i) (front included i false bs left).next s each
    walks included (true ∷ bs) i left s each =
        let at = front included i true bs left in
        let is_sound = each i at.below in
        let touched = simplify_touched i s is_sound in
        let still-each : (j : ℕ) → j < length included → sound j ((table i).simplify s).tree = λ j below. touched_sound touched j (each j below) in
        walks_on included i s ((table i).simplify s).tree ((table i).simplify s).answer (walk table bs (suc i)) (at.below, at.here) still-each touched ((keeps.each i).simplify s is_sound).1
        (walks included bs (suc i) at.next ((table i).simplify s).tree still-each)
