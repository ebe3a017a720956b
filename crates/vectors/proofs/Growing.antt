-- The growth of a vector's elements in its place, one element at a time.

use Rattle.std.proofs.Common.{◌≡◌, ℕ, suc, ◌+◌, ◌-◌, ◌<◌, ◌≤◌, true, false, Ok, Err, MatchResult, is_ok, sym, ap, ◌∙◌, add-one, arith}
use Rattle.std.proofs.lemmas.Bool.{false≢true}
use Rattle.draws.specs.Runners.{RunnerState}
use Rattle.draws.specs.Faults.{in_element}
use Rattle.draws.specs.declared.faults.GrowFault.{GrowFault}
use Rattle.meaning.specs.Places.{Place}
use Rattle.meaning.specs.Growths.{Outcome, Grows, Grown}
use Rattle.meaning.specs.Vectors.{VecTree, grow_on, grow_from, vec_grown}

-- the place after the growth of some of its elements
abbrev pub with_elements : {T : Type 0} → Place (VecTree T) → T → Place (VecTree T)
with_elements p t = record { grown = p.grown; tree = record { elements = t; included = p.tree.included; min_size = p.tree.min_size; shrink = p.tree.shrink; prev_shrink = p.tree.prev_shrink; longest = p.tree.longest } }

-- what a growth of the elements that came to o makes of the vector
abbrev pub vec_with : {X T : Type 0} → (low longest size : ℕ) → VecTree T → Outcome X T → Outcome X (Place (VecTree T))
vec_with low longest size v o = vec_grown low longest size v o o.answer

-- growing the elements from number i on, in the place p, comes to the whole
pub record Growing {X T : Type 0} (g : ℕ → Grows X T) (low longest size : ℕ) (to : Outcome X (Place (VecTree T))) (i : ℕ) (r : RunnerState X) (p : Place (VecTree T)) : Type 0 where
  pub blank : p.grown ≡ false
  pub same : vec_with low longest size p.tree (grow_from g (size - i) i r p.tree.elements) ≡ to

-- element number i grew so
pub record Tried {X T : Type 0} (g : ℕ → Grows X T) (low longest size : ℕ) (to : Outcome X (Place (VecTree T))) (i : ℕ) (p : Place (VecTree T)) (o : Outcome X T) : Type 0 where
  pub blank : p.grown ≡ false
  pub same : vec_with low longest size p.tree (grow_on i o o.answer (grow_from g (size - suc i) (suc i))) ≡ to

module _ {X T : Type 0} {g : ℕ → Grows X T} {low longest size : ℕ} {to : Outcome X (Place (VecTree T))} {i : ℕ} {p : Place (VecTree T)} where
  pub grow_first : {r : RunnerState X} → i ≡ 0 → p.grown ≡ false → vec_with low longest size p.tree (grow_from g size 0 r p.tree.elements) ≡ to → Growing g low longest size to i r p
  grow_first {r = r} none blank e = record { blank = blank; same = rw none (ap (λ (n : ℕ). vec_with low longest size p.tree (grow_from g n 0 r p.tree.elements)) (let z : size - 0 ≡ size = omega arith in z) ∙ e) }

  pub grow_tried : {r : RunnerState X} → Growing g low longest size to i r p → i < size → (o : Outcome X T) → o ≡ g i r p.tree.elements → Tried g low longest size to i p o
  grow_tried {r = r} w h o q = record {
    blank = w.blank;
    same =
        ap (λ (o : Outcome X T). vec_with low longest size p.tree (grow_on i o o.answer (grow_from g (size - suc i) (suc i)))) q
        ∙ ap (λ (n : ℕ). vec_with low longest size p.tree (grow_from g n i r p.tree.elements)) (let z : suc (size - suc i) ≡ size - i = omega (arith, h) in z)
        ∙ w.same;
  }

  pub grow_next : {r : RunnerState X} {t : T} (a : Grown) → Tried g low longest size to i p (record { answer = a; runner = r; place = t }) → true ≡ is_ok a → Growing g low longest size to (i + 1) r (with_elements p t)
  grow_next (Ok _) w e = record { blank = w.blank; same = rw (add-one i) w.same }
  grow_next (Err _) w e = absurd (false≢true (sym e))

  pub grow_stop : {r : RunnerState X} {t : T} {fault : GrowFault} (a : Grown) → Tried g low longest size to i p (record { answer = a; runner = r; place = t }) → false ≡ is_ok a → MatchResult a (λ _. Unit {0}) (λ inner. fault ≡ in_element i inner) → record { answer = Err fault; runner = r; place = with_elements p t } ≡ to
  grow_stop (Ok _) w e q = absurd (false≢true e)
  grow_stop {r = r} {t = t} (Err inner) w e q = rw (q, w.blank) w.same

  pub grow_end : {r : RunnerState X} → Growing g low longest size to i r p → size ≤ i → vec_with low longest size p.tree (record { answer = Ok tt; runner = r; place = p.tree.elements }) ≡ to
  grow_end {r = r} w h = ap (λ (n : ℕ). vec_with low longest size p.tree (grow_from g n i r p.tree.elements)) (let z : 0 ≡ size - i = omega (arith, h) in z) ∙ w.same
