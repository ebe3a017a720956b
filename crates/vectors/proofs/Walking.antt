-- The walk over the members, one member at a time.

use Rattle.std.proofs.Common.{◌≡◌, ℕ, max, true, false, List, [], ◌∷◌, length, drop, sym, ap, ◌∙◌, refl, arith, length-drop}
use Rattle.meaning.specs.Trees.{Stepped, Steps}
use Rattle.meaning.specs.Places.{Place}
use Rattle.meaning.specs.Vectors.{VecTree, Walked, walk, walked, go_on, vec_simplify, vec_steps}
use Rattle.vectors.specs.Numbers.{numbers}
use Rattle.vectors.proofs.Members.{walk_over, walk_numbers}

-- the step of a vector in its place whose walk came to w
abbrev pub step_to : {T : Type 0} → Place (VecTree T) → Walked T → Stepped (Place (VecTree T))
step_to p w = record { answer = w.found; tree = record { grown = p.grown; tree = (walked p.tree w).tree } }

-- what the walk over the members left comes to, with the elements as they now are, is the whole step
pub record Walking {T I : Type 0} (table : ℕ → Steps T I) (p : Place (VecTree T)) (end : ℕ) (left : List ℕ) (t : T) : Type 0 where
  pub same : step_to p (walk_over table left end t) ≡ (vec_steps table).simplify p

pub walk_first : {T I : Type 0} {table : ℕ → Steps T I} {p : Place (VecTree T)} (i : ℕ) {left : List ℕ} → left ≡ numbers i (drop i p.tree.included) → p.grown ≡ true → vec_simplify table p.tree p.tree.shrink ≡ walked p.tree (walk table (drop i p.tree.included) i p.tree.elements) → Walking table p (max i (length p.tree.included)) left p.tree.elements
walk_first {table = table} {p = p} i n grown e =
    let l = length-drop i p.tree.included in
    let w = walk_numbers table (drop i p.tree.included) i (max i (length p.tree.included)) p.tree.elements (omega (arith, l)) in
    record { same = rw (n, grown, e, w) refl }

module _ {T I : Type 0} {table : ℕ → Steps T I} {p : Place (VecTree T)} {end : ℕ} {left : List ℕ} {t : T} (w : Walking table p end left t) where
  pub walk_end : left ≡ [] → step_to p (record { elements = t; place = end; found = false }) ≡ (vec_steps table).simplify p
  walk_end e = ap (λ (ns : List ℕ). step_to p (walk_over table ns end t)) (sym e) ∙ w.same

  stepped : {i : ℕ} {rest : List ℕ} → left ≡ i ∷ rest → (s : Stepped T) → s ≡ (table i).simplify t → step_to p (go_on i s (walk_over table rest end)) ≡ (vec_steps table).simplify p
  stepped {i = i} {rest = rest} e s q = ap (λ (s : Stepped T). step_to p (go_on i s (walk_over table rest end))) q ∙ ap (λ (ns : List ℕ). step_to p (walk_over table ns end t)) (sym e) ∙ w.same

  pub walk_found : {i : ℕ} {rest : List ℕ} → left ≡ i ∷ rest → (t' : T) → record { answer = true; tree = t' } ≡ (table i).simplify t → step_to p (record { elements = t'; place = i; found = true }) ≡ (vec_steps table).simplify p
  walk_found e t' q = stepped e (record { answer = true; tree = t' }) q

  pub walk_on : {i : ℕ} {rest : List ℕ} → left ≡ i ∷ rest → (t' : T) → record { answer = false; tree = t' } ≡ (table i).simplify t → Walking table p end rest t'
  walk_on e t' q = record { same = stepped e (record { answer = false; tree = t' }) q }
