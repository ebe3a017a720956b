-- The slots of a slice, read through the states of the trees in them.

use Rattle.std.proofs.Common.{◌≡◌, ℕ, zero, suc, Bool, false, List, [], ◌∷◌, map, length, set, Option, Some, None, refl, ap, ◌∙◌, sym}
use Rattle.std.specs.Option.{MatchOption, option_map, unwrap_or}
use Rattle.std.specs.List.{slice_get}
use Rattle.std.specs.Slice.{IsItemAt}
use Rattle.std.proofs.lemmas.Option.{none-some, same_Some, slice_get_read, slice_get_past}
use denote.Ref.{Bor}
use Rattle.meaning.specs.Trees.{Stepped}
use Rattle.meaning.specs.Tables.{at, step_at}

module _ {Y S : Type 0} (state : Y → S) where
  at_get : {A : Type 0} (f : S → A) (d : A) (xs : List Y) (i : ℕ) → at f d (map state xs) i ≡ unwrap_or (option_map (λ x. f (state x)) (slice_get xs i)) d
  at_get f d [] i = refl
  at_get f d (x ∷ xs) zero = refl
  at_get f d (x ∷ xs) (suc i) = at_get f d xs i

  -- what f says of tree number i, where r is what `get` lent of it
  pub at_lent : {A : Type 0} (f : S → A) (d : A) (xs : List Y) (i : ℕ) (r : Option (Bor Y)) → IsItemAt xs i r → at f d (map state xs) i ≡ unwrap_or (option_map (λ x. f (state x.now)) r) d
  at_lent f d xs i None h = at_get f d xs i ∙ ap (λ o. unwrap_or (option_map (λ x. f (state x)) o) d) (slice_get_past xs i h.3)
  at_lent f d xs i (Some x) h = at_get f d xs i ∙ ap (λ o. unwrap_or (option_map (λ x. f (state x)) o) d) (slice_get_read xs (length xs) i x.now refl h.3.0 (h.3.1 x.now))

  step_slot : (f : S → Stepped S) (xs : List Y) (i : ℕ) (x v : Y) (a : Bool) → slice_get xs i ≡ Some x → record { answer = a; tree = state v } ≡ f (state x) → record { answer = a; tree = map state (set xs i v) } ≡ step_at f (map state xs) i
  step_slot f [] i x v a e q = absurd (none-some x e)
  step_slot f (y ∷ xs) zero x v a e q = ap (λ (s : Stepped S). record { answer = s.answer; tree = s.tree ∷ map state xs }) (q ∙ ap (λ (z : Y). f (state z)) (sym (same_Some y x e)))
  step_slot f (y ∷ xs) (suc i) x v a e q = ap (λ (s : Stepped (List S)). record { answer = s.answer; tree = state y ∷ s.tree }) (step_slot f xs i x v a e q)

  step_past : (f : S → Stepped S) (xs : List Y) (i : ℕ) → slice_get xs i ≡ None → record { answer = false; tree = map state xs } ≡ step_at f (map state xs) i
  step_past f [] i e = refl
  step_past f (y ∷ xs) zero e = absurd (none-some y (sym e))
  step_past f (y ∷ xs) (suc i) e = ap (λ (s : Stepped (List S)). record { answer = s.answer; tree = state y ∷ s.tree }) (step_past f xs i e)

  -- a step of the tree in slot i, stored back, where the step does f to a tree
  pub stepped : (f : S → Stepped S) (R : Y → Y → Type 0) (xs ys : List Y) (i : ℕ) (a : Bool) → MatchOption (slice_get xs i) ((a ≡ false) × (ys ≡ xs)) (λ x. (v : Y) × R x v × (ys ≡ set xs i v)) → ((x v : Y) → R x v → record { answer = a; tree = state v } ≡ f (state x)) → record { answer = a; tree = map state ys } ≡ step_at f (map state xs) i
  stepped f R xs ys i a h does = by (slice_get xs i) refl h
    where
      by : (o : Option Y) → slice_get xs i ≡ o → MatchOption o ((a ≡ false) × (ys ≡ xs)) (λ x. (v : Y) × R x v × (ys ≡ set xs i v)) → record { answer = a; tree = map state ys } ≡ step_at f (map state xs) i
      by None e (stays, same) = rw stays (rw same (step_past f xs i e))
      by (Some x) e (v, met, left) = rw left (step_slot f xs i x v a e (does x v met))
