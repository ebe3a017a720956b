-- Pieces put together, and cut again.
use Rattle.std.proofs.Common.{◌≡◌, ℕ, ◌<◌, false, eqb, List, [], ◌∷◌, ◌++◌, length, Some, None, sym, refl, ap, ◌∙◌, arith}
use Rattle.std.specs.List.{AllByRecursion, join_with_byte}
use Rattle.std.proofs.lemmas.List.{length-append}
use Rattle.std.proofs.lemmas.List.Splits.{length-slice_split}
use Rattle.std.proofs.lemmas.Bool.{eq-eqb, ne_eqb}
use Rattle.plan.specs.Parts.{cut, pieces}
use Rattle.plan.proofs.Cutting.{pieces_whole, pieces_parted}

-- a text of bytes above the mark
abbrev pub Above : ℕ → List ℕ → Type 0
Above mark text = AllByRecursion (λ b. mark < b) text

module _ (mark : ℕ) where
  pub cut_past : (text rest : List ℕ) → Above mark text → cut mark (text ++ (mark ∷ rest)) ≡ Some (text, rest)
  cut_past [] rest h = rw (eq-eqb mark mark refl)
  cut_past (b ∷ bs) rest h = let e : eqb b mark ≡ false = ne_eqb b mark (λ z. omega (arith, h.0)) in rw (e, cut_past bs rest h.1)

  cut_nowhere : (text : List ℕ) → Above mark text → cut mark text ≡ None
  cut_nowhere [] h = refl
  cut_nowhere (b ∷ bs) h = let e : eqb b mark ≡ false = ne_eqb b mark (λ z. omega (arith, h.0)) in rw (e, cut_nowhere bs h.1)

  pub pieces_join : (p : List ℕ) (ps : List (List ℕ)) → AllByRecursion (Above mark) (p ∷ ps) → pieces mark (join_with_byte mark (p ∷ ps)) ≡ p ∷ ps
  pieces_join p [] h = pieces_whole mark p (sym (cut_nowhere p h.0))
  pieces_join p (q ∷ qs) h =
      pieces_parted mark (join_with_byte mark (p ∷ (q ∷ qs))) (sym (cut_past p (join_with_byte mark (q ∷ qs)) h.0))
      ∙ ap (λ ps. p ∷ ps) (pieces_join q qs h.1)

  pub join_some : (p : List ℕ) (ps : List (List ℕ)) → 0 < length p → 0 < length (join_with_byte mark (p ∷ ps))
  join_some p [] h = h
  join_some p (q ∷ qs) h = simp length-append (omega arith)

  pub pieces_some : (text : List ℕ) → 0 < length (pieces mark text)
  pieces_some text = omega (arith, length-slice_split (λ b. eqb b mark) text)
