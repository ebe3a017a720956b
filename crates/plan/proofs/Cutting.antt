-- Where `cut` cuts, and how its parts make the text and its pieces.
use Rattle.std.proofs.Common.{◌≡◌, ℕ, zero, suc, ◌<◌, true, false, cond, eqb, List, [], ◌∷◌, ◌++◌, length, Some, None, Option, get_or, take, drop, sym, refl, ap, ◌∙◌, arith}
use Rattle.std.specs.List.{onto_first}
use Rattle.std.proofs.lemmas.Bool.{eq-eqb, ne_eqb, eqb-true, cond_both}
use Rattle.plan.specs.Parts.{cut, behind, pieces}

-- the first i bytes of the text are no marks
abbrev pub Unmarked : ℕ → List ℕ → ℕ → Type 0
Unmarked mark text i = (k : ℕ) → k < i → get_or text k 0 ≡ mark → ⊥

pub cut_none : (mark : ℕ) (text : List ℕ) → Unmarked mark text (length text) → cut mark text ≡ None
cut_none mark [] free = refl
cut_none mark (b ∷ bs) free =
    let e : eqb b mark ≡ false = ne_eqb b mark (free 0 (omega arith)) in
    let rest : cut mark bs ≡ None = cut_none mark bs (λ k h. free (suc k) (omega arith)) in
    rw (e, rest)

pub cut_at : (mark : ℕ) (text : List ℕ) (i : ℕ) → i < length text → Unmarked mark text i → get_or text i 0 ≡ mark → cut mark text ≡ Some (take i text, drop (suc i) text)
cut_at mark [] i h free here = let z : ⊥ = omega arith in absurd z
cut_at mark (b ∷ bs) zero h free here = let e : eqb b mark ≡ true = eq-eqb b mark here in rw e
cut_at mark (b ∷ bs) (suc i) h free here =
    let e : eqb b mark ≡ false = ne_eqb b mark (free 0 (omega arith)) in
    let rest : cut mark bs ≡ Some (take i bs, drop (suc i) bs) = cut_at mark bs i (omega arith) (λ k l. free (suc k) (omega arith)) here in
    rw (e, rest)

-- the pieces of a text, by where it is cut first
abbrev pieces_by : ℕ → List ℕ → Option (List ℕ × List ℕ) → List (List ℕ)
pieces_by mark text None = text ∷ []
pieces_by mark text (Some p) = p.0 ∷ pieces mark p.1

pieces_cut : (mark : ℕ) (text : List ℕ) → pieces mark text ≡ pieces_by mark text (cut mark text)
pieces_cut mark [] = refl
pieces_cut mark (b ∷ bs) =
    elim (eqb b mark) as (λ t. cond t ([] ∷ pieces mark bs) (onto_first b (pieces mark bs)) ≡ pieces_by mark (b ∷ bs) (cond t (Some ([], bs)) (behind b (cut mark bs))))
    [ true ↦ refl | false ↦ ap (onto_first b) (pieces_cut mark bs) ∙ onto_behind (cut mark bs) ]
  where
    onto_behind : (p : Option (List ℕ × List ℕ)) → onto_first b (pieces_by mark bs p) ≡ pieces_by mark (b ∷ bs) (behind b p)
    onto_behind None = refl
    onto_behind (Some p) = refl

-- a text is its parts with the mark between them
abbrev pub Rejoins : ℕ → List ℕ → Option (List ℕ × List ℕ) → Type 0
Rejoins mark text None = Unit {0}
Rejoins mark text (Some p) = text ≡ p.0 ++ (mark ∷ p.1)

pub cut_rejoins : (mark : ℕ) (text : List ℕ) → Rejoins mark text (cut mark text)
cut_rejoins mark [] = tt
cut_rejoins mark (b ∷ bs) =
    cond_both (eqb b mark) (Some ([], bs)) (behind b (cut mark bs)) (Rejoins mark (b ∷ bs)) (λ e. ap (λ x. x ∷ bs) (eqb-true b mark e)) (λ _. put (cut mark bs) (cut_rejoins mark bs))
  where
    put : (p : Option (List ℕ × List ℕ)) → Rejoins mark bs p → Rejoins mark (b ∷ bs) (behind b p)
    put None h = tt
    put (Some p) h = ap (λ z. b ∷ z) h

pub pieces_whole : (mark : ℕ) (text : List ℕ) → None ≡ cut mark text → pieces mark text ≡ text ∷ []
pieces_whole mark text e = pieces_cut mark text ∙ ap (pieces_by mark text) (sym e)

module _ {before after : List ℕ} (mark : ℕ) (text : List ℕ) (e : Some (before, after) ≡ cut mark text) where
  pub pieces_parted : pieces mark text ≡ before ∷ pieces mark after
  pieces_parted = pieces_cut mark text ∙ ap (pieces_by mark text) (sym e)

  pub rejoined : text ≡ before ++ (mark ∷ after)
  rejoined = rw (← e) at (cut_rejoins mark text)
