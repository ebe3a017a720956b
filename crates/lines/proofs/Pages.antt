-- Lines written one after another by `write_at`, each from the place behind the one before: what a loop over such calls keeps.
use Rattle.std.proofs.Common.{◌≡◌, ℕ, ◌+◌, true, false, leb, List, [], ◌∷◌, ◌++◌, length, Ok, Err, sym, refl, ap, ◌∙◌, arith, length-append}
use Rattle.std.proofs.lemmas.List.{flat_map_more}
use Rattle.std.proofs.lemmas.Bool.Decides.{nat_tests}
use Rattle.lines.specs.declared.LineFault.{LineFault}
use Rattle.lines.specs.Lines.{Said, line_bytes, page, ending}
use Rattle.buffers.specs.Over.{over, over_from, laid_from}
use Rattle.buffers.proofs.Overs.{over_append}

-- the buffer, which held `out`, holds `now`: the lines that say ss, and the next goes to `at`
pub record Page (ss : List Said) (out : List ℕ) (at : ℕ) (now : List ℕ) : Type 0 where
  pub ends : at ≡ length (page ss)
  pub holds : now ≡ over (page ss) out

pub page_none : (out : List ℕ) → Page [] out 0 out
page_none out = record { ends = refl; holds = refl }

page_push : (ss : List Said) (s : Said) → page ss ++ line_bytes s ≡ page (ss ++ s ∷ [])
page_push ss s = flat_map_more line_bytes [] ss s

module _ {ss : List Said} {out : List ℕ} {at : ℕ} {now : List ℕ} (p : Page ss out at now) (s : Said) (after : List ℕ)
    (wrote : after ≡ laid_from at (line_bytes s) now) where
  -- the line that says s was written
  pub page_more : (behind : ℕ) → Ok behind ≡ ending (at + length (line_bytes s)) now → Page (ss ++ s ∷ []) out behind after
  page_more behind ok =
      let place : behind ≡ at + length (line_bytes s) = grind (arith, nat_tests) in
      let room : leb (at + length (line_bytes s)) (length now) ≡ true = grind (arith, nat_tests) in
      record {
        ends =
            place
            ∙ ap (λ n. n + length (line_bytes s)) p.ends
            ∙ sym (length-append (page ss) (line_bytes s))
            ∙ ap length (page_push ss s);
        holds =
            (rw room at wrote)
            ∙ ap (λ n. over_from n (line_bytes s) now) p.ends
            ∙ ap (over_from (length (page ss)) (line_bytes s)) p.holds
            ∙ over_append (page ss) (line_bytes s) out
            ∙ ap (λ bytes. over bytes out) (page_push ss s);
      }

  -- the line that says s was refused
  pub page_same : (fault : LineFault) → Err fault ≡ ending (at + length (line_bytes s)) now → Page ss out at after
  page_same fault err =
      let short : leb (at + length (line_bytes s)) (length now) ≡ false = grind (arith, nat_tests) in
      record { ends = p.ends; holds = (rw short at wrote) ∙ p.holds }
