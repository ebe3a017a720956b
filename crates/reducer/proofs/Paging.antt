-- A line written behind those that stand on a page, a page as the witness of some steps, and a page copied out.

use Rattle.std.proofs.Common.{◌≡◌, ℕ, ◌+◌, ◌≤◌, min, Bool, true, false, cond, leb, List, [], ◌∷◌, ◌++◌, map, length, take, drop, Ok, Err, sym, refl, ap, ◌∙◌, arith, append-nil, append_assoc, length-append, length-drop, length-take-le, le-leb, take_all}
use Rattle.std.proofs.lemmas.Bool.{leb-true}
use Rattle.std.proofs.Math.Seq.{take-append_seam}
use Rattle.buffers.specs.Over.{over, laid, laid_from}
use Rattle.buffers.proofs.Overs.{over_fits, take_over}
use Rattle.meaning.specs.Trees.{Steps}
use Rattle.meaning.specs.Runs.{history}
use Rattle.reduction.specs.Trials.{heard}
use Rattle.plan.specs.declared.step.Step.{Step}
use Rattle.plan.specs.declared.step.Step.TheVariants.{View, Simplify, Complicate}
use Rattle.lines.specs.Lines.{Said, line_bytes, page as lines_of, ending}
use Rattle.lines.specs.Lines.Said.{view}
use Rattle.lines.specs.declared.LineFault.TheVariants.{TooShort}
use Rattle.reducer.specs.Sessions.{most_slots, turn, says, longest_page, Few}
use Rattle.reducer.specs.Pages.{with_line, page_hears, asked}

-- a candidate copied into a buffer and read back from its front, as far as the buffer goes
pub read_back : {A : Type 0} (xs bs buf : List A) (n : ℕ) → n ≡ min (length xs) (length bs) → buf ≡ over xs bs → take n buf ≡ take (length bs) xs
read_back xs bs buf n e q = rw (e, q) (take_over xs bs)

-- a line behind those of a page that has room for it
pub with_line_fits : (page : List ℕ) (said : Said) → length page + length (line_bytes said) ≤ longest_page → with_line page said ≡ page ++ line_bytes said
with_line_fits page said h = ap (λ (b : Bool). cond b (page ++ line_bytes said) page) (le-leb (length page + length (line_bytes said)) longest_page h)

ok_fits : (b : Bool) (n end : ℕ) → cond b (Ok n) (Err TooShort) ≡ Ok end → b ≡ true
ok_fits true n end e = refl
ok_fits false n end e = let z : ◌≡◌ {A = ℕ} 0 1 = cc in absurd (omega arith)

-- the first bytes of a page, as many as are used, once a line was written behind them
pub put_behind : (said : Said) (bytes : List ℕ) (used end : ℕ) (out : List ℕ) → used ≤ length bytes → length bytes ≡ longest_page
    → ending (used + length (line_bytes said)) bytes ≡ Ok end → out ≡ laid_from used (line_bytes said) bytes → take end out ≡ with_line (take used bytes) said
put_behind said bytes used end out u n e q =
    let line = line_bytes said in
    let front = take used bytes in
    let behind = drop used bytes in
    let rest = drop (length line) behind in
    let long : length front ≡ used = length-take-le used bytes u in
    let more = length-drop used bytes in
    let left = length-append front line in
    let fits = ok_fits (leb (used + length line) (length bytes)) _ end e in
    let room = leb-true (used + length line) (length bytes) fits in
    let written : laid_from used line bytes ≡ (front ++ line) ++ rest = rw (fits, over_fits line behind (omega arith)) (sym (append_assoc front line rest)) in
    let same = rw fits at e in
    let last : used + length line ≡ end = cc in
    let all : end ≡ length (front ++ line) = omega arith in
    rw (q, written, all) (take-append_seam (front ++ line) rest) ∙ sym (with_line_fits front said (omega arith))

-- a page that hears the history of some steps has their lines behind its own, where there is room for them
module _ {S : Type 0} (t : Steps S ℕ) where
  -- one step, whose line is this, and the steps behind it
  heard_on : (page' page line : List ℕ) (steps : List Step) (s : S) → page' ≡ page ++ line → heard t page_hears (history t (map asked steps) s) (page ++ line) ≡ (page ++ line) ++ lines_of (says t steps s)
      → heard t page_hears (history t (map asked steps) s) page' ≡ page ++ (line ++ lines_of (says t steps s))
  heard_on page' page line steps s e rest = ap (λ (p : List ℕ). heard t page_hears (history t (map asked steps) s) p) e ∙ rest ∙ append_assoc page line (lines_of (says t steps s))

  pub heard_lines : (steps : List Step) (s : S) (page : List ℕ) → Few most_slots t steps s → length page + length (lines_of (says t steps s)) ≤ longest_page
      → heard t page_hears (history t (map asked steps) s) page ≡ page ++ lines_of (says t steps s)
  heard_lines [] s page few room = sym (append-nil page)
  heard_lines (step ∷ steps) s page few room =
      let line = line_bytes (turn t step s).says in
      let rest = lines_of (says t steps (turn t step s).leaves) in
      let a = length-append line rest in
      let b = length-append page line in
      by_step step few.0 (with_line_fits page (turn t step s).says (omega arith)) (heard_lines steps (turn t step s).leaves (page ++ line) few.1 (omega arith))
    where
      by_step : (step : Step) → length (t.candidate s) ≤ most_slots → with_line page (turn t step s).says ≡ page ++ line_bytes (turn t step s).says
          → heard t page_hears (history t (map asked steps) (turn t step s).leaves) (page ++ line_bytes (turn t step s).says) ≡ (page ++ line_bytes (turn t step s).says) ++ lines_of (says t steps (turn t step s).leaves)
          → heard t page_hears (history t (map asked (step ∷ steps)) s) page ≡ page ++ lines_of (says t (step ∷ steps) s)
      by_step View few fits rest = heard_on (with_line page (view (take most_slots (t.candidate s)))) page _ steps s (ap (λ (xs : List ℕ). with_line page (view xs)) (take_all most_slots (t.candidate s) few) ∙ fits) rest
      by_step Simplify few fits rest = heard_on _ page _ steps (t.simplify s).tree fits rest
      by_step Complicate few fits rest = heard_on _ page _ steps (t.complicate s).tree fits rest

-- a list copied to the front of a buffer that is long enough for it
pub laid_long : {A : Type 0} (xs bs lines part : List A) → lines ≡ xs → part ≡ lines → length lines ≤ length bs → part ++ drop (length lines) bs ≡ laid xs bs
laid_long xs bs lines part e q h =
    let fits = rw e at h in
    rw (q, e, le-leb (length xs) (length bs) fits) (sym (over_fits xs bs fits))
