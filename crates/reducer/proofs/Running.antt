-- From a plan's text to what its session says.

use Rattle.std.proofs.Common.{◌≡◌, ℕ, ◌^◌, ◌<◌, ◌≤◌, Bool, cond, List, [], map, length, replicate, Ok, Err, Result, decimal, sym, refl, ap, ◌∙◌, arith, length-append, le-ltb}
use Rattle.meaning.specs.Vectors.{vec_blank}
use Rattle.leaves.specs.declared.stair.Stair.{Stair}
use Rattle.plan.specs.Plans.{PlanText, plan_of}
use Rattle.plan.specs.Faithful.{Faithful}
use Rattle.std.proofs.lemmas.Fmt.{length-decimal-le}
use Rattle.lines.specs.Lines.{Said, line_bytes}
use Rattle.lines.specs.Lines.Said.{refused, refused_at}
use Rattle.reducer.specs.declared.session.SessionFault.{SessionFault}
use Rattle.reducer.specs.Sessions.{Vector, vector, bench, blank_stair, begun, played, read, session, answered, appended, longest_text}
use Rattle.reducer.specs.Pages.{Ended, ends_by, ends}
use Rattle.reducer.specs.States.{stair_state}
use Rattle.reducer.proofs.Bounds.{few_begun, short_begun}
use Rattle.reducer.proofs.Paging.{heard_lines}

-- 64 blank stairs make the bench
on_bench : (v : Vector) (xs : List Stair) (x : Stair) → v ≡ vec_blank (map stair_state xs) → xs ≡ replicate 64 x → stair_state x ≡ blank_stair → v ≡ bench
on_bench v xs x p q e = p ∙ ap (λ (ys : List Stair). vec_blank (map stair_state ys)) q ∙ ap (λ y. vec_blank (replicate 64 y)) e

-- what the session of a plan that was read leaves, begun from the bench before a page with no line on it
ends_session : (text : List ℕ) (plan : PlanText) → Faithful text (Ok plan) → (page : List ℕ) → page ≡ [] → (answer : Result (Unit {0}) SessionFault)
    → ends_by plan (begun plan bench) answer page ≡ record { answer = answered (played plan.steps (begun plan bench) answer); page = appended (played plan.steps (begun plan bench) answer) page }
ends_session text plan f page none (Ok _) =
    let fits = (f.accepted plan refl).1 in
    let high = fits.high_fits in
    let steps = fits.steps_fit in
    let short = short_begun plan high in
    let blank = ap length none in
    ap (λ (p : List ℕ). record { answer = Ok tt; page = p }) (heard_lines vector plan.steps (begun plan bench).leaves page (few_begun plan high) (omega arith))
ends_session text plan f page none (Err fault) = refl

-- a session that came as far as growing, from a place over 64 blank stairs
pub ran : (text : List ℕ) (plan : PlanText) (v : Vector) (xs : List Stair) (x : Stair) (page : List ℕ) (e : Ended) → length text ≤ longest_text → Ok plan ≡ plan_of text → Faithful text (Ok plan)
    → v ≡ vec_blank (map stair_state xs) → xs ≡ replicate 64 x → stair_state x ≡ blank_stair → page ≡ [] → e ≡ ends plan v page
    → e ≡ record { answer = answered (session text); page = appended (session text) page }
ran text plan v xs x page e h is f p q s none g =
    let said : played plan.steps (begun plan bench) (begun plan bench).answer ≡ session text =
    ap read is ∙ ap (λ (t : Bool). read (cond t (Err 1) (plan_of text))) (sym (le-ltb longest_text (length text) h)) in
    g
    ∙ ap (λ (v : Vector). ends plan v page) (on_bench v xs x p q s)
    ∙ ends_session text plan f page none (begun plan bench).answer
    ∙ ap (λ (r : Result (List Said) SessionFault). record { answer = answered r; page = appended r page }) said

-- the line of a refusal is short
short_decimal : (n : ℕ) → n < 2 ^ 32 → length (decimal n) ≤ 10
short_decimal n h = length-decimal-le 10 n (omega arith) (omega arith) (omega arith)

pub short_refused : (n : ℕ) → n < 2 ^ 32 → length (line_bytes (refused n)) ≤ 64
short_refused n h = let d = short_decimal n h in simp length-append (omega arith)

pub short_refused_at : (n l : ℕ) → n < 2 ^ 32 → l < 2 ^ 32 → length (line_bytes (refused_at n l)) ≤ 64
short_refused_at n l h k = let d = short_decimal n h in let e = short_decimal l k in simp length-append (omega arith)
