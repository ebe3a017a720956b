-- A page as the witness of a session's trial.
--   with_line   a page with one more line behind it, where there is room for that line, else as it was
--   page_hears  what a page makes of what it is told: of a step or a reading its line, of anything else nothing
--   asked       the call that a step of a plan asks for
--   Ended       what a session's steps leave: how they were answered, and the page
--   ends        begun from a place and a page, what a plan's session leaves: where it is refused, the page as it was, else the page
--               as the witness of the steps' history; `ends_by`, by the answer of what begins it

use Rattle.std.specs.Prelude.{ℕ, ◌+◌, cond, List, ◌++◌, map, length, take, Ok, Err, Result, nat_le}
use Rattle.meaning.specs.Reductions.{Happening}
use Rattle.meaning.specs.Reductions.Happening.{simplify, complicate, reading, verdict, refused, start, report}
use Rattle.meaning.specs.Runs.{Call, history}
use Rattle.meaning.specs.Runs.Call.{simplifying, complicating, looking}
use Rattle.reduction.specs.Trials.{heard}
use Rattle.plan.specs.Plans.{PlanText}
use Rattle.plan.specs.declared.step.Step.{Step}
use Rattle.plan.specs.declared.step.Step.TheVariants.{View, Simplify, Complicate}
use Rattle.lines.specs.Lines.{Said, line_bytes}
use Rattle.lines.specs.Lines.Said.{view, simplified, complicated}
use Rattle.reducer.specs.declared.session.SessionFault.{SessionFault}
use Rattle.reducer.specs.Sessions.{Vector, vector, most_slots, Begun, begun, longest_page}

abbrev pub with_line : List ℕ → Said → List ℕ
with_line page said = cond (nat_le (length page + length (line_bytes said)) longest_page) (page ++ line_bytes said) page

abbrev pub page_hears : List ℕ → Happening ℕ → List ℕ → List ℕ
page_hears page (simplify answer) shown = with_line page (simplified answer)
page_hears page (complicate answer) shown = with_line page (complicated answer)
page_hears page reading shown = with_line page (view (take most_slots shown))
page_hears page (verdict failed) shown = page
page_hears page (refused fault) shown = page
page_hears page (start budget) shown = page
page_hears page (report r) shown = page

abbrev pub asked : Step → Call ℕ
asked View = looking
asked Simplify = simplifying
asked Complicate = complicating

pub record Ended : Type 0 where
  pub answer : Result (Unit {0}) SessionFault
  pub page : List ℕ

abbrev pub ends_by : PlanText → Begun → Result (Unit {0}) SessionFault → List ℕ → Ended
ends_by plan b (Ok _) page = record { answer = Ok tt; page = heard vector page_hears (history vector (map asked plan.steps) b.leaves) page }
ends_by plan b (Err fault) page = record { answer = Err fault; page = page }

abbrev pub ends : PlanText → Vector → List ℕ → Ended
ends plan v page = ends_by plan (begun plan v) (begun plan v).answer page
