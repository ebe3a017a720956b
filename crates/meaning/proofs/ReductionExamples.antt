-- Worked examples of reductions and runs, computed from the definitions alone.

use Rattle.std.proofs.Common.{◌≡◌, ℕ, Bool, true, false, ltb, List, [], ◌∷◌, Some, None, refl}
use Rattle.meaning.specs.declared.reduction.End.{End}
use Rattle.meaning.specs.declared.reduction.End.TheVariants.{Passes, Ended, Spent}
use Rattle.meaning.specs.declared.reduction.ReduceFault.TheVariants.{TooShort, NoBudget, Blank}
use Rattle.meaning.specs.Places.{Place}
use Rattle.meaning.specs.Stairs.{StairTree, stair_steps}
use Rattle.meaning.specs.Reductions.{Report, Happening, Event, reduction, refusal}
use Rattle.meaning.specs.Reductions.Happening.{simplify, complicate, reading, verdict, refused, start, report}
use Rattle.meaning.specs.Runs.{report_of, history}
use Rattle.meaning.specs.Runs.Call.{simplifying, complicating, looking, reducing}

abbrev stair : Bool → Place StairTree
stair grown = record { grown = grown; tree = record { value = 3; floor = 0; note = None } }

-- fails where the first item is above 1
abbrev above_one : List ℕ → Bool
above_one [] = false
above_one (x ∷ xs) = ltb 1 x

-- what a reduction of a stair at 3 reports
abbrev reports : (List ℕ → Bool) → ℕ → Report ℕ
reports fails budget = report_of (reduction stair_steps fails budget true [] (stair true))

abbrev says : End → ℕ → List ℕ → Report ℕ
says end verdicts result = record { end = end; verdicts = verdicts; result = result }

-- 3 and 2 fail, 1 passes, back to 2, which fails and can't be simplified
ended : reports above_one 9 ≡ says Ended 4 (2 ∷ [])
ended = refl

ended_in_time : reports above_one 4 ≡ says Ended 4 (2 ∷ [])
ended_in_time = refl

-- spent while the tree shows 2 again: the result is the last that failed, which is 2 too; and while it shows 1
spent_at_three : reports above_one 3 ≡ says Spent 3 (2 ∷ [])
spent_at_three = refl

spent_at_two : reports above_one 2 ≡ says Spent 2 (2 ∷ [])
spent_at_two = refl

spent_at_one : reports above_one 1 ≡ says Spent 1 (3 ∷ [])
spent_at_one = refl

passes : reports (λ items. false) 9 ≡ says Passes 1 []
passes = refl

-- a buffer that is too short is told first, then a budget of 0, then a blank tree
refused_short : refusal stair_steps 0 0 (stair true) ≡ Some TooShort
refused_short = refl

refused_budget : refusal stair_steps 0 0 (stair false) ≡ Some NoBudget
refused_budget = refl

refused_blank : refusal stair_steps 1 0 (stair false) ≡ Some Blank
refused_blank = refl

not_refused : refusal stair_steps 1 1 (stair true) ≡ None
not_refused = refl

-- what happened, without the trees
abbrev happenings : List (Event (Place StairTree) ℕ) → List (Happening ℕ)
happenings [] = []
happenings (e ∷ h) = e.what ∷ happenings h

-- a reduction contributes its start, its own events and its report; a refused one its fault
whole_run : happenings (history stair_steps (looking ∷ reducing above_one 2 1 ∷ complicating ∷ reducing above_one 0 1 ∷ simplifying ∷ []) (stair true))
    ≡ reading ∷ start 2 ∷ verdict true ∷ simplify true ∷ verdict true ∷ simplify true ∷ report (says Spent 2 (2 ∷ [])) ∷ complicate true ∷ refused NoBudget ∷ simplify false ∷ []
whole_run = refl
