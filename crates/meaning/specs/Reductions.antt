-- What happens to a tree: steps, readings, verdicts and reductions.
--   Happening     what one event was: a step with its answer; a reading; a verdict, which says whether the candidate
--                 failed; a refused reduction; the start of a reduction with its budget; the report that ends it
--   noticed, reported   what happened, as the code tells it to a witness
--   Report        what a reduction answers: its end, how many verdicts it made, and the list that it gave
--   Event         what happened, the tree before it and the tree after
--   verdicts      how many of some events are verdicts
--   Reduction     a reduction: its own events in order, its end, the list that it gave, and the tree that it left
--   reduction     a verdict on the candidate; a first pass ends it as "passes"; after each fail the candidate becomes the
--                 result and simplify is called, and false ends it; after a later pass complicate is called, and false ends
--                 it too; when a verdict is due and the budget is used, it is spent
--   refusal       why a reduction is refused, if it is: a buffer shorter than the stated longest, then a budget of 0, then a
--                 blank tree
--   copied        the result buffer after some events: each list that failed was copied over its first items
--   Done          what a reduction answers, and what it leaves of the tree and of the result buffer
--   reduces       what a call answers and leaves, refused or not
--   reduce_number the number of a refused reduction

use Rattle.std.specs.Prelude.{ℕ, zero, suc, ◌+◌, min, Bool, true, false, cond, List, [], ◌∷◌, length, take, Some, None, Ok, Err, Option, Result, ◌==◌, nat_lt}
use Rattle.buffers.specs.Over.{over}
use Rattle.meaning.specs.declared.reduction.Notice.{Notice}
use Rattle.meaning.specs.declared.reduction.Notice.TheVariants.{Simplified, Complicated, Looked, Judged, Refused, Started}
use Rattle.meaning.specs.declared.reduction.Reduced.{Reduced}
use Rattle.meaning.specs.declared.reduction.End.{End}
use Rattle.meaning.specs.declared.reduction.End.TheVariants.{Passes, Ended, Spent}
use Rattle.meaning.specs.declared.reduction.ReduceFault.{ReduceFault}
use Rattle.meaning.specs.declared.reduction.ReduceFault.TheVariants.{TooShort, NoBudget, Blank}
use Rattle.meaning.specs.Trees.{Stepped, Steps}

abbrev pub reduce_number : ReduceFault → ℕ
reduce_number TooShort = 7
reduce_number NoBudget = 8
reduce_number Blank = 9

pub record Report (I : Type 0) : Type 0 where
  pub end : End
  pub verdicts : ℕ
  pub result : List I

pub data Happening (I : Type 0) : Type 0 where
  simplify : (answer : Bool) → Happening I
  complicate : (answer : Bool) → Happening I
  reading : Happening I
  verdict : (failed : Bool) → Happening I
  refused : ReduceFault → Happening I
  start : (budget : ℕ) → Happening I
  report : Report I → Happening I

abbrev pub noticed : {I : Type 0} → Notice → Happening I
noticed (Simplified answer) = simplify answer
noticed (Complicated answer) = complicate answer
noticed Looked = reading
noticed (Judged failed) = verdict failed
noticed (Refused fault) = refused fault
noticed (Started budget) = start budget

-- a report with the buffer whose first items are the list that was given
abbrev pub reported : {I : Type 0} → Reduced → List I → Happening I
reported r buffer = report (record { end = r.end; verdicts = r.verdicts; result = take r.length buffer })

pub record Event (S I : Type 0) : Type 0 where
  pub what : Happening I
  pub before : S
  pub after : S

abbrev pub is_verdict : {I : Type 0} → Happening I → ℕ
is_verdict (simplify answer) = 0
is_verdict (complicate answer) = 0
is_verdict reading = 0
is_verdict (verdict failed) = 1
is_verdict (refused fault) = 0
is_verdict (start budget) = 0
is_verdict (report r) = 0

abbrev pub verdicts : {S I : Type 0} → List (Event S I) → ℕ
verdicts [] = 0
verdicts (e ∷ h) = is_verdict e.what + verdicts h

-- something that changes nothing
abbrev pub still : {S I : Type 0} → Happening I → S → Event S I
still what s = record { what = what; before = s; after = s }

abbrev pub step : {S I : Type 0} → (Bool → Happening I) → S → Stepped S → Event S I
step kind s r = record { what = kind r.answer; before = s; after = r.tree }

pub record Reduction (S I : Type 0) : Type 0 where
  pub own : List (Event S I)
  pub end : End
  pub result : List I
  pub left : S

-- over at once
abbrev pub over_at : {S I : Type 0} → End → List I → S → Reduction S I
over_at end result s = record { own = []; end = end; result = result; left = s }

abbrev pub preceded : {S I : Type 0} → Event S I → Reduction S I → Reduction S I
preceded e r = record { own = e ∷ r.own; end = r.end; result = r.result; left = r.left }

-- a step of the reduction: it goes on where the answer is true, and ends with this result where it is false
abbrev pub by_step : {S I : Type 0} → (Bool → Happening I) → S → List I → Stepped S → Reduction S I → Reduction S I
by_step kind s result r go_on = preceded (step kind s r) (cond r.answer go_on (over_at Ended result r.tree))

-- after a verdict: whether the candidate c failed, and whether it was the first
abbrev pub judged : {S I : Type 0} → Steps S I → (failed first : Bool) → (c result : List I) → S → Reduction S I → Reduction S I → Reduction S I
judged t true first c result s down up = by_step simplify s c (t.simplify s) down
judged t false true c result s down up = over_at Passes [] s
judged t false false c result s down up = by_step complicate s result (t.complicate s) up

abbrev pub reduction : {S I : Type 0} → Steps S I → (List I → Bool) → ℕ → (first : Bool) → List I → S → Reduction S I
reduction t fails zero first result s = over_at Spent result s
reduction t fails (suc n) first result s =
    preceded (still (verdict (fails (t.candidate s))) s)
    (judged t (fails (t.candidate s)) first (t.candidate s) result s
    (reduction t fails n false (t.candidate s) (t.simplify s).tree)
    (reduction t fails n false result (t.complicate s).tree))

abbrev pub refusal : {S I : Type 0} → Steps S I → (budget room : ℕ) → S → Option ReduceFault
refusal t budget room s = cond (nat_lt room (t.longest s)) (Some TooShort) (cond (budget == 0) (Some NoBudget) (cond (t.grown s) None (Some Blank)))

abbrev pub copy_of : {I : Type 0} → Happening I → List I → List I → List I
copy_of (simplify answer) c buffer = buffer
copy_of (complicate answer) c buffer = buffer
copy_of reading c buffer = buffer
copy_of (verdict failed) c buffer = cond failed (over c buffer) buffer
copy_of (refused fault) c buffer = buffer
copy_of (start budget) c buffer = buffer
copy_of (report r) c buffer = buffer

abbrev pub copied : {S I : Type 0} → Steps S I → List (Event S I) → List I → List I
copied t [] buffer = buffer
copied t (e ∷ h) buffer = copied t h (copy_of e.what (t.candidate e.before) buffer)

pub record Done (S I : Type 0) : Type 0 where
  pub answer : Result Reduced ReduceFault
  pub tree : S
  pub buffer : List I

-- a reduction after so many verdicts made before it; the length told is that of the result, as far as the buffer goes
abbrev pub done_after : {S I : Type 0} → Steps S I → ℕ → Reduction S I → List I → Done S I
done_after t made r buffer = record { answer = Ok (record { end = r.end; verdicts = made + verdicts r.own; length = min (length r.result) (length buffer) }); tree = r.left; buffer = copied t r.own buffer }

abbrev pub by_refusal : {S I : Type 0} → Option ReduceFault → S → List I → Done S I → Done S I
by_refusal (Some fault) s buffer done = record { answer = Err fault; tree = s; buffer = buffer }
by_refusal None s buffer done = done

abbrev pub reduces : {S I : Type 0} → Steps S I → (List I → Bool) → ℕ → S → List I → Done S I
reduces t fails budget s buffer = by_refusal (refusal t budget (length buffer) s) s buffer (done_after t 0 (reduction t fails budget true [] s) buffer)
