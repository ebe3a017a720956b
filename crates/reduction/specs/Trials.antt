-- What a trial does: it grows a tree and makes the calls of a script, and a witness is told each event of their history.
--   called     the call that an entry of the script asks for; a reduction has the room of the result buffer
--   left_by    the tree that some events leave
--   roomy      a witness that is told of a report what the result buffer has room for
--   heard      a witness after some events: it hears each in turn, with the candidate after it
--   Left       what some calls leave: the tree, the result buffer, the witness
--   leaves     what a history leaves: the tree after its last event, in the buffer each list that failed, copied over the first
--              items, and the witness that heard it
--   played     what some entries of a script leave of what there was before them
--   Tried      what a trial answers and leaves
--   tried      growth, and where it is accepted what the history of the script's calls leaves; `by_growth`, by growth's answer

use Rattle.std.specs.Prelude.{ℕ, Bool, List, [], ◌∷◌, map, length, take, Ok, Err}
use Rattle.draws.specs.Runners.{RunnerState}
use Rattle.meaning.specs.Trees.{Steps}
use Rattle.meaning.specs.Growths.{Grown, Outcome}
use Rattle.meaning.specs.Reductions.{Happening, Event, copied}
use Rattle.meaning.specs.Reductions.Happening.{simplify, complicate, reading, verdict, refused, start, report}
use Rattle.meaning.specs.Runs.{Call, history}
use Rattle.meaning.specs.Runs.Call.{simplifying, complicating, looking, reducing}
use Rattle.reduction.specs.declared.trial.Call.{Call as Entry}
use Rattle.reduction.specs.declared.trial.Call.TheVariants.{Simplify, Complicate, Look, Reduce}

abbrev pub called : {V I : Type 0} → (V → List I → Bool) → ℕ → Entry V → Call I
called judges room Simplify = simplifying
called judges room Complicate = complicating
called judges room Look = looking
called judges room (Reduce judge budget) = reducing (judges judge) budget room

abbrev pub left_by : {S I : Type 0} → S → List (Event S I) → S
left_by s [] = s
left_by s (e ∷ h) = left_by e.after h

-- what a reduction gave is told as far as the result buffer goes
abbrev pub roomy : {I W : Type 0} → ℕ → (W → Happening I → List I → W) → W → Happening I → List I → W
roomy room hears w (report r) shown = hears w (report (record { end = r.end; verdicts = r.verdicts; result = take room r.result })) shown
roomy room hears w (simplify answer) shown = hears w (simplify answer) shown
roomy room hears w (complicate answer) shown = hears w (complicate answer) shown
roomy room hears w reading shown = hears w reading shown
roomy room hears w (verdict failed) shown = hears w (verdict failed) shown
roomy room hears w (refused fault) shown = hears w (refused fault) shown
roomy room hears w (start budget) shown = hears w (start budget) shown

abbrev pub heard : {S I W : Type 0} → Steps S I → (W → Happening I → List I → W) → List (Event S I) → W → W
heard t hears [] w = w
heard t hears (e ∷ h) w = heard t hears h (hears w e.what (t.candidate e.after))

pub record Left (S I W : Type 0) : Type 0 where
  pub tree : S
  pub buffer : List I
  pub witness : W

abbrev pub leaves : {S I W : Type 0} → Steps S I → (W → Happening I → List I → W) → List (Event S I) → S → List I → W → Left S I W
leaves t hears h s buffer w = record { tree = left_by s h; buffer = copied t h buffer; witness = heard t hears h w }

abbrev pub played : {V S I W : Type 0} → Steps S I → (V → List I → Bool) → (W → Happening I → List I → W) → List (Entry V) → Left S I W → Left S I W
played t judges hears script before = leaves t (roomy (length before.buffer) hears) (history t (map (called judges (length before.buffer)) script) before.tree) before.tree before.buffer before.witness

pub record Tried (X S I W : Type 0) : Type 0 where
  pub answer : Grown
  pub runner : RunnerState X
  pub left : Left S I W

abbrev pub by_growth : {X S I W : Type 0} → Steps S I → (W → Happening I → List I → W) → List (Call I) → Outcome X S → Grown → List I → W → Tried X S I W
by_growth t hears calls o (Ok _) buffer w = record { answer = Ok tt; runner = o.runner; left = leaves t hears (history t calls o.place) o.place buffer w }
by_growth t hears calls o (Err fault) buffer w = record { answer = Err fault; runner = o.runner; left = record { tree = o.place; buffer = buffer; witness = w } }

abbrev pub tried : {X S I W : Type 0} → Steps S I → (W → Happening I → List I → W) → List (Call I) → Outcome X S → List I → W → Tried X S I W
tried t hears calls o buffer w = by_growth t hears calls o o.answer buffer w
