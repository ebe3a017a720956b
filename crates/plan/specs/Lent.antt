-- What a line of the code holds, which borrows from a text.
--     line_seen l    the line that a reading of one line gives
use Rattle.plan.specs.Lines as lines
use Rattle.plan.specs.Lines.Line.{low, high, draws, steps, wrong}
use Rattle.plan.specs.declared.line.PlanLine.{PlanLine}
use Rattle.plan.specs.declared.line.PlanLine.TheVariants.{Low, High, Draws, Steps, Wrong}

abbrev pub line_seen : PlanLine → lines.Line
line_seen (Low key value) = low key.now value.now
line_seen (High key value) = high key.now value.now
line_seen (Draws key value) = draws key.now value.now
line_seen (Steps key value) = steps key.now value.now
line_seen Wrong = wrong
