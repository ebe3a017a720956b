-- What a host in C sees of a call that writes lines.
--   status   0 where the lines were written, else the number of the refusal
--   kept     the length that it is told: of the lines where they were written, else what it held before

use Rattle.std.specs.Prelude.{ℕ, Ok, Err, Result}
use Rattle.lines.specs.Lines.{line_number}
use Rattle.lines.specs.declared.LineFault.{LineFault}

abbrev pub status : Result ℕ LineFault → ℕ
status (Ok n) = 0
status (Err fault) = line_number fault

abbrev pub kept : Result ℕ LineFault → ℕ → ℕ
kept (Ok n) old = n
kept (Err fault) old = old
