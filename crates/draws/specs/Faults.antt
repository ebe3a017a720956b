-- The refusals of this crate.
--   draw_number     the number of a refused draw
--   reject_number   the number of a refused rejection
--   grow_number     the number of a refused growth: its own for too few slots, else that of the fault below
--   in_element      a growth fault as it leaves element or option number i: the innermost number stays

use Rattle.std.specs.Prelude.{ℕ, Some, None, Option}
use Rattle.draws.specs.declared.faults.DrawFault.{DrawFault}
use Rattle.draws.specs.declared.faults.DrawFault.TheVariants.{Spent}
use Rattle.draws.specs.declared.faults.RejectFault.{RejectFault}
use Rattle.draws.specs.declared.faults.RejectFault.TheVariants.{NoneLeft}
use Rattle.draws.specs.declared.faults.Cause.{Cause}
use Rattle.draws.specs.declared.faults.Cause.TheVariants.{Slots, Draw, Reject}
use Rattle.draws.specs.declared.faults.GrowFault.{GrowFault}

abbrev pub draw_number : DrawFault → ℕ
draw_number Spent = 5

abbrev pub reject_number : RejectFault → ℕ
reject_number NoneLeft = 6

abbrev pub cause_number : Cause → ℕ
cause_number Slots = 2
cause_number (Draw fault) = draw_number fault
cause_number (Reject fault) = reject_number fault

abbrev pub grow_number : GrowFault → ℕ
grow_number fault = cause_number fault.cause

abbrev pub nearest : ℕ → Option ℕ → Option ℕ
nearest i None = Some i
nearest i (Some inner) = Some inner

abbrev pub in_element : ℕ → GrowFault → GrowFault
in_element i fault = record { cause = fault.cause; element = nearest i fault.element }
