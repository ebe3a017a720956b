use Rattle.std.proofs.Common.{rules}
use Rattle.reducer.proofs.Running.{short_refused, short_refused_at}
use Rattle.reducer.proofs.session.SessionFault.line.Goals as goal

pub returns-in-Plan : goal.returns-in-Plan
returns-in-Plan c = record { says = search rules; short = short_refused_at c.number.result c.from.result c.number.type_inv c.from.type_inv }

pub returns-in-Size : goal.returns-in-Size
returns-in-Size c = record { says = search rules; short = short_refused c.number-in-Size.result c.number-in-Size.type_inv }
