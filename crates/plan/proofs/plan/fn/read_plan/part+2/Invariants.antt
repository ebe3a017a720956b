use Rattle.std.proofs.Common.{◌≡◌}
use Rattle.plan.specs.Lent.{line_seen}
use Rattle.plan.specs.Plans.{high_in}
use Rattle.plan.proofs.plan.fn.read_plan.part+2.Given as goal

abbrev pub ensures : goal.ensures
ensures l r = r ≡ high_in (line_seen l.line.entry)
