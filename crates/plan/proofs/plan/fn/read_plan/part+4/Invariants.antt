use Rattle.std.proofs.Common.{◌≡◌}
use Rattle.std.specs.Option.{option_map}
use Rattle.plan.specs.Lent.{line_seen}
use Rattle.plan.proofs.LineValues.{steps_value}
use Rattle.plan.proofs.plan.fn.read_plan.part+4.Given as goal

abbrev pub ensures : goal.ensures
ensures l r = option_map (λ v. v.now) r ≡ steps_value (line_seen l.line.entry)
