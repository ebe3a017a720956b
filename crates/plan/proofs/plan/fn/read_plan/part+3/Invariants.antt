use Rattle.std.proofs.Common.{◌≡◌}
use Rattle.std.specs.Option.{option_map}
use Rattle.plan.specs.Lent.{line_seen}
use Rattle.plan.proofs.LineValues.{draws_value}
use Rattle.plan.proofs.plan.fn.read_plan.part+3.Given as goal

abbrev pub ensures : goal.ensures
ensures l r = option_map (λ v. v.now) r ≡ draws_value (line_seen l.line.entry)
