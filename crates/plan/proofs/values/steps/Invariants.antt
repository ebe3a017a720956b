use Rattle.std.proofs.Common.{drop}
use Rattle.plan.specs.Values.{most_steps, step_of, steps_of}
use Rattle.plan.proofs.Gathering.{Going}
use Rattle.plan.proofs.values.steps.Given as goal

abbrev pub invariant-loop-letter : goal.invariant-loop-letter
invariant-loop-letter l = Going most_steps step_of l.steps.items (drop l.letter-index l.value) (steps_of l.value)
