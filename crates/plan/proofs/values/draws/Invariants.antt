use Rattle.std.proofs.Common.{length, drop}
use Rattle.plan.specs.Numbers.{number_of}
use Rattle.plan.specs.Parts.{pieces}
use Rattle.plan.specs.Values.{most_draws, largest_draw, draws_of}
use Rattle.plan.proofs.Gathering.{Going}
use Rattle.plan.proofs.values.draws.Given as goal

abbrev pub invariant-loop-word : goal.invariant-loop-word
invariant-loop-word l =
    (goal.iterator-loop-word).can_next l.word-iterator × (goal.iterator-loop-word).is_finite l.word-iterator
    × Going most_draws (number_of largest_draw) l.draws.items (drop (length l.yielded) (pieces 32 l.value)) (draws_of l.value)
