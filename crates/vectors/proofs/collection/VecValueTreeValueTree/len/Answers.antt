use Rattle.std.proofs.Common.{◌∙◌}
use Rattle.vectors.proofs.Joining.{count_first}
use Rattle.vectors.proofs.collection.VecValueTreeValueTree.len.Goals as goal

pub loop-ix-init : goal.loop-ix-init
loop-ix-init g c = count_first (c.into_iter-ix-iterator.ensures.into_iter_gives ∙ c.iter_from-ix-items.ensures)
