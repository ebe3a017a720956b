use Rattle.std.proofs.Common.{◌∙◌}
use Rattle.vectors.proofs.Joining.{seek_first}
use Rattle.vectors.proofs.collection.VecValueTreeValueTree.item.Goals as goal

pub loop-ix-init : goal.loop-ix-init
loop-ix-init g c = seek_first c.ranges.i.fits (c.into_iter-ix-iterator.ensures.into_iter_gives ∙ c.iter_from-ix-items.ensures)
