use Rattle.vectors.proofs.Growing.{grow_tried, grow_next}
use Rattle.vectors.proofs.collection.VecStrategyStrategy.new_tree.Goals as goal

pub loop-i-preserved : goal.loop-i-preserved
loop-i-preserved g c = grow_next _ (grow_tried c.loop-i.invariant c.loop-i-test.true _ c.grow_at.ensures) c.in_ok-map_err.ensures.variant
