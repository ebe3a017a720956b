use Rattle.std.proofs.Common.{◌∙◌, rules}
use Rattle.vectors.proofs.Walking.{walk_first}
use Rattle.vectors.proofs.collection.VecValueTreeValueTree.simplify.Goals as goal
use Rattle.vectors.proofs.collection.VecValueTreeValueTree.simplify.Goals.{in-DeleteElement-2, in-DeleteElement-2-2, in-ShrinkElement}

pub loop-ix-init : goal.loop-ix-init
loop-ix-init g c =
    walk_first _ (c.into_iter-ix-iterator.ensures.into_iter_gives ∙ c.iter_from-ix-items.ensures) c.if-not-self.false (elim c.match-self.branch [
      | in-DeleteElement-2 w ↦ rw w.from-is (search rules)
      | in-DeleteElement-2-2 w ↦ rw w.from-is (search rules)
      | in-ShrinkElement w ↦ rw w.from-is (search rules)
    ])
