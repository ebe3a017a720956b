use Rattle.vectors.proofs.Joining.{Seeking}
use Rattle.vectors.proofs.collection.VecValueTreeValueTree.item.Given as goal

abbrev pub invariant-loop-ix : goal.invariant-loop-ix
invariant-loop-ix g l = Seeking (λ i. (g.B.Table.rows i).candidate (g.B.Table.state l.self.elements)) l.self.included_elements l.i l.ix-iterator l.rest
