use Rattle.vectors.proofs.Joining.{Counting}
use Rattle.vectors.proofs.collection.VecValueTreeValueTree.len.Given as goal

abbrev pub invariant-loop-ix : goal.invariant-loop-ix
invariant-loop-ix g l = Counting (λ i. (g.B.Table.rows i).candidate (g.B.Table.state l.self.elements)) l.self.included_elements l.ix-iterator l.len
