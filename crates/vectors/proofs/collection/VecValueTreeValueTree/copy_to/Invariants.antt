use Rattle.vectors.proofs.Joining.{Copying}
use Rattle.vectors.proofs.collection.VecValueTreeValueTree.copy_to.Given as goal

abbrev pub invariant-loop-member : goal.invariant-loop-member
invariant-loop-member g l = Copying (λ i. (g.B.Table.rows i).candidate (g.B.Table.state l.self.elements)) l.self.included_elements l.initial.buf l.member-iterator l.copied l.buf
