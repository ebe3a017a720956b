use Rattle.std.proofs.Common.{max, length}
use Rattle.vectors.specs.Members.{vec_state}
use Rattle.vectors.proofs.Walking.{Walking}
use Rattle.vectors.proofs.collection.VecValueTreeValueTree.simplify.Given as goal

abbrev pub invariant-loop-ix : goal.invariant-loop-ix
invariant-loop-ix g l = Walking g.B.Table.rows (vec_state g.B.Table.state l.fn.self) (max l.from (length l.fn.self.included_elements)) l.ix-iterator (g.B.Table.state l.self.1.0)
