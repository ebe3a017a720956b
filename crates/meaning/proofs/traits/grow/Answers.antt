use Rattle.meaning.proofs.Piling.{promise}
use Rattle.meaning.proofs.traits.grow.Goals as goal

pub returns-clause-promise : goal.returns-clause-promise
returns-clause-promise g c = promise g.S.Tree.ValueTree.pile _ _ _ _ _
