use Rattle.draws.specs.Runners.{run}
use Rattle.meaning.specs.Vectors.{vec_growth, vec_stated}
use Rattle.vectors.specs.Members.{vec_state}
use Rattle.vectors.proofs.Growing.{Growing}
use Rattle.vectors.proofs.collection.VecStrategyStrategy.new_tree.Given as goal

abbrev pub invariant-loop-i : goal.invariant-loop-i
invariant-loop-i g l =
    Growing (g.G.Trees.Table.grows l.self.elements g.D.Source.State g.D.Source.words) l.low (vec_stated (g.G.Trees.Table.stated l.self.elements) l.self.size.high) l.size
    (vec_growth (λ p. p.elements) (λ p. p.size.low) (λ p. p.size.high) g.G.Trees.Table.stated g.G.Trees.Table.short g.G.Trees.Table.grows l.self g.D.Source.State g.D.Source.words (run g.D.Source.state l.fn.runner) (vec_state g.G.Trees.Table.state l.fn.place))
    l.i-counter (run g.D.Source.state l.runner) (vec_state g.G.Trees.Table.state l.place)
