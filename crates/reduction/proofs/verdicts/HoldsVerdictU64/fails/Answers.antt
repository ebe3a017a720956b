use Rattle.std.proofs.Common.{rules, tests, ◌∙◌, refl, arith}
use Rattle.std.proofs.lemmas.Iterator.{YieldsList-from_range}
use Rattle.std.proofs.lemmas.Iterator.Search.{any_from_yields_List}
use Rattle.reduction.proofs.Holding.{item_is, held}
use Rattle.reduction.proofs.verdicts.HoldsVerdictU64.fails.Goals as goal

pub returns : goal.returns
returns g c =
    let items = g.T.ValueTree.steps.candidate (g.T.ValueTree.state c.args.tree.now) in
    any_from_yields_List (item_is c.args.self.now.number items) _ _ _ c.any.ensures.ran (YieldsList-from_range 0 c.len.result c.len.result refl (omega arith)) (λ x b q k. search (rules, tests))
    ∙ held c.args.self.now.number items c.len.result c.len.ensures
