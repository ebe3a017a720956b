use Rattle.reduction.proofs.Playing.{whole}
use Rattle.reduction.proofs.reduce.reduce_before.Goals as goal

pub returns : goal.returns
returns g c =
    let w = whole g.T.ValueTree.steps g.W.Witness.hears (g.V.Verdict.judges c.args.verdict.now) c.args.budget (g.T.ValueTree.state c.args.tree.now) c.args.buffer.now (g.W.Witness.state c.args.witness.now)
    _ _ _ _ _ _ c.in_default.ensures c.hear-2.ensures c.reduce_grown-reduced.ensures.outcome c.reduce_grown-reduced.ensures.told c.hear_report.ensures in
    record { outcome = w.outcome; told = w.told }
