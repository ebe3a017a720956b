use Rattle.std.proofs.Common.{length}
use Rattle.reduction.specs.Trials.{roomy}
use Rattle.reduction.proofs.Looping.{Looping, full}
use Rattle.reduction.proofs.reduce.reduce_grown.Given as goal

abbrev pub invariant-loop-verdicts : goal.invariant-loop-verdicts
invariant-loop-verdicts g l =
    let t = g.T.ValueTree.steps in
    let hears = roomy (length l.initial.buffer) g.W.Witness.hears in
    let fails = g.V.Verdict.judges l.verdict in
    Looping t hears fails (full t hears fails l.budget (g.T.ValueTree.state l.initial.tree) l.initial.buffer (g.W.Witness.state l.initial.witness)) l.budget l.verdicts l.length (g.T.ValueTree.state l.tree) l.buffer (g.W.Witness.state l.witness)
