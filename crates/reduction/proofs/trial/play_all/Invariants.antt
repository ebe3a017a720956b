use Rattle.std.proofs.Common.{◌≡◌, drop}
use Rattle.reduction.specs.Trials.{played}
use Rattle.reduction.proofs.trial.play_all.Given as goal

abbrev pub invariant-loop-call : goal.invariant-loop-call
invariant-loop-call g l =
    played g.T.ValueTree.steps g.V.Verdict.judges g.W.Witness.hears (drop l.call-index l.script) (record { tree = g.T.ValueTree.state l.tree; buffer = l.buffer; witness = g.W.Witness.state l.witness })
    ≡ played g.T.ValueTree.steps g.V.Verdict.judges g.W.Witness.hears l.script (record { tree = g.T.ValueTree.state l.initial.tree; buffer = l.initial.buffer; witness = g.W.Witness.state l.initial.witness })
