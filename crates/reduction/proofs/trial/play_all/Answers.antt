use Rattle.reduction.proofs.Playing.{play_on, play_end}
use Rattle.reduction.proofs.trial.play_all.Goals as goal

pub loop-call-preserved : goal.loop-call-preserved
loop-call-preserved g c =
    play_on g.T.ValueTree.steps g.W.Witness.hears g.V.Verdict.judges _ _ _ _ c.loop-call.invariant c.loop-call-test.true c.call-item.result c.call-item.is
    (record { tree = g.T.ValueTree.state c.play.new.tree; buffer = c.play.new.buffer; witness = g.W.Witness.state c.play.new.witness })
    c.play.auto.buffer c.play.ensures

pub returns : goal.returns
returns g c = play_end g.T.ValueTree.steps g.W.Witness.hears g.V.Verdict.judges _ _ _ _ c.loop-call.invariant c.loop-call-test.false
