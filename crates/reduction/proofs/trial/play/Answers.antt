use Rattle.std.proofs.Common.{length}
use Rattle.reduction.proofs.Playing.{left_after}
use Rattle.reduction.specs.Trials.{roomy}
use Rattle.reduction.proofs.trial.play.Goals as goal

pub returns-in-Reduce : goal.returns-in-Reduce
returns-in-Reduce g c = rw c.in-Reduce.is (left_after g.T.ValueTree.steps (roomy (length c.args.buffer.now) g.W.Witness.hears) (g.V.Verdict.judges c.in-Reduce.verdict) _ _ _ _ _ _ c.reduce_before.ensures.outcome c.reduce_before.ensures.told)
