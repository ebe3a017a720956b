use Rattle.std.proofs.Common.{length, true, false}
use Rattle.reduction.specs.Trials.{roomy}
use Rattle.reduction.proofs.Looping.{Stepping, full, loop_first, loop_spent, loop_judged, judged_fail, passed_first, passed_later, step_ended, step_on}
use Rattle.reduction.proofs.reduce.reduce_grown.Goals as goal
use Rattle.reduction.proofs.reduce.reduce_grown.Goals.{Joined-failed, then-failed, else-failed+else-verdicts-eq1}

pub loop-verdicts-init : goal.loop-verdicts-init
loop-verdicts-init g c = loop_first g.T.ValueTree.steps (roomy (length c.args.buffer.now) g.W.Witness.hears) (g.V.Verdict.judges c.args.verdict.now) c.args.budget (g.T.ValueTree.state c.args.tree.now) c.args.buffer.now (g.W.Witness.state c.args.witness.now)

pub returns-then-verdicts-eq1 : goal.returns-then-verdicts-eq1
returns-then-verdicts-eq1 g c =
    let a = passed_first c.loop-verdicts.invariant (loop_judged c.loop-verdicts.invariant c.loop-verdicts-test.true _ c.fails-failed.ensures _ c.hear.ensures false c.if-failed.false) c.if-verdicts-eq1.true in
    record { outcome = a.outcome; told = a.told }

pub returns : goal.returns
returns g c =
    let a = loop_spent c.loop-verdicts.invariant c.loop-verdicts-test.false in
    record { outcome = a.outcome; told = a.told }

-- either step, where the two join
stepped : (g : _) (c : Joined-failed g) →
    (let t = g.T.ValueTree.steps in
    let hears = roomy (length c.args.buffer.now) g.W.Witness.hears in
    let fails = g.V.Verdict.judges c.args.verdict.now in
    Stepping t hears fails (full t hears fails c.args.budget (g.T.ValueTree.state c.args.tree.now) c.args.buffer.now (g.W.Witness.state c.args.witness.now)) c.args.budget c.loop-verdicts.verdicts c.if-failed.length c.if-failed.moved (g.T.ValueTree.state c.if-failed.tree) c.if-failed.buffer (g.W.Witness.state c.if-failed.witness))
stepped g c = elim c.if-failed.branch [
  | then-failed w ↦
      rw (w.length-is, w.tree-is, w.buffer-is, w.witness-is, w.moved-is)
      (judged_fail c.loop-verdicts.invariant (loop_judged c.loop-verdicts.invariant c.loop-verdicts-test.true _ c.fails-failed.ensures _ c.hear.ensures true w.if-failed.true) _ w.copy_to-length.ensures.count _ w.copy_to-length.ensures.buffer _ _ w.simplify-moved.ensures _ w.hear-then-failed.ensures)
  | else-failed+else-verdicts-eq1 w ↦
      rw (w.length-is, w.tree-is, w.buffer-is, w.witness-is, w.moved-is)
      (passed_later c.loop-verdicts.invariant (loop_judged c.loop-verdicts.invariant c.loop-verdicts-test.true _ c.fails-failed.ensures _ c.hear.ensures false w.if-failed.false) w.if-verdicts-eq1.false _ _ w.complicate-moved.ensures _ w.hear-else-verdicts-eq1.ensures)
]

pub returns-then-not-moved : goal.returns-then-not-moved
returns-then-not-moved g c =
    let a = step_ended (stepped g (goal.at.returns-then-not-moved g c).Joined-failed) c.if-not-moved.true in
    record { outcome = a.outcome; told = a.told }

pub loop-verdicts-preserved : goal.loop-verdicts-preserved
loop-verdicts-preserved g c = step_on (stepped g (goal.at.loop-verdicts-preserved g c).Joined-failed) c.if-not-moved.false
