use Rattle.std.proofs.Common.{rules, arith}
use Rattle.reducer.proofs.Scripting.{laid_more}
use Rattle.reducer.proofs.session.script.Goals as goal

pub loop-i-preserved : goal.loop-i-preserved
loop-i-preserved c =
    let h = c.loop-i.invariant in
    (search rules, laid_more c.args.steps.now c.loop-i.calls c.loop-i.i c.call.result c.loop-i-test.true (omega arith) c.call.ensures h.1)
