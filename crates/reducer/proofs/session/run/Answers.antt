use Rattle.std.proofs.Common.{ap}
use Rattle.reducer.specs.Pages.{Ended}
use Rattle.reducer.specs.States.{stair_state, vector_state}
use Rattle.reducer.proofs.Running.{ran}
use Rattle.reducer.proofs.session.run.Goals as goal

pub returns : goal.returns
returns c =
    let e = ran c.args.text.now c.in_ok-plan.plan (vector_state c.place-tree.result) _ _ c.args.page.now _ c.if-text-gt-LONGEST_TEXT.false c.in_ok-plan.ensures.read c.in_ok-plan.ensures.faithful c.place-tree.ensures c.new.ensures (ap stair_state c.place-slots.ensures) c.requires c.play.ensures in
    record { answer = ap (λ (e : Ended). e.answer) e; page = ap (λ (e : Ended). e.page) e }
