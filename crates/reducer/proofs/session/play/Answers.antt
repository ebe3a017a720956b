use Rattle.std.proofs.Common.{false}
use Rattle.std.proofs.lemmas.Result.{err_from_is_err_and}
use Rattle.reducer.specs.States.{vector_state}
use Rattle.reducer.proofs.Beginning.{ends_as}
use Rattle.reducer.proofs.Scripting.{calls_are}
use Rattle.reducer.proofs.session.play.Goals as goal

pub returns-in_err-trial : goal.returns-in_err-trial
returns-in_err-trial c =
    let p = err_from_is_err_and c.from_residual-in_err-trial.result c.from_residual-in_err-trial.ensures.1 in
    rw (p.1, p.2) (ends_as c.args.plan.now (vector_state c.args.place.now) c.args.page.now _ c.low.ensures c.high.ensures c.draws.ensures.values (calls_are (λ v xs. false) 0 c.script-script.ensures c.steps.ensures.values) c.in_ok-size.ensures c.new-2.ensures c.in_ok-strategy.ensures c.new-3.ensures.words c.new-3.ensures.place c.new-runner.ensures c.in_err-trial.ensures.did)

pub returns : goal.returns
returns c = ends_as c.args.plan.now (vector_state c.args.place.now) c.args.page.now _ c.low.ensures c.high.ensures c.draws.ensures.values (calls_are (λ v xs. false) 0 c.script-script.ensures c.steps.ensures.values) c.in_ok-size.ensures c.new-2.ensures c.in_ok-strategy.ensures c.new-3.ensures.words c.new-3.ensures.place c.new-runner.ensures c.in_ok-trial.ensures.did
