use Rattle.std.proofs.Common.{sym, ap, ◌∙◌, map, length}
use Rattle.std.proofs.lemmas.Result.{err_from_is_err_and}
use Rattle.draws.specs.Runners.{RunnerState, run}
use Rattle.meaning.specs.Growths.{Outcome}
use Rattle.meaning.proofs.Piling.{pile_keeps, pile_roots, promise}
use Rattle.reduction.specs.Trials.{roomy, called}
use Rattle.reduction.proofs.Playing.{tried_grown, tried_refused}
use Rattle.reduction.proofs.Fitting.{tried_whole}
use Rattle.reduction.proofs.trial.trial.Goals as goal

pub returns : goal.returns
returns g c = record {
  promise = promise g.S.Tree.ValueTree.pile c.args.strategy.now g.D.Source.State g.D.Source.words (run g.D.Source.state c.args.runner.now) (g.S.Tree.ValueTree.state c.args.place.now);
  did =
      let pile = g.S.Tree.ValueTree.pile in
      let from : RunnerState g.D.Source.State = run g.D.Source.state c.args.runner.now in
      let grown = g.S.Tree.ValueTree.grows c.args.strategy.now g.D.Source.State g.D.Source.words from (g.S.Tree.ValueTree.state c.args.place.now) in
      let accepted = ap (λ (o : Outcome g.D.Source.State g.S.Tree.ValueTree.State). o.answer) c.in_ok-new_tree.ensures in
      tried_grown g.S.Tree.ValueTree.steps (roomy (length c.args.buffer.now) g.W.Witness.hears) (map (called g.V.Verdict.judges (length c.args.buffer.now)) c.args.script.now) _ c.args.buffer.now (g.W.Witness.state c.args.witness.now) _ _ _ c.in_ok-new_tree.ensures c.play_all.ensures
      ∙ tried_whole (pile_keeps pile) g.W.Witness.hears (length c.args.buffer.now) g.V.Verdict.judges c.args.script.now grown c.args.buffer.now (g.W.Witness.state c.args.witness.now) (sym accepted)
      ((pile_roots pile).accepted c.args.strategy.now g.D.Source.State g.D.Source.words from (g.S.Tree.ValueTree.state c.args.place.now) (sym accepted)).0.is_sound;
}

pub returns-in_err-new_tree : goal.returns-in_err-new_tree
returns-in_err-new_tree g c =
    let p = err_from_is_err_and c.from_residual.result c.from_residual.ensures.1 in
    record {
      promise = promise g.S.Tree.ValueTree.pile c.args.strategy.now g.D.Source.State g.D.Source.words (run g.D.Source.state c.args.runner.now) (g.S.Tree.ValueTree.state c.args.place.now);
      did = rw (p.1, p.2) (tried_refused g.S.Tree.ValueTree.steps g.W.Witness.hears (map (called g.V.Verdict.judges (length c.args.buffer.now)) c.args.script.now) _ c.args.buffer.now (g.W.Witness.state c.args.witness.now) _ _ _ c.in_err-new_tree.ensures);
    }
