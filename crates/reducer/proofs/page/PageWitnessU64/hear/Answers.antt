use Rattle.std.proofs.Common.{ℕ, List, replicate, ap, ◌∙◌}
use Rattle.lines.specs.Lines.Said.{view}
use Rattle.reducer.specs.Pages.{with_line}
use Rattle.reducer.proofs.Paging.{read_back}
use Rattle.reducer.proofs.page.PageWitnessU64.hear.Goals as goal

pub returns-in-Looked : goal.returns-in-Looked
returns-in-Looked g c =
    let shown = read_back (g.T.ValueTree.steps.candidate (g.T.ValueTree.state c.args.tree.now)) (replicate 64 0) c.copy_to-n.new.buf c.copy_to-n.result c.copy_to-n.ensures.count c.copy_to-n.ensures.buffer in
    rw c.in-Looked.is (c.put-in-Looked.ensures ∙ ap (λ (xs : List ℕ). with_line c.args.self.now (view xs)) shown)
