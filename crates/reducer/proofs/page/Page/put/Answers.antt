use Rattle.std.proofs.Common.{ℕ, List, ap, sym, ◌∙◌, arith}
use Rattle.lines.specs.Lines.{said}
use Rattle.reducer.specs.Pages.{with_line}
use Rattle.reducer.proofs.Paging.{put_behind}
use Rattle.reducer.proofs.page.Page.put.Goals as goal

pub returns-in-Ok : goal.returns-in-Ok
returns-in-Ok c =
    let p = c.self.inside in
    let size = c.self.told in
    let used = c.self.invariant in
    put_behind (said c.args.line) p.bytes p.used _ _ (omega arith) (omega arith) (sym c.in-Ok.ensures.answer) c.write_at.ensures.buffer
    ∙ ap (λ (xs : List ℕ). with_line xs (said c.args.line)) c.self.view_is
