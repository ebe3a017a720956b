use Rattle.std.proofs.Common.{◌∙◌}
use Rattle.reducer.specs.Sessions.{session_bytes}
use Rattle.reducer.proofs.Paging.{laid_long}
use Rattle.reducer.proofs.session.run_plan.Goals as goal

pub returns-clause-buffer : goal.returns-clause-buffer
returns-clause-buffer c =
    let h = c.if-out-lines.false in
    laid_long (session_bytes c.args.text.now) c.args.out.now c.as_slice-lines.result.now c.copy_from_slice.new.self (c.as_slice-lines.ensures ∙ c.write_page.ensures) c.copy_from_slice.ensures.after h
