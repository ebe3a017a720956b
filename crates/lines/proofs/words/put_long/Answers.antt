use Rattle.std.proofs.Common.{◌≡◌, arith, sym, ◌∙◌}
use Rattle.buffers.proofs.Overs.{over_fits}
use Rattle.lines.proofs.words.put_long.Goals as goal

pub returns-clause-buffer : goal.returns-clause-buffer
returns-clause-buffer c =
    let first : c.write_digits.result ≡ 0 = omega arith in
    rw first at c.write_digits.ensures.written ∙ rw c.digits-len.ensures.count (sym (over_fits _ _ c.requires))
