use Rattle.std.proofs.Common.{arith, sym, ◌∙◌}
use Rattle.std.proofs.lemmas.Fmt.{decimal_digit}
use Rattle.lines.proofs.Digits.{one_digit}
use Rattle.lines.proofs.words.put_number.Goals as goal

pub put-requires : goal.put-requires
put-requires c = let one = one_digit c.args.n c.if-n-lt10.true in omega (arith, one)

pub returns-then-n-lt10-clause-len : goal.returns-then-n-lt10-clause-len
returns-then-n-lt10-clause-len c = c.put.ensures.len ∙ sym (one_digit c.args.n c.if-n-lt10.true)

pub returns-then-n-lt10-clause-buffer : goal.returns-then-n-lt10-clause-buffer
returns-then-n-lt10-clause-buffer c = rw (decimal_digit c.args.n c.if-n-lt10.true) c.put.ensures.buffer
