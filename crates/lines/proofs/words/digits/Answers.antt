use Rattle.std.proofs.Common.{arith, sym}
use Rattle.lines.proofs.Digits.{one_digit, two_digits}
use Rattle.lines.proofs.words.digits.Goals as goal

pub returns-then-n-lt10-clause-count : goal.returns-then-n-lt10-clause-count
returns-then-n-lt10-clause-count c = sym (one_digit c.args.n c.if-n-lt10.true)

pub returns-then-n-lt100-clause-count : goal.returns-then-n-lt100-clause-count
returns-then-n-lt100-clause-count c = sym (two_digits c.args.n (omega arith) c.if-n-lt100.true)
