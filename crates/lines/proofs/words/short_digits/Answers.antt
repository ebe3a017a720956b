use Rattle.std.proofs.Common.{arith, sym}
use Rattle.lines.proofs.Digits.{one_digit, two_digits, three_digits, four_digits}
use Rattle.lines.proofs.words.short_digits.Goals as goal

pub returns-then-n-lt10-clause-count : goal.returns-then-n-lt10-clause-count
returns-then-n-lt10-clause-count c = sym (one_digit c.args.n c.if-n-lt10.true)

pub returns-then-n-lt100-clause-count : goal.returns-then-n-lt100-clause-count
returns-then-n-lt100-clause-count c = sym (two_digits c.args.n (omega arith) c.if-n-lt100.true)

pub returns-then-n-lt1000-clause-count : goal.returns-then-n-lt1000-clause-count
returns-then-n-lt1000-clause-count c = sym (three_digits c.args.n (omega arith) c.if-n-lt1000.true)

pub returns-else-n-lt1000-clause-count : goal.returns-else-n-lt1000-clause-count
returns-else-n-lt1000-clause-count c = sym (four_digits c.args.n (omega arith) c.requires)
