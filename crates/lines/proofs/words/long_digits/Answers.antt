use Rattle.std.proofs.Common.{arith}
use Rattle.lines.proofs.Digits.{four_more, few_digits}
use Rattle.lines.proofs.words.long_digits.Goals as goal

pub overflow_add-count : goal.overflow_add-count
overflow_add-count c = let most = few_digits c.args.n (omega arith) in let counted = c.loop-left.invariant in omega (arith, most, counted)

pub loop-left-preserved : goal.loop-left-preserved
loop-left-preserved c =
    let counted = c.loop-left.invariant in
    let more = four_more c.loop-left.left c.loop-left-test.true (omega arith) in
    omega (arith, counted, more)

pub overflow_add-result : goal.overflow_add-result
overflow_add-result c =
    let most = few_digits c.args.n (omega arith) in
    let counted = c.loop-left.invariant in
    let left = c.short_digits.ensures.count in
    omega (arith, most, counted, left)

pub returns-clause-bounds : goal.returns-clause-bounds
returns-clause-bounds c =
    let most = few_digits c.args.n (omega arith) in
    let counted = c.loop-left.invariant in
    let left = c.short_digits.ensures in
    (omega (arith, left.bounds), omega (arith, most, counted, left.count))
