use Rattle.std.proofs.Common.{arith, add-one, get_or, false, take_all, ap, ◌∙◌}
use Rattle.meaning.specs.Vectors.{members}
use Rattle.vectors.proofs.Bits.{members_next, one_at_most}
use Rattle.vectors.proofs.included.Included.count.Goals as goal

pub loop-bit-preserved : goal.loop-bit-preserved
loop-bit-preserved c =
    let same = c.as_slice-bit-items.ensures.value ∙ c.self.view_is in
    let bits = c.args.self.now in
    let i = c.loop-bit.bit-index in
    let bit = rw same at c.from-count.ensures in
    let next = members_next bits i (rw same at c.loop-bit-test.true) in
    let most = one_at_most (get_or bits i false) in
    let before = c.loop-bit.invariant in
    (omega (arith, before.0, bit, most), rw add-one (omega (arith, before.1, bit, next)))

pub returns : goal.returns
returns c =
    let same = c.as_slice-bit-items.ensures.value ∙ c.self.view_is in
    c.loop-bit.invariant.1 ∙ ap members (take_all _ _ (rw same at c.loop-bit-test.false))
