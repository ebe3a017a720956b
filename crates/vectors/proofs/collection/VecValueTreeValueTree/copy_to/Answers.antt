use Rattle.std.proofs.Common.{min, List, length, ap, ◌∙◌}
use Rattle.vectors.proofs.Joining.{copy_first, copy_here, rest_lent, rest_written}
use Rattle.vectors.proofs.collection.VecValueTreeValueTree.copy_to.Goals as goal

pub loop-member-init : goal.loop-member-init
loop-member-init g c = copy_first (c.into_iter-member-iterator.ensures.into_iter_gives ∙ c.iter_from-member-items.ensures)

pub loop-member-preserved : goal.loop-member-preserved
loop-member-preserved g c =
    let shown = (g.B.Table.rows c.in-Some.member).candidate (g.B.Table.state c.args.self.now.elements) in
    copy_here c.loop-member.invariant c.in-Some.ensures.steps _ (c.copy_at-copied.ensures.count ∙ ap (λ (zs : List _). min (length shown) (length zs)) (rest_lent c.loop-member.copied c.loop-member.buf)) _ (rest_written c.loop-member.copied c.loop-member.buf _ _ c.copy_at-copied.ensures.buffer)
