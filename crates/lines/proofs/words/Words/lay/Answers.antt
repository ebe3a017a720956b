use Rattle.std.proofs.Common.{rules, codes}
use Rattle.lines.proofs.Spaced.{numbers_more, put_word, put_next}
use Rattle.lines.proofs.words.Words.lay.Goals as goal

pub loop-n-init : goal.loop-n-init
loop-n-init c = rw (c.put-at.ensures.len, c.put-at.ensures.buffer, ← c.self.view_is) (put_word _ _ _)

pub loop-n-preserved : goal.loop-n-preserved
loop-n-preserved c =
    let space = c.put-at-in-loop-n.ensures in
    let number = c.put_number-at.ensures in
    let before = rw (numbers_more _ _ c.loop-n-test.true) at c.loop-n.invariant in
    let spaced = put_next _ _ (codes " ") _ _ _ _ _ (search rules) space.len space.buffer before in
    put_next _ _ _ _ _ _ _ _ (search rules) number.len number.buffer
    spaced
