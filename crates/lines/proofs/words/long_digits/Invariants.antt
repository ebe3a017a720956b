use Rattle.std.proofs.Common.{◌≡◌, ◌+◌, length, decimal}
use Rattle.lines.proofs.words.long_digits.Given as goal

abbrev pub decreases-loop-left : goal.decreases-loop-left
decreases-loop-left l = l.left

abbrev pub invariant-loop-left : goal.invariant-loop-left
invariant-loop-left l = l.count + length (decimal l.left) ≡ length (decimal l.n)
