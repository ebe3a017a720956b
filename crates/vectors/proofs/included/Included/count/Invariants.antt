use Rattle.std.proofs.Common.{◌≡◌, ◌≤◌, take}
use Rattle.meaning.specs.Vectors.{members}
use Rattle.vectors.proofs.included.Included.count.Given as goal

abbrev pub invariant-loop-bit : goal.invariant-loop-bit
invariant-loop-bit l = (l.count ≤ l.bit-index) × (l.count ≡ members (take l.bit-index l.self))
