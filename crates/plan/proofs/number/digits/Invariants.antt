use Rattle.std.proofs.Common.{◌≡◌, ◌≤◌, drop}
use Rattle.plan.specs.Numbers.{largest_word}
use Rattle.plan.proofs.Digits.{worth}
use Rattle.plan.proofs.number.digits.Given as goal

abbrev pub invariant-loop-byte : goal.invariant-loop-byte
invariant-loop-byte l =
    (worth largest_word l.value (drop l.byte-index l.text) ≡ worth largest_word 0 l.text) ×
    (l.value ≤ largest_word)
