use Rattle.std.proofs.Common.{◌≡◌, length, map, take}
use Rattle.reducer.specs.States.{entry}
use Rattle.reducer.proofs.session.script.Given as goal

abbrev pub invariant-loop-i : goal.invariant-loop-i
invariant-loop-i l = (length l.calls ≡ 1024) × (take l.i l.calls ≡ map entry (take l.i l.steps))
