use Rattle.lines.proofs.Spaced.{Putting, numbers_from}
use Rattle.lines.proofs.words.Words.lay.Given as goal

abbrev pub invariant-loop-n : goal.invariant-loop-n
invariant-loop-n l = Putting l.self l.fn.out (numbers_from l.n-items l.n-index) l.at l.out
