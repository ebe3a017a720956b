use Rattle.std.proofs.Common.{rules}
use Rattle.buffers.proofs.Overs.{over_fits}
use Rattle.lines.proofs.words.put.Goals as goal

pub returns-clause-buffer : goal.returns-clause-buffer
returns-clause-buffer c = search (rules, over_fits)
