use Rattle.vectors.proofs.Bits.{take_replicate}
use Rattle.vectors.proofs.included.Included.saturated.Goals as goal

pub returns : goal.returns
returns c = let full = c.from-bits.ensures in rw (c.truncate.ensures.items, full.0) (take_replicate c.args.len 256)
