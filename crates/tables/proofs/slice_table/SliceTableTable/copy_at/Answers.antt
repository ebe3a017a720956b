use Rattle.std.proofs.Common.{[], Some, None, refl, arith}
use Rattle.tables.proofs.Slots.{at_lent}
use Rattle.tables.proofs.slice_table.SliceTableTable.copy_at.Goals as goal

pub returns-in-Some : goal.returns-in-Some
returns-in-Some g c = rw (at_lent g.T.ValueTree.state g.T.ValueTree.steps.candidate [] c.args.self.now.slots.now c.args.i (Some c.in-Some.tree) c.in-Some.ensures.lookup) c.copy_to.ensures

pub returns-in-None : goal.returns-in-None
returns-in-None g c = rw (at_lent g.T.ValueTree.state g.T.ValueTree.steps.candidate [] c.args.self.now.slots.now c.args.i None c.in-None.ensures.lookup) (record { count = omega arith; buffer = refl })
