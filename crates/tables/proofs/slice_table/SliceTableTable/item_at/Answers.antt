use Rattle.std.proofs.Common.{[], Some, None, rules}
use Rattle.tables.proofs.Slots.{at_lent}
use Rattle.tables.proofs.slice_table.SliceTableTable.item_at.Goals as goal

pub returns-in_err-get : goal.returns-in_err-get
returns-in_err-get g c = rw (at_lent g.T.ValueTree.state g.T.ValueTree.steps.candidate [] c.args.self.now.slots.now c.args.i None c.in_err-get.ensures.lookup) (search rules)

pub returns : goal.returns
returns g c = rw (at_lent g.T.ValueTree.state g.T.ValueTree.steps.candidate [] c.args.self.now.slots.now c.args.i (Some c.in_ok-get.field-0) c.in_ok-get.ensures.lookup) c.item.ensures
