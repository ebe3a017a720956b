use Rattle.std.proofs.Common.{rules}
use Rattle.tables.proofs.Slots.{stepped}
use Rattle.tables.proofs.slice_table.SliceTableTable.simplify_at.Goals as goal

pub returns : goal.returns
returns g c = stepped g.T.ValueTree.state g.T.ValueTree.steps.simplify _ c.args.self.now.slots.now _ c.args.i c.step_at.result c.step_at.ensures (λ x v h. search rules)
