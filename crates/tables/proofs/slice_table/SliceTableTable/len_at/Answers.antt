use Rattle.std.proofs.Common.{◌≡◌, ℕ, List, [], length, Option, Some, None, rules}
use Rattle.std.specs.Option.{MatchOption, option_map, unwrap_or}
use Rattle.meaning.specs.Readings.{counted}
use Rattle.tables.proofs.Slots.{at_lent}
use Rattle.tables.proofs.slice_table.SliceTableTable.len_at.Goals as goal

counted_lent : {Y I : Type 0} (f : Y → List I) (r : Option Y) (n : ℕ) {Q : Y → Type 0} → MatchOption r (n ≡ 0) Q → ((x : Y) → Q x → n ≡ counted (length (f x))) → n ≡ counted (length (unwrap_or (option_map f r) []))
counted_lent f None n m says = m
counted_lent f (Some x) n m says = says x m

pub returns : goal.returns
returns g c = rw (at_lent g.T.ValueTree.state g.T.ValueTree.steps.candidate [] c.args.self.now.slots.now c.args.i c.get.result c.get.ensures.lookup) (counted_lent _ c.get.result _ c.map_or.ensures (λ x q. search rules))
