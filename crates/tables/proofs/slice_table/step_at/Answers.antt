use Rattle.std.proofs.Common.{◌≡◌, ℕ, List, length, Option, Some, None, refl, ◌∙◌, sym}
use Rattle.std.specs.Option.{option_copied}
use Rattle.std.specs.List.{slice_get}
use Rattle.std.specs.Slice.{IsItemAt}
use Rattle.std.proofs.lemmas.Option.{none-some, slice_get_read}
use denote.Ref.{Bor}
use Rattle.tables.proofs.slice_table.step_at.Goals as goal

slice_get_copied : {Y : Type 0} (xs : List Y) (i : ℕ) (r : Option (Bor Y)) → IsItemAt xs i r → (v : Y) → option_copied r ≡ Some v → slice_get xs i ≡ Some v
slice_get_copied xs i None h v e = absurd (none-some v e)
slice_get_copied xs i (Some x) h v e = slice_get_read xs (length xs) i x.now refl h.3.0 (h.3.1 x.now) ∙ e

pub returns : goal.returns
returns g c = rw (slice_get_copied c.args.slots.now c.args.i c.get.result c.get.ensures.lookup _ (sym c.copied.ensures ∙ c.in-Some.is)) (_, record { shown = _; shows = refl; left = _; met = c.step-moved.ensures; leaves = refl }, refl)
