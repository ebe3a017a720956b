-- Making a size.
--   size_number   the number of a refused size

use Rattle.std.specs.Prelude.{ℕ}
use Rattle.meaning.specs.declared.size_range.SizeFault.{SizeFault}
use Rattle.meaning.specs.declared.size_range.SizeFault.TheVariants.{Reversed}

abbrev pub size_number : SizeFault → ℕ
size_number Reversed = 1
