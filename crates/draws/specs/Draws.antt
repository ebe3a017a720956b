-- What a draw answers for the word that it takes.
--   within    the number from a to b for a word: a + word mod (b - a + 1), or the word itself over all 64 bits
--   drawn     the answer of a draw from a to b: that number, or the refusal of a spent source
--   answered  the answer of a yes/no draw: the word's lowest bit, or the refusal

use Rattle.std.specs.Prelude.{ℕ, ◌+◌, ◌-◌, ◌%◌, ◌^◌, Bool, cond, Some, None, Ok, Err, Option, Result, ◌==◌, nat_lt}
use Rattle.draws.specs.declared.faults.DrawFault.{DrawFault}
use Rattle.draws.specs.declared.faults.DrawFault.TheVariants.{Spent}

abbrev pub within : ℕ → ℕ → ℕ → ℕ
within a b w = cond (nat_lt (b - a) (2 ^ 64 - 1)) (a + w % (b - a + 1)) w

abbrev pub drawn : ℕ → ℕ → Option ℕ → Result ℕ DrawFault
drawn a b None = Err Spent
drawn a b (Some w) = Ok (within a b w)

abbrev pub answered : Option ℕ → Result Bool DrawFault
answered None = Err Spent
answered (Some w) = Ok (w % 2 == 1)
