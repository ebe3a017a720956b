-- Reading a candidate.
--   counted    how many items a reading says: a count past the largest usize says the largest
--   item_at    item number i of a list, from 0, or none past its end
--   reading    the answer of reading a candidate into a buffer of n items: its length, or the refusal where it is longer
--   read_into  the buffer after such a reading: unchanged where it was refused
--   read_number  the number of a refused reading

use Rattle.std.specs.Prelude.{ℕ, zero, suc, ◌-◌, ◌^◌, min, cond, List, [], ◌∷◌, length, Some, None, Ok, Err, Option, Result, nat_lt}
use Rattle.buffers.specs.Over.{over}
use Rattle.meaning.specs.declared.traits.ReadFault.{ReadFault}
use Rattle.meaning.specs.declared.traits.ReadFault.TheVariants.{TooShort}

abbrev pub counted : ℕ → ℕ
counted n = min n (2 ^ 64 - 1)

abbrev pub item_at : {I : Type 0} → List I → ℕ → Option I
item_at [] i = None
item_at (x ∷ xs) zero = Some x
item_at (x ∷ xs) (suc i) = item_at xs i

abbrev pub reading : {I : Type 0} → List I → ℕ → Result ℕ ReadFault
reading xs n = cond (nat_lt n (counted (length xs))) (Err TooShort) (Ok (counted (length xs)))

abbrev pub read_into : {I : Type 0} → List I → List I → List I
read_into xs buffer = cond (nat_lt (length buffer) (counted (length xs))) buffer (over xs buffer)

abbrev pub read_number : ReadFault → ℕ
read_number TooShort = 7
