-- What a session says, and the bytes of the line that says it.
--
--   Said             what one line says: `view`, the items of a candidate; `simplified` and `complicated`, the answer of
--                    such a step; `refused`, the number of a refusal; `refused_at`, that and the line of the plan it names
--   said l           what the code's line l says
--   flag b           1 for true, 0 for false
--   spaced n         one space, and n in decimal
--   written w ns     the word w, each number of ns after one space, and a line feed
--   line_bytes s     the bytes of the line that says s
--   page ss          the bytes of the lines that say ss, one after another
--   line_number f    the number of a refusal to write
--   ending end out   the answer of a call that writes into out up to the place `end`: that place, or a refusal where out is
--                    shorter
use Rattle.std.specs.Prelude.{ℕ, Bool, cond, List, [], ◌∷◌, ◌++◌, length, Ok, Err, codes, decimal, Result, nat_le}
use Rattle.std.specs.List.{flat_map}
use Rattle.lines.specs.declared.Line.{Line}
use Rattle.lines.specs.declared.Line.TheVariants.{View, Simplified, Complicated, Refused, RefusedAt}
use Rattle.lines.specs.declared.LineFault.{LineFault}
use Rattle.lines.specs.declared.LineFault.TheVariants.{TooShort}

pub data Said : Type 0 where
  view : List ℕ → Said
  simplified : Bool → Said
  complicated : Bool → Said
  refused : ℕ → Said
  refused_at : ℕ → ℕ → Said

abbrev pub said : Line → Said
said (View items) = view items.now
said (Simplified b) = simplified b
said (Complicated b) = complicated b
said (Refused n) = refused n
said (RefusedAt n l) = refused_at n l

abbrev pub flag : Bool → ℕ
flag b = cond b 1 0

abbrev pub spaced : ℕ → List ℕ
spaced n = codes " " ++ decimal n

abbrev pub written : List ℕ → List ℕ → List ℕ
written word numbers = word ++ (flat_map spaced numbers ++ codes "\n")

abbrev pub line_bytes : Said → List ℕ
line_bytes (view items) = written (codes "v") items
line_bytes (simplified b) = written (codes "s") (flag b ∷ [])
line_bytes (complicated b) = written (codes "c") (flag b ∷ [])
line_bytes (refused n) = written (codes "refused") (n ∷ [])
line_bytes (refused_at n l) = written (codes "refused") (n ∷ l ∷ [])

abbrev pub page : List Said → List ℕ
page ss = flat_map line_bytes ss

abbrev pub line_number : LineFault → ℕ
line_number TooShort = 7

abbrev pub ending : ℕ → List ℕ → Result ℕ LineFault
ending end out = cond (nat_le end (length out)) (Ok end) (Err TooShort)
