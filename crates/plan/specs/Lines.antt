-- One line of a plan, without its line feed.
--     Line                   what a line is by its key: one of four kinds, with its key and value, or wrong
--     keyed_line key value   the line of this key and this value
--     line_in parts          the line whose parts these are: before its first '=' the key, after it the value; wrong where it has none
--     line_of line           what the line is
use Rattle.std.specs.Prelude.{ℕ, cond, List, Some, None, Option, codes}
use Rattle.std.specs.Str.{bytes_eq}
use Rattle.plan.specs.Parts.{cut}

pub data Line : Type 0 where
  low : List ℕ → List ℕ → Line
  high : List ℕ → List ℕ → Line
  draws : List ℕ → List ℕ → Line
  steps : List ℕ → List ℕ → Line
  wrong : Line

abbrev pub keyed_line : List ℕ → List ℕ → Line
keyed_line key value =
    cond (bytes_eq key (codes "low")) (low key value)
    (cond (bytes_eq key (codes "high")) (high key value)
    (cond (bytes_eq key (codes "draws")) (draws key value)
    (cond (bytes_eq key (codes "steps")) (steps key value) wrong)))

abbrev pub line_in : Option (List ℕ × List ℕ) → Line
line_in None = wrong
line_in (Some parts) = keyed_line parts.0 parts.1

abbrev pub line_of : List ℕ → Line
line_of line = line_in (cut 61 line)
