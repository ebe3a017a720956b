-- Decimal numbers.
--     largest_word             the largest number of 64 bits
--     digits_value most text   the value of a text of digits, where it is at most `most`; none of any other text
--     unpadded text            the text is not empty, and no zero stands before another digit
--     number_of most text      the number from 0 to `most` that the text writes: digits only, and no leading zero
use Rattle.std.specs.Prelude.{ℕ, ◌-◌, ◌^◌, Bool, true, false, cond, not, ◌&&◌, List, [], ◌∷◌, Some, None, Option, ◌==◌, nat_le}
use Rattle.std.specs.Str.Parse.{digits_value as value}
use Rattle.std.specs.Str.{all_ascii_digits}

abbrev pub largest_word : ℕ
largest_word = 2 ^ 64 - 1

abbrev pub digits_value : ℕ → List ℕ → Option ℕ
digits_value most text = cond (all_ascii_digits text && nat_le (value 10 text) most) (Some (value 10 text)) None

abbrev pub unpadded : List ℕ → Bool
unpadded [] = false
unpadded (c ∷ []) = true
unpadded (c ∷ (d ∷ ds)) = not (c == 48)

abbrev pub number_of : ℕ → List ℕ → Option ℕ
number_of most text = cond (unpadded text) (digits_value most text) None
