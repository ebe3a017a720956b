-- The value of digits, read from the left.
use Rattle.std.proofs.Common.{◌≡◌, ℕ, ◌+◌, ◌*◌, ◌<◌, ◌≤◌, true, false, cond, ◌&&◌, leb, List, [], ◌∷◌, length, get_or, drop, Some, None, Option, ◌∙◌, refl, arith}
use Rattle.std.specs.Str.Parse.{digits_value_after}
use Rattle.std.specs.Char.{is_ascii_digit, digit_value}
use Rattle.std.specs.Str.{all_ascii_digits}
use Rattle.std.proofs.lemmas.List.{at_drop_more}
use Rattle.std.proofs.lemmas.Bool.{and_right, lt-leb}
use Rattle.std.proofs.lemmas.Bool.Decides.{nat_tests}
use Rattle.std.proofs.lemmas.Str.Parse.{digit_from_value}

-- what digits are worth after the number n, where that is at most `most`
abbrev pub worth : ℕ → ℕ → List ℕ → Option ℕ
worth most n ds = cond (all_ascii_digits ds && leb (digits_value_after 10 n ds) most) (Some (digits_value_after 10 n ds)) None

value_after_ge : (n : ℕ) (ds : List ℕ) → n ≤ digits_value_after 10 n ds
value_after_ge n [] = omega arith
value_after_ge n (c ∷ cs) = omega (arith, value_after_ge (n * 10 + digit_value c) cs)

is_digit : (c : ℕ) → digit_value c < 10 → is_ascii_digit c ≡ true
is_digit c h = let d = digit_from_value c h in grind (arith, nat_tests)

-- what is left of the text from i on is read after the number n
module _ (most n : ℕ) (text : List ℕ) (i : ℕ) (more : i < length text) where
  begins : worth most n (drop i text) ≡ worth most n (get_or text i 0 ∷ drop (i + 1) text)
  begins = at_drop_more (worth most n) text i 0 more

  worth_more : digit_value (get_or text i 0) < 10 → worth most n (drop i text) ≡ worth most (n * 10 + digit_value (get_or text i 0)) (drop (i + 1) text)
  worth_more h = begins ∙ rw (is_digit (get_or text i 0) h) refl

  pub worth_large : digit_value (get_or text i 0) < 10 → most < n * 10 + digit_value (get_or text i 0) → worth most n (drop i text) ≡ None
  worth_large h k =
      let n' : ℕ = n * 10 + digit_value (get_or text i 0) in
      let above : most < digits_value_after 10 n' (drop (i + 1) text) = omega (arith, value_after_ge n' (drop (i + 1) text)) in
      let over : (all_ascii_digits (drop (i + 1) text) && leb (digits_value_after 10 n' (drop (i + 1) text)) most) ≡ false = and_right _ _ (lt-leb _ _ above) in
      worth_more h ∙ rw over
