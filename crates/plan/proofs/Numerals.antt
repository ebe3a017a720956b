-- `number_of` accepts just the decimals of the numbers up to its bound.
use Rattle.std.proofs.Common.{◌≡◌, ℕ, ◌^◌, ◌<◌, ◌≤◌, true, ◌&&◌, eqb, leb, List, [], ◌∷◌, length, get_or, Some, decimal, sym, refl, ap, ◌∙◌, ⊎_elim, arith}
use Rattle.std.specs.Str.Parse.{digits_value as value}
use Rattle.std.specs.Char.{is_ascii_digit}
use Rattle.std.specs.List.{AllByRecursion}
use Rattle.std.specs.Str.{all_ascii_digits}
use Rattle.std.proofs.lemmas.Fmt.{decimal_digit, decimal_nonempty, first_decimal, decimal-digits_value, digits_decimal, digits_value-decimal}
use Rattle.std.proofs.lemmas.Str.Parse.{IsNumeralModel, numerals_by_value, tells_all_ascii_digits}
use Rattle.std.proofs.lemmas.Bool.{le-leb, leb-true, ne_eqb, eqb-false, not-true, not_from_false, false≢true, and_parts, cases_eq}
use Rattle.std.proofs.lemmas.Bool.Decides.{nat_tests}
use Rattle.plan.specs.Numbers.{number_of, digits_value, unpadded}
use Rattle.plan.proofs.Spelling.{Spells, test_passed}

own : IsNumeralModel (λ ds. all_ascii_digits ds ≡ true) (value 10)
own = numerals_by_value _ tells_all_ascii_digits

unpadded_some : (ds : List ℕ) → unpadded ds ≡ true → (0 < length ds) × (get_or ds 0 0 ≡ 48 → length ds ≡ 1)
unpadded_some [] e = absurd (false≢true e)
unpadded_some (c ∷ []) e = (omega arith, λ _. refl)
unpadded_some (c ∷ (d ∷ ds)) e = (omega arith, λ zero. absurd (eqb-false c 48 (not-true (eqb c 48) e) zero))

some_unpadded : (ds : List ℕ) → 0 < length ds → 48 < get_or ds 0 0 → unpadded ds ≡ true
some_unpadded [] h k = let z : ⊥ = omega arith in absurd z
some_unpadded (c ∷ []) h k = refl
some_unpadded (c ∷ (d ∷ ds)) h k = not_from_false (eqb c 48) (ne_eqb c 48 (λ e. omega arith))

unpadded_decimal : (n : ℕ) → n < 2 ^ 64 → unpadded (decimal n) ≡ true
unpadded_decimal n h = ⊎_elim zero_is some_is (cases_eq n 0)
  where
    zero_is : n ≡ 0 → unpadded (decimal n) ≡ true
    zero_is e = let one : decimal n ≡ 48 ∷ [] = ap decimal e ∙ decimal_digit 0 (omega arith) in rw one

    some_is : (n ≡ 0 → ⊥) → unpadded (decimal n) ≡ true
    some_is e = some_unpadded (decimal n) (decimal_nonempty n h) (first_decimal n (omega arith) h)

number_at : (most : ℕ) (ds : List ℕ) → unpadded ds ≡ true → all_ascii_digits ds ≡ true → value 10 ds ≤ most → number_of most ds ≡ Some (value 10 ds)
number_at most ds e f h = rw (e, f, le-leb (value 10 ds) most h)

pub number_spells : (most : ℕ) → most < 2 ^ 64 → Spells (number_of most) decimal (λ n. n ≤ most)
number_spells most fits = record { only = only; every = every }
  where
    only : (ds : List ℕ) (n : ℕ) → number_of most ds ≡ Some n → (ds ≡ decimal n) × (n ≤ most)
    only ds n e =
        let p = test_passed (unpadded ds) (digits_value most ds) n e in
        let q = test_passed (all_ascii_digits ds && leb (value 10 ds) most) (Some (value 10 ds)) n p.1 in
        let t = and_parts (all_ascii_digits ds) (leb (value 10 ds) most) q.0 in
        let bound : value 10 ds ≤ most = leb-true (value 10 ds) most t.1 in
        let same : value 10 ds ≡ n = cc in
        let some = unpadded_some ds p.0 in
        (sym (decimal-digits_value own ds t.0 some.0 some.1 (omega arith)) ∙ ap decimal same, rw (← same) bound)

    every : (n : ℕ) → n ≤ most → number_of most (decimal n) ≡ Some n
    every n h =
        let small : n < 2 ^ 64 = omega arith in
        let same : value 10 (decimal n) ≡ n = digits_value-decimal own n small in
        number_at most (decimal n) (unpadded_decimal n small) (digits_decimal own n small) (rw same h) ∙ ap (λ x. Some x) same

digits_above : (ds : List ℕ) → all_ascii_digits ds ≡ true → AllByRecursion (λ b. 32 < b) ds
digits_above [] e = tt
digits_above (c ∷ cs) e = let t = and_parts (is_ascii_digit c) (all_ascii_digits cs) e in (grind (arith, nat_tests, t.0), digits_above cs t.1)

-- no byte of a decimal is a space or a line feed
pub decimal_above : (n : ℕ) → n < 2 ^ 64 → AllByRecursion (λ b. 32 < b) (decimal n)
decimal_above n h = digits_above (decimal n) (digits_decimal own n h)
