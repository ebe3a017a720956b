-- How many digits a number has in decimal, by divisions by ten and by ten thousand.
use Rattle.std.proofs.Common.{◌≡◌, ℕ, ◌+◌, ◌/◌, ◌%◌, ◌^◌, ◌<◌, ◌≤◌, [], ◌∷◌, length, decimal, ap, ◌∙◌, arith, length-append}
use Rattle.std.proofs.lemmas.Fmt.{decimal_digit, decimal_step, length-decimal-le}

pub one_digit : (n : ℕ) → n < 10 → length (decimal n) ≡ 1
one_digit n small = ap length (decimal_digit n small)

more_digits : (n : ℕ) → 10 ≤ n → n < 2 ^ 64 → length (decimal n) ≡ length (decimal (n / 10)) + 1
more_digits n large fits = ap length (decimal_step n large fits) ∙ length-append (decimal (n / 10)) ((48 + n % 10) ∷ [])

pub two_digits : (n : ℕ) → 10 ≤ n → n < 100 → length (decimal n) ≡ 2
two_digits n large small = let a = more_digits n large (omega arith) in let b = one_digit (n / 10) (omega arith) in omega (arith, a, b)

pub three_digits : (n : ℕ) → 100 ≤ n → n < 1000 → length (decimal n) ≡ 3
three_digits n large small = let a = more_digits n (omega arith) (omega arith) in let b = two_digits (n / 10) (omega arith) (omega arith) in omega (arith, a, b)

pub four_digits : (n : ℕ) → 1000 ≤ n → n < 10000 → length (decimal n) ≡ 4
four_digits n large small = let a = more_digits n (omega arith) (omega arith) in let b = three_digits (n / 10) (omega arith) (omega arith) in omega (arith, a, b)

two_more : (n : ℕ) → 100 ≤ n → n < 2 ^ 64 → length (decimal n) ≡ length (decimal (n / 100)) + 2
two_more n large fits =
    let last = more_digits n (omega arith) fits in
    let before = more_digits (n / 10) (omega arith) (omega arith) in
    let e : n / 10 / 10 ≡ n / 100 = omega arith in
    let rest = ap (λ (k : ℕ). length (decimal k)) e in
    omega (arith, last, before, rest)

pub four_more : (n : ℕ) → 10000 ≤ n → n < 2 ^ 64 → length (decimal n) ≡ length (decimal (n / 10000)) + 4
four_more n large fits =
    let last = two_more n (omega arith) fits in
    let before = two_more (n / 100) (omega arith) (omega arith) in
    let e : n / 100 / 100 ≡ n / 10000 = omega arith in
    let rest = ap (λ (k : ℕ). length (decimal k)) e in
    omega (arith, last, before, rest)

pub few_digits : (n : ℕ) → n < 2 ^ 64 → length (decimal n) ≤ 20
few_digits n fits = length-decimal-le 20 n (omega arith) (omega arith) fits
