-- The readers of values accept just the texts of sizes, draws and steps within the bounds.
use Rattle.std.proofs.Common.{◌≡◌, ℕ, ◌<◌, ◌≤◌, List, [], ◌∷◌, map, length, Some, decimal, refl, ◌∙◌, arith}
use Rattle.std.specs.List.{AllByRecursion, join_with_byte}
use Rattle.std.proofs.lemmas.Fmt.{decimal_nonempty}
use Rattle.std.proofs.lemmas.List.Splits.{join_with_byte-slice_split}
use Rattle.std.proofs.ByRecursion.{All-map, All-weaker}
use Rattle.std.proofs.lemmas.Bool.Decides.{nat_tests}
use Rattle.plan.specs.Parts.{pieces}
use Rattle.plan.specs.Texts.{letter, FewDraws, FewSteps}
use Rattle.plan.specs.Values.{size_of, draws_of, steps_of, step_of, words_of, largest_size, largest_draw, most_draws, most_steps}
use Rattle.plan.specs.declared.step.Step.{Step}
use Rattle.plan.specs.declared.step.Step.TheVariants.{View, Simplify, Complicate}
use Rattle.plan.proofs.Joining.{Above, pieces_join, join_some}
use Rattle.plan.proofs.Numerals.{number_spells, decimal_above}
use Rattle.plan.proofs.Spelling.{Spells, spells_like, spells_through, at_most_spells, each_spells}

pub size_spells : Spells size_of decimal (λ n. n ≤ largest_size)
size_spells = number_spells largest_size (omega arith)

words_join : (value : List ℕ) → join_with_byte 32 (words_of value) ≡ value
words_join [] = refl
words_join (b ∷ bs) = join_with_byte-slice_split 32 (b ∷ bs)

words_some : (value : List ℕ) → 0 < length value → words_of value ≡ pieces 32 value
words_some [] h = let z : ⊥ = omega arith in absurd z
words_some (b ∷ bs) h = refl

pub decimals_above : (ns : List ℕ) → AllByRecursion (λ n. n ≤ largest_draw) ns → AllByRecursion (Above 32) (map decimal ns)
decimals_above ns h = All-map (Above 32) decimal ns (All-weaker (λ n. n ≤ largest_draw) (λ n. Above 32 (decimal n)) (λ n k. decimal_above n (omega arith)) ns h)

join_words : (ns : List ℕ) → FewDraws ns → words_of (join_with_byte 32 (map decimal ns)) ≡ map decimal ns
join_words [] h = refl
join_words (n ∷ ns) h =
    words_some (join_with_byte 32 (map decimal (n ∷ ns))) (join_some 32 (decimal n) (map decimal ns) (decimal_nonempty n (omega (arith, h.1.0))))
    ∙ pieces_join 32 (decimal n) (map decimal ns) (decimals_above (n ∷ ns) h.1)

pub draws_spells : Spells draws_of (λ ns. join_with_byte 32 (map decimal ns)) FewDraws
draws_spells =
    spells_through words_of (join_with_byte 32) words_join join_words
    (at_most_spells most_draws (each_spells (number_spells largest_draw (omega arith))))

step_spells : Spells step_of letter (λ _. Unit {0})
step_spells = record { only = λ c s e. (only c s e, tt); every = λ s _. every s }
  where
    only : (c : ℕ) (s : Step) → step_of c ≡ Some s → c ≡ letter s
    only c View e = grind (arith, nat_tests)
    only c Simplify e = grind (arith, nat_tests)
    only c Complicate e = grind (arith, nat_tests)

    every : (s : Step) → step_of (letter s) ≡ Some s
    every View = refl
    every Simplify = refl
    every Complicate = refl

all_unit : {A : Type 0} (xs : List A) → AllByRecursion (λ _. Unit {0}) xs
all_unit [] = tt
all_unit (x ∷ xs) = (tt, all_unit xs)

pub steps_spells : Spells steps_of (map letter) FewSteps
steps_spells = spells_like (at_most_spells most_steps (each_spells step_spells)) (λ ss h. h.0) (λ ss h. (h, all_unit ss))
