-- The values of a plan's lines.
--     largest_size, largest_draw, most_draws, most_steps    the bounds
--     size_of value     a number from 0 to 64
--     words_of value    the texts of the draws: none in the empty value, else the pieces between its spaces
--     draws_of value    up to 256 numbers of 64 bits, with one space between neighbours
--     step_of letter    the step of the letter v, s or c
--     steps_of value    up to 1,024 steps, a letter each
use Rattle.std.specs.Prelude.{ℕ, cond, List, [], ◌∷◌, Some, None, Option, ◌==◌}
use Rattle.plan.specs.Gather.{each, at_most}
use Rattle.plan.specs.Numbers.{largest_word, number_of}
use Rattle.plan.specs.Parts.{pieces}
use Rattle.plan.specs.declared.step.Step.{Step}
use Rattle.plan.specs.declared.step.Step.TheVariants.{View, Simplify, Complicate}

abbrev pub largest_size : ℕ
largest_size = 64

abbrev pub largest_draw : ℕ
largest_draw = largest_word

abbrev pub most_draws : ℕ
most_draws = 256

abbrev pub most_steps : ℕ
most_steps = 1024

abbrev pub size_of : List ℕ → Option ℕ
size_of value = number_of largest_size value

abbrev pub words_of : List ℕ → List (List ℕ)
words_of [] = []
words_of (b ∷ bs) = pieces 32 (b ∷ bs)

abbrev pub draws_of : List ℕ → Option (List ℕ)
draws_of value = at_most most_draws (each (number_of largest_draw) (words_of value))

abbrev pub step_of : ℕ → Option Step
step_of letter =
    cond (letter == 118) (Some View)
    (cond (letter == 115) (Some Simplify)
    (cond (letter == 99) (Some Complicate) None))

abbrev pub steps_of : List ℕ → Option (List Step)
steps_of value = at_most most_steps (each step_of value)
