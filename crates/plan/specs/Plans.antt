-- Which plan a text is.
--     PlanText              what a plan says: the two sizes, the draws and the steps
--     plan_number           the number of every refusal to read a plan
--     Reader A              what reads a value as an A, or does not
--     by_kind .. line       the value of a line, read by the reader that belongs to its kind
--     unread                the reader of a kind that is not asked for
--     low_in, high_in, draws_in, steps_in    what a line gives, where it is of that kind and its value reads
--     line_before, text_after    the line that a line feed closes, wrong where there is none; the text after it
--     first_line, after_line     the same of a text
--     given k o go_on       go on with what line k gave; where it gave nothing, k is the wrong line
--     ending k text plan    the plan, where no text is left; any text that is left is the wrong line k
--     line k reads text go_on    read line k at the front of the text, and go on with what it gives and the text after it
--     plan_of text          the plan, or the number, from 1, of the first wrong line
use Rattle.std.specs.Prelude.{ℕ, List, [], ◌∷◌, Some, None, Ok, Err, Option, Result}
use Rattle.plan.specs.Lines.{Line, line_of}
use Rattle.plan.specs.Lines.Line.{low, high, draws, steps, wrong}
use Rattle.plan.specs.Parts.{cut}
use Rattle.plan.specs.Values.{size_of, draws_of, steps_of}
use Rattle.plan.specs.declared.step.Step.{Step}

pub record PlanText : Type 0 where
  pub low : ℕ
  pub high : ℕ
  pub draws : List ℕ
  pub steps : List Step

abbrev pub plan_number : ℕ
plan_number = 10

abbrev pub Reader : Type 0 → Type 0
Reader A = List ℕ → Option A

abbrev pub by_kind : {A : Type 0} → Reader A → Reader A → Reader A → Reader A → Line → Option A
by_kind in_low in_high in_draws in_steps (low key value) = in_low value
by_kind in_low in_high in_draws in_steps (high key value) = in_high value
by_kind in_low in_high in_draws in_steps (draws key value) = in_draws value
by_kind in_low in_high in_draws in_steps (steps key value) = in_steps value
by_kind in_low in_high in_draws in_steps wrong = None

abbrev pub unread : {A : Type 0} → Reader A
unread value = None

abbrev pub low_in : Line → Option ℕ
low_in = by_kind size_of unread unread unread

abbrev pub high_in : Line → Option ℕ
high_in = by_kind unread size_of unread unread

abbrev pub draws_in : Line → Option (List ℕ)
draws_in = by_kind unread unread draws_of unread

abbrev pub steps_in : Line → Option (List Step)
steps_in = by_kind unread unread unread steps_of

abbrev pub line_before : Option (List ℕ × List ℕ) → Line
line_before None = wrong
line_before (Some parts) = line_of parts.0

abbrev pub text_after : Option (List ℕ × List ℕ) → List ℕ
text_after None = []
text_after (Some parts) = parts.1

abbrev pub first_line : List ℕ → Line
first_line text = line_before (cut 10 text)

abbrev pub after_line : List ℕ → List ℕ
after_line text = text_after (cut 10 text)

abbrev pub given : {A : Type 0} → ℕ → Option A → (A → Result PlanText ℕ) → Result PlanText ℕ
given k None go_on = Err k
given k (Some x) go_on = go_on x

abbrev pub ending : ℕ → List ℕ → PlanText → Result PlanText ℕ
ending k [] plan = Ok plan
ending k (b ∷ bs) plan = Err k

abbrev pub line : {A : Type 0} → ℕ → (Line → Option A) → List ℕ → (A → List ℕ → Result PlanText ℕ) → Result PlanText ℕ
line k reads text go_on = given k (reads (first_line text)) (λ x. go_on x (after_line text))

unfoldable pub plan_of : List ℕ → Result PlanText ℕ
plan_of text =
    line 1 low_in text (λ low text₂.
    line 2 high_in text₂ (λ high text₃.
    line 3 draws_in text₃ (λ draws text₄.
    line 4 steps_in text₄ (λ steps text₅.
    ending 5 text₅ (record { low = low; high = high; draws = draws; steps = steps })))))
