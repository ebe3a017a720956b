-- What an answer of reading means for the text, in terms of texts alone.
--     lines text          the text cut at its line feeds; what follows the last one is the last piece
--     Writes write Fine line    the line is what is written for a value that is fine
--     Opens write Fine lines    the first of these lines is closed, since a piece follows it, and is written for such a value
--     PlanPart            the four lines of a plan, and its end
--     earlier part        the parts before it, the nearest first
--     place part          its number, from 1
--     Right part text     this part of the text is as it has to be
--     FirstWrong k text   part k of the text is not right, and every part before it is
--     Faithful text answer    where a plan is the answer, the text is that plan's, and the plan is within the bounds (accepted);
--                         every plan within the bounds is the answer to its text (every);
--                         where line k is the answer, it is the first wrong one (refused)
use Rattle.std.specs.Prelude.{◌≡◌, ℕ, suc, ◌≤◌, List, [], ◌∷◌, length, drop, Ok, Err, Result}
use Rattle.std.specs.List.{AllByRecursion}
use Rattle.plan.specs.Parts.{pieces}
use Rattle.plan.specs.Plans.{PlanText}
use Rattle.plan.specs.Texts.{low_text, high_text, draws_text, steps_text, plan_text, FewDraws, FewSteps, Within}
use Rattle.plan.specs.Values.{largest_size}

abbrev pub lines : List ℕ → List (List ℕ)
lines text = pieces 10 text

abbrev pub Writes : {A : Type 0} → (A → List ℕ) → (A → Type 0) → List ℕ → Type 0
Writes {A} write Fine line = (x : A) × Fine x × (line ≡ write x)

abbrev pub Opens : {A : Type 0} → (A → List ℕ) → (A → Type 0) → List (List ℕ) → Type 0
Opens write Fine [] = ⊥
Opens write Fine (line ∷ []) = ⊥
Opens write Fine (line ∷ (next ∷ more)) = Writes write Fine line

pub data PlanPart : Type 0 where
  low_line : PlanPart
  high_line : PlanPart
  draws_line : PlanPart
  steps_line : PlanPart
  end : PlanPart

abbrev pub earlier : PlanPart → List PlanPart
earlier low_line = []
earlier high_line = low_line ∷ []
earlier draws_line = high_line ∷ low_line ∷ []
earlier steps_line = draws_line ∷ high_line ∷ low_line ∷ []
earlier end = steps_line ∷ draws_line ∷ high_line ∷ low_line ∷ []

abbrev pub place : PlanPart → ℕ
place part = suc (length (earlier part))

abbrev pub Right : PlanPart → List ℕ → Type 0
Right low_line text = Opens low_text (λ n. n ≤ largest_size) (lines text)
Right high_line text = Opens high_text (λ n. n ≤ largest_size) (drop 1 (lines text))
Right draws_line text = Opens draws_text FewDraws (drop 2 (lines text))
Right steps_line text = Opens steps_text FewSteps (drop 3 (lines text))
Right end text = drop 4 (lines text) ≡ [] ∷ []

pub record FirstWrong (k : ℕ) (text : List ℕ) : Type 0 where
  pub part : PlanPart
  pub here : place part ≡ k
  pub wrong : Right part text → ⊥
  pub before : AllByRecursion (λ p. Right p text) (earlier part)

pub record Faithful (text : List ℕ) (answer : Result PlanText ℕ) : Type 0 where
  pub accepted : (p : PlanText) → answer ≡ Ok p → (text ≡ plan_text p) × Within p
  pub every : (p : PlanText) → Within p → text ≡ plan_text p → answer ≡ Ok p
  pub refused : (k : ℕ) → answer ≡ Err k → FirstWrong k text
