-- The one text of a plan.
--     letter step         the letter of a step
--     low_text, high_text, draws_text, steps_text    the four lines, without their line feeds
--     closed line rest    a line, its line feed, and what follows
--     plan_text p         the text of the plan p
--     FewDraws, FewSteps  the draws, and the steps, keep their bounds
--     Within p            the plan p keeps every bound
use Rattle.std.specs.Prelude.{ℕ, ◌≤◌, List, [], ◌∷◌, ◌++◌, map, length, codes, decimal}
use Rattle.std.specs.List.{AllByRecursion, join_with_byte}
use Rattle.plan.specs.Plans.{PlanText}
use Rattle.plan.specs.Values.{largest_size, largest_draw, most_draws, most_steps}
use Rattle.plan.specs.declared.step.Step.{Step}
use Rattle.plan.specs.declared.step.Step.TheVariants.{View, Simplify, Complicate}

abbrev pub letter : Step → ℕ
letter View = 118
letter Simplify = 115
letter Complicate = 99

abbrev pub low_text : ℕ → List ℕ
low_text n = codes "low=" ++ decimal n

abbrev pub high_text : ℕ → List ℕ
high_text n = codes "high=" ++ decimal n

abbrev pub draws_text : List ℕ → List ℕ
draws_text ns = codes "draws=" ++ join_with_byte 32 (map decimal ns)

abbrev pub steps_text : List Step → List ℕ
steps_text ss = codes "steps=" ++ map letter ss

abbrev pub closed : List ℕ → List ℕ → List ℕ
closed line rest = line ++ (10 ∷ rest)

abbrev pub plan_text : PlanText → List ℕ
plan_text p =
    closed (low_text p.low)
    (closed (high_text p.high)
    (closed (draws_text p.draws)
    (closed (steps_text p.steps) [])))

abbrev pub FewDraws : List ℕ → Type 0
FewDraws ns = (length ns ≤ most_draws) × AllByRecursion (λ n. n ≤ largest_draw) ns

abbrev pub FewSteps : List Step → Type 0
FewSteps ss = length ss ≤ most_steps

pub record Within (p : PlanText) : Type 0 where
  pub low_fits : p.low ≤ largest_size
  pub high_fits : p.high ≤ largest_size
  pub draws_fit : FewDraws p.draws
  pub steps_fit : FewSteps p.steps
