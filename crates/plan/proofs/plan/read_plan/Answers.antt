use Rattle.std.proofs.Common.{◌≡◌, ℕ, Bool, true, false, eqb, List, [], ◌∷◌, length, Ok, Err, Result, sym, refl, ◌∙◌, arith, rules}
use Rattle.std.proofs.lemmas.Bool.{true≢false, eqb-true}
use Rattle.plan.specs.Faithful.{Faithful}
use Rattle.plan.specs.Plans.{PlanText, ending, plan_of}
use Rattle.plan.proofs.LineValues.{no_draws, draws_at, no_steps, steps_at}
use Rattle.plan.proofs.Reading.{faithful_at}
use Rattle.plan.proofs.plan.read_plan.Goals as goal

ending-more : (k : ℕ) (text : List ℕ) (plan : PlanText) (none : Bool) → none ≡ eqb (length text) 0 → none ≡ false → ending k text plan ≡ Err k
ending-more k [] plan none e f = absurd (true≢false (sym e ∙ f))
ending-more k (b ∷ bs) plan none e f = refl

ending-none : (k : ℕ) (text : List ℕ) (plan : PlanText) (none : Bool) → none ≡ eqb (length text) 0 → none ≡ true → ending k text plan ≡ Ok plan
ending-none k [] plan none e f = refl
ending-none k (b ∷ bs) plan none e f = let z : ⊥ = omega (arith, eqb-true (length (b ∷ bs)) 0 (sym e ∙ f)) in absurd z

both : {text : List ℕ} {answer : Result PlanText ℕ} → answer ≡ plan_of text → record { read : answer ≡ plan_of text; faithful : Faithful text answer }
both e = record { read = e; faithful = faithful_at e }

pub returns-in_err-low : goal.returns-in_err-low
unfolding plan_of
returns-in_err-low c = both (search rules)

pub returns-in_err-high : goal.returns-in_err-high
unfolding plan_of
returns-in_err-high c = both (search rules)

pub returns-in_err-value : goal.returns-in_err-value
unfolding plan_of
returns-in_err-value c = both (search (rules, no_draws))

pub returns-in_default : goal.returns-in_default
unfolding plan_of
returns-in_default c = both (search (rules, draws_at))

pub returns-in_err-value-2 : goal.returns-in_err-value-2
unfolding plan_of
returns-in_err-value-2 c = both (search (rules, draws_at, no_steps))

pub returns-in_default-steps : goal.returns-in_default-steps
unfolding plan_of
returns-in_default-steps c = both (search (rules, draws_at, steps_at))

pub returns-then-not-is_empty : goal.returns-then-not-is_empty
unfolding plan_of
returns-then-not-is_empty c = both (search (rules, draws_at, steps_at, ending-more))

pub returns : goal.returns
unfolding plan_of
returns c = both (search (rules, draws_at, steps_at, ending-none))
