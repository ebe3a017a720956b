-- The script of some steps.

use Rattle.std.proofs.Common.{◌≡◌, ℕ, ◌+◌, ◌<◌, Bool, List, [], ◌∷◌, length, get_or, set, take, map, refl, sym, ap, ◌∙◌}
use Rattle.std.proofs.lemmas.List.{take_more_set, map_more}
use Rattle.meaning.specs.Runs.{Call}
use Rattle.meaning.specs.Runs.Call.{simplifying, complicating, looking}
use Rattle.plan.specs.declared.step.Step.{Step}
use Rattle.plan.specs.declared.step.Step.TheVariants.{View, Simplify, Complicate}
use Rattle.reduction.specs.declared.trial.Call.{Call as Entry}
use Rattle.reduction.specs.Trials.{called}
use Rattle.reducer.specs.Pages.{asked}
use Rattle.reducer.specs.States.{entry}

-- the call of one more step, laid behind those of the steps before
pub laid_more : {V : Type 0} (steps : List Step) (calls : List (Entry V)) (i : ℕ) (call : Entry V) → i < length steps → i < length calls
    → call ≡ entry (get_or steps i View) → take i calls ≡ map entry (take i steps) → take (i + 1) (set calls i call) ≡ map entry (take (i + 1) steps)
laid_more steps calls i call h k e before = take_more_set calls i call k ∙ rw (e, before) (sym (map_more entry steps i View h))

module _ {V : Type 0} (judges : V → List ℕ → Bool) (room : ℕ) where
  calls_of : (steps : List Step) → map (called judges room) (map entry steps) ≡ map asked steps
  calls_of [] = refl
  calls_of (View ∷ steps) = ap (λ (cs : List (Call ℕ)). looking ∷ cs) (calls_of steps)
  calls_of (Simplify ∷ steps) = ap (λ (cs : List (Call ℕ)). simplifying ∷ cs) (calls_of steps)
  calls_of (Complicate ∷ steps) = ap (λ (cs : List (Call ℕ)). complicating ∷ cs) (calls_of steps)

  -- what the script of a plan's steps calls
  pub calls_are : {script : List (Entry V)} {lent steps : List Step} → script ≡ map entry lent → lent ≡ steps → map (called judges room) script ≡ map asked steps
  calls_are e q = ap (map (called judges room)) e ∙ calls_of _ ∙ ap (map asked) q
