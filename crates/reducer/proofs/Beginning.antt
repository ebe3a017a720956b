-- Making and growing a plan's vector, and making its steps.

use Rattle.std.proofs.Common.{◌≡◌, ℕ, ◌*◌, ◌≤◌, Bool, false, cond, ltb, List, [], map, Ok, Err, Result, sym, refl, ap, ◌∙◌, arith, le-ltb}
use Rattle.draws.specs.Sources.{TapeState, tape_words}
use Rattle.draws.specs.Runners.{RunnerState}
use Rattle.meaning.specs.Growths.{Grown, Outcome}
use Rattle.meaning.specs.Runs.{Call}
use Rattle.meaning.specs.Stairs.{stair_growth}
use Rattle.meaning.specs.Tables.{slice_growth, slice_short, slice_stated}
use Rattle.meaning.specs.Vectors.{vec_making, vec_growth}
use Rattle.meaning.specs.declared.traits.StrategyFault.{StrategyFault}
use Rattle.reduction.specs.Trials.{Tried, by_growth, tried}
use Rattle.leaves.specs.declared.stair.Stairs.{Stairs}
use Rattle.meaning.specs.declared.size_range.SizeRange.{SizeRange}
use Rattle.plan.specs.Plans.{PlanText}
use Rattle.meaning.specs.declared.size_range.SizeFault.TheVariants.{Reversed}
use Rattle.reducer.specs.declared.session.SessionFault.TheVariants.{Size, Growth}
use Rattle.reducer.specs.Sessions.{Vector, vector, stair_limit, over_draws, growth, Begun, grown, made}
use Rattle.reducer.specs.Pages.{page_hears, asked, Ended, ends_by, ends}

-- growing by these numbers, whatever holds them
abbrev pub grown_by : (limit low high : ℕ) → RunnerState TapeState → Vector → Outcome TapeState Vector
grown_by limit low high r v = vec_growth {P = Unit {0}} (λ p. p) (λ p. low) (λ p. high) (slice_stated (λ p. p) (λ p. 1)) (slice_short (λ p. p) (λ p s. false)) (slice_growth (λ p. p) (stair_growth (λ p. limit))) tt TapeState tape_words r v

same_growth : (plan : PlanText) (v : Vector) (limit low high : ℕ) (r : RunnerState TapeState) → limit ≡ stair_limit → low ≡ plan.low → high ≡ plan.high → r ≡ over_draws plan.draws → grown_by limit low high r v ≡ growth plan v
same_growth plan v limit low high r a b c d =
    ap (λ (x : ℕ). grown_by x low high r v) a
    ∙ ap (λ (x : ℕ). grown_by stair_limit x high r v) b
    ∙ ap (λ (x : ℕ). grown_by stair_limit plan.low x r v) c
    ∙ ap (λ (x : RunnerState TapeState). grown_by stair_limit plan.low plan.high x v) d

past_size : (plan : PlanText) (v : Vector) (b : Bool) → b ≡ false → (m : Result (Unit {0}) StrategyFault) → m ≡ Ok tt → grown (growth plan v) (growth plan v).answer ≡ cond b (record { answer = Err (Size Reversed); leaves = v }) (made plan v m)
past_size plan v b e m f = rw (e, f) refl

-- a runner over a tape with no cases, regenerations or rejections
abbrev pub at_tape : List ℕ → ℕ → RunnerState TapeState
at_tape words place = record { source = record { words = words; place = place }; cases = 0; regenerations = 0; rejections = 0 }

-- what a trial was answered and left, for a page
abbrev pub ended_by : Grown → List ℕ → Ended
ended_by (Ok _) page = record { answer = Ok tt; page = page }
ended_by (Err fault) page = record { answer = Err (Growth fault); page = page }

abbrev pub ended : Tried TapeState Vector ℕ (List ℕ) → Ended
ended d = ended_by d.answer d.left.witness

ended_grown : (plan : PlanText) (page : List ℕ) (o : Outcome TapeState Vector) (answer : Grown) → ended (by_growth vector page_hears (map asked plan.steps) o answer [] page) ≡ ends_by plan (grown o answer) (grown o answer).answer page
ended_grown plan page o (Ok _) = refl
ended_grown plan page o (Err fault) = refl

-- a trial by the plan's numbers and steps, as the calls before it hand them on, is what its session leaves
pub ends_as : (plan : PlanText) (v : Vector) (page : List ℕ) {stairs stairs' : Stairs} {size size' : SizeRange} {low high : ℕ} {words draws : List ℕ} {place : ℕ} {r : RunnerState TapeState} {calls : List (Call ℕ)} (d : Tried TapeState Vector ℕ (List ℕ))
    → low ≡ plan.low → high ≡ plan.high → draws ≡ plan.draws → calls ≡ map asked plan.steps
    → (low ≤ high) × (size.low ≡ low) × (size.high ≡ high)
    → stairs.limit ≡ stair_limit
    → (vec_making size.high (size.high * 1) ≡ Ok tt) × (stairs' ≡ stairs) × (size' ≡ size)
    → words ≡ draws → place ≡ 0 → r ≡ at_tape words place
    → d ≡ tried vector page_hears calls (grown_by stairs'.limit size'.low size'.high r v) [] page
    → ended d ≡ ends plan v page
ends_as plan v page {stairs' = stairs'} {size' = size'} {place = place} {r = r} d l h w s sized limit strategy words_are place_is run e =
    let limit' : stairs'.limit ≡ stair_limit = ap (λ (x : Stairs). x.limit) strategy.1 ∙ limit in
    let low' : size'.low ≡ plan.low = ap (λ (x : SizeRange). x.low) strategy.2 ∙ sized.1 ∙ l in
    let high' : size'.high ≡ plan.high = ap (λ (x : SizeRange). x.high) strategy.2 ∙ sized.2 ∙ h in
    let run' = run ∙ ap (λ (ws : List ℕ). at_tape ws place) (words_are ∙ w) ∙ ap (at_tape plan.draws) place_is in
    let ordered = sized.0 in
    let o = growth plan v in
    ap ended
    (e
    ∙ ap (λ (calls : List (Call ℕ)). tried vector page_hears calls (grown_by stairs'.limit size'.low size'.high r v) [] page) s
    ∙ ap (λ (o : Outcome TapeState Vector). tried vector page_hears (map asked plan.steps) o [] page) (same_growth plan v _ _ _ _ limit' low' high' run'))
    ∙ ended_grown plan page o o.answer
    ∙ ap (λ (b : Begun). ends_by plan b b.answer page)
    (past_size plan v (ltb plan.high plan.low) (le-ltb plan.high plan.low (omega arith)) (vec_making plan.high (plan.high * 1)) (ap (λ (x : ℕ). vec_making x (x * 1)) (sym (sized.2 ∙ h)) ∙ strategy.0))
