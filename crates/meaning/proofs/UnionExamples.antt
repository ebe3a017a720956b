-- Worked examples of the weighted pick and of the union, computed from the definitions alone.

use Rattle.std.proofs.Common.{◌≡◌, ℕ, ◌+◌, Bool, true, false, List, [], ◌∷◌, map, replicate, Some, None, Ok, Err, refl}
use Rattle.draws.specs.Sources.{Words, TapeState, tape_words}
use Rattle.draws.specs.Runners.{RunnerState}
use Rattle.draws.specs.declared.faults.Cause.TheVariants.{Slots, Draw}
use Rattle.draws.specs.declared.faults.DrawFault.TheVariants.{Spent}
use Rattle.meaning.specs.Trees.{Steps}
use Rattle.meaning.specs.Places.{Place}
use Rattle.meaning.specs.Growths.{Outcome, Growth}
use Rattle.meaning.specs.Stairs.{StairTree, stair_steps, stair_growth}
use Rattle.meaning.specs.Tables.{at, slice_table}
use Rattle.meaning.specs.Lazies.{Lazy, lazy_steps}
use Rattle.meaning.specs.Lazies.Lazy.{failed}
use Rattle.meaning.specs.SliceOptions.{slice_start, slice_options_short, slice_options_growth, slice_options_wait, slice_options_stated}
use Rattle.meaning.specs.Unions.{running, pick_for, UnionTree, union_blank, union_steps, union_growth}
use Rattle.meaning.proofs.Examples.{Seen, seen, on_tape, blank}

-- weights 2, 1 and 3: two draws of six pick the first option, one the second, three the third
runs : running 0 (2 ∷ 1 ∷ 3 ∷ []) ≡ 2 ∷ 3 ∷ 6 ∷ []
runs = refl

picks : map (pick_for (2 ∷ 1 ∷ 3 ∷ [])) (0 ∷ 1 ∷ 2 ∷ 3 ∷ 4 ∷ 5 ∷ []) ≡ 0 ∷ 0 ∷ 1 ∷ 2 ∷ 2 ∷ 2 ∷ []
picks = refl

-- after steps, true for simplify and false for complicate: the last answer, and what is seen then
pub record Told : Type 0 where
  pub answer : Bool
  pub now : Seen

abbrev pub told_after : {S : Type 0} → Steps S ℕ → List Bool → Bool → S → Told
told_after t [] answer s = record { answer = answer; now = seen t s }
told_after t (true ∷ more) answer s = let step = t.simplify s in told_after t more step.answer step.tree
told_after t (false ∷ more) answer s = let step = t.complicate s in told_after t more step.answer step.tree

abbrev pub tells : Bool → List ℕ → List ℕ → ℕ → Told
tells answer shows home back = record { answer = answer; now = record { shows = shows; home = home; back = back } }

-- an option: a number that stays, as a stair that stands on its floor; or a stair with a limit
data Kind : Type 0 where
  fixed : ℕ → Kind
  stair : ℕ → Kind

abbrev kind_growth : Growth Kind (Place StairTree)
kind_growth (fixed v) X w r s = record { answer = Ok tt; runner = r; place = record { grown = true; tree = record { value = v; floor = v; note = None } } }
kind_growth (stair limit) X w r s = stair_growth (λ p. limit) limit X w r s

abbrev kind : List Kind → ℕ → Kind
kind = at (λ k. k) (fixed 0)

abbrev Options : Type 0
Options = List (Lazy (Place StairTree))

-- a union of the kinds, of weight 1 each, grown into three slots
abbrev grown_by : {X : Type 0} → Words X → RunnerState X → List Kind → Outcome X (Place (UnionTree Options))
grown_by {X} w r kinds = union_growth {P = List Kind} (λ ks. ks) (map (λ k. 1)) (slice_options_stated kind (λ k. 1)) (slice_options_short kind (λ k s. false)) (slice_options_growth kind (λ k s. false) kind_growth) (slice_options_wait kind kind_growth)
    kinds X w r (union_blank (replicate 3 (failed blank)))

-- from a tape
abbrev grown : List Kind → List ℕ → Outcome TapeState (Place (UnionTree Options))
grown kinds words = grown_by tape_words (on_tape words) kinds

abbrev told : List Bool → Place (UnionTree Options) → Told
told steps = told_after (union_steps (slice_table (lazy_steps stair_steps)) slice_start) steps true

-- 7, 8 and 9: the word 2 picks 9; simplify shows 8, complicate 9 again, and then neither step answers true
abbrev numbers : Place (UnionTree Options)
numbers = (grown (fixed 7 ∷ fixed 8 ∷ fixed 9 ∷ []) (2 ∷ [])).place

shows_9 : told [] numbers ≡ tells true (9 ∷ []) (9 ∷ []) 0
shows_9 = refl

down_to_8 : told (true ∷ []) numbers ≡ tells true (8 ∷ []) (9 ∷ []) 1
down_to_8 = refl

back_to_9 : told (true ∷ false ∷ []) numbers ≡ tells true (9 ∷ []) (9 ∷ []) 0
back_to_9 = refl

not_down : told (true ∷ false ∷ true ∷ []) numbers ≡ tells false (9 ∷ []) (9 ∷ []) 0
not_down = refl

not_back : told (true ∷ false ∷ true ∷ false ∷ []) numbers ≡ tells false (9 ∷ []) (9 ∷ []) 0
not_back = refl

-- one option after another, down to the first
down_to_7 : told (true ∷ true ∷ []) numbers ≡ tells true (7 ∷ []) (8 ∷ []) 1
down_to_7 = refl

-- 7 and a stair at 1: the stair goes down, then the union; back at 0, which is home now, the stair does not go on to 1
abbrev over_stair : Place (UnionTree Options)
over_stair = (grown (fixed 7 ∷ stair 9 ∷ []) (1 ∷ 1 ∷ [])).place

stair_down : told (true ∷ []) over_stair ≡ tells true (0 ∷ []) (1 ∷ []) 1
stair_down = refl

union_down : told (true ∷ true ∷ []) over_stair ≡ tells true (7 ∷ []) (0 ∷ []) 1
union_down = refl

union_back : told (true ∷ true ∷ false ∷ []) over_stair ≡ tells true (0 ∷ []) (0 ∷ []) 0
union_back = refl

no_further : told (true ∷ true ∷ false ∷ false ∷ []) over_stair ≡ tells false (0 ∷ []) (0 ∷ []) 0
no_further = refl

-- a stair that finds no word is skipped
past_refused : told (true ∷ []) (grown (fixed 5 ∷ stair 9 ∷ fixed 7 ∷ []) (2 ∷ [])).place ≡ tells true (5 ∷ []) (7 ∷ []) 1
past_refused = refl

-- where all below are refused simplify answers false, and complicate then true once, though nothing moved
all_refused : told (true ∷ []) (grown (stair 9 ∷ fixed 7 ∷ []) (1 ∷ [])).place ≡ tells false (7 ∷ []) (7 ∷ []) 1
all_refused = refl

once_true : told (true ∷ false ∷ []) (grown (stair 9 ∷ fixed 7 ∷ []) (1 ∷ [])).place ≡ tells true (7 ∷ []) (7 ∷ []) 0
once_true = refl

-- the fault of the pick names it, and the place is blank; that of the draw names no option
spent_pick : ((grown (fixed 7 ∷ stair 9 ∷ []) (1 ∷ [])).answer ≡ Err (record { cause = Draw Spent; element = Some 1 })) × ((grown (fixed 7 ∷ stair 9 ∷ []) (1 ∷ [])).place.grown ≡ false)
spent_pick = (refl, refl)

-- a union of one option draws its word all the same
spent_draw : (grown (fixed 7 ∷ []) []).answer ≡ Err (record { cause = Draw Spent; element = None })
spent_draw = refl

-- four options do not fit three slots, whatever would be picked: no word is taken
too_few : ((grown (replicate 4 (fixed 7)) (0 ∷ [])).answer ≡ Err (record { cause = Slots; element = None })) × ((grown (replicate 4 (fixed 7)) (0 ∷ [])).runner.source.place ≡ 0)
too_few = (refl, refl)

-- a source that counts up: what is split off goes on from 100 more, and what is left from 10 more
abbrev counting : Words ℕ
counting = record { next = λ n. Some (record { value = n; left = n + 1 }); split = λ n. record { child = n + 100; rest = n + 10 } }

abbrev counted : Outcome ℕ (Place (UnionTree Options))
counted = grown_by counting (record { source = 2; cases = 0; regenerations = 0; rejections = 0 }) (stair 999 ∷ stair 999 ∷ stair 999 ∷ [])

-- option number i as it is once started
abbrev shown_by : ℕ → List ℕ
shown_by i = (slice_table (lazy_steps stair_steps) i).candidate (slice_start i counted.place.tree.options)

-- the word 2 picks the last; the first splits off a runner at 3, the second at 13, and the pick grows from what is left at 23
split_in_order : (shown_by 0 ≡ 103 ∷ []) × (shown_by 1 ≡ 113 ∷ []) × (shown_by 2 ≡ 23 ∷ []) × (counted.runner.source ≡ 24)
split_in_order = (refl, refl, refl, refl)
