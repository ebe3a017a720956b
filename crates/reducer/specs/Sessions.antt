-- What a session says for the text of a plan.
--   turn            one step of a tree of numbers: what it says, and the tree after it
--   says            what a list of steps says, one after another
--   Vector          a vector of stairs over a slice, in its place
--   bench           the vector's place before growth: 64 slots, all blank
--   growth          growing the plan's vector: low to high stairs with the limit 9, from a tape over the draws
--   begun           making the plan's size and strategy, and growing: what it answers, and the vector that it leaves
--   session_number  the number of a session's fault, which is that of the fault below
--   refusal         what a refused session says: its number, and for a plan the first wrong line
--   session         the steps' answers, or the fault; the plan is read whole before anything is made
--   answered        what a session's steps answer: nothing, or the fault
--   appended        the lines of the steps behind those of a page; refused, it writes none
--   session_says    what a session says in the end
--   session_bytes   the lines that it writes
--   longest_page    the most bytes that a session writes
--   Few             along some steps no candidate has more than so many items

use Rattle.std.specs.Prelude.{ℕ, ◌*◌, ◌≤◌, Bool, false, cond, List, [], ◌∷◌, ◌++◌, length, replicate, None, Ok, Err, Result, nat_lt}
use Rattle.draws.specs.Faults.{grow_number}
use Rattle.draws.specs.Sources.{TapeState, tape_words}
use Rattle.draws.specs.Runners.{RunnerState}
use Rattle.meaning.specs.Trees.{Stepped, Steps}
use Rattle.meaning.specs.Places.{Place}
use Rattle.meaning.specs.Growths.{Grown, Outcome}
use Rattle.meaning.specs.Faults.{strategy_number}
use Rattle.meaning.specs.Sizes.{size_number}
use Rattle.meaning.specs.Stairs.{StairTree, stair_steps, stair_growth}
use Rattle.meaning.specs.Tables.{slice_table, slice_growth, slice_short, slice_stated}
use Rattle.meaning.specs.Vectors.{VecTree, vec_blank, vec_steps, vec_making, vec_growth}
use Rattle.meaning.specs.declared.size_range.SizeFault.TheVariants.{Reversed}
use Rattle.meaning.specs.declared.traits.StrategyFault.{StrategyFault}
use Rattle.plan.specs.Plans.{PlanText, plan_of, plan_number}
use Rattle.plan.specs.declared.step.Step.{Step}
use Rattle.plan.specs.declared.step.Step.TheVariants.{View, Simplify, Complicate}
use Rattle.lines.specs.Lines.{Said, page}
use Rattle.lines.specs.Lines.Said.{view, simplified, complicated, refused, refused_at}
use Rattle.reducer.specs.declared.session.SessionFault.{SessionFault}
use Rattle.reducer.specs.declared.session.SessionFault.TheVariants.{Plan, Size, Strategy, Growth}

pub record Turn (S : Type 0) : Type 0 where
  pub says : Said
  pub leaves : S

abbrev pub stepped : {S : Type 0} → (Bool → Said) → Stepped S → Turn S
stepped kind s = record { says = kind s.answer; leaves = s.tree }

abbrev pub turn : {S : Type 0} → Steps S ℕ → Step → S → Turn S
turn t View s = record { says = view (t.candidate s); leaves = s }
turn t Simplify s = stepped simplified (t.simplify s)
turn t Complicate s = stepped complicated (t.complicate s)

abbrev pub says : {S : Type 0} → Steps S ℕ → List Step → S → List Said
says t [] s = []
says t (step ∷ steps) s = (turn t step s).says ∷ says t steps (turn t step s).leaves

abbrev pub Vector : Type 0
Vector = Place (VecTree (List (Place StairTree)))

abbrev pub vector : Steps Vector ℕ
vector = vec_steps (slice_table stair_steps)

abbrev pub most_slots : ℕ
most_slots = 64

abbrev pub blank_stair : Place StairTree
blank_stair = record { grown = false; tree = record { value = 0; floor = 0; note = None } }

abbrev pub bench : Vector
bench = vec_blank (replicate most_slots blank_stair)

abbrev pub over_draws : List ℕ → RunnerState TapeState
over_draws draws = record { source = record { words = draws; place = 0 }; cases = 0; regenerations = 0; rejections = 0 }

abbrev pub stair_limit : ℕ
stair_limit = 9

abbrev pub growth : PlanText → Vector → Outcome TapeState Vector
growth plan v = vec_growth (λ p. p) (λ p. p.low) (λ p. p.high) (slice_stated (λ p. p) (λ p. 1)) (slice_short (λ p. p) (λ p s. false)) (slice_growth (λ p. p) (stair_growth (λ p. stair_limit))) plan TapeState tape_words (over_draws plan.draws) v

-- a vector made for a plan and grown, or the fault and what is left in its place
pub record Begun : Type 0 where
  pub answer : Result (Unit {0}) SessionFault
  pub leaves : Vector

abbrev pub grown : Outcome TapeState Vector → Grown → Begun
grown o (Ok _) = record { answer = Ok tt; leaves = o.place }
grown o (Err fault) = record { answer = Err (Growth fault); leaves = o.place }

abbrev pub made : PlanText → Vector → Result (Unit {0}) StrategyFault → Begun
made plan v (Ok _) = grown (growth plan v) (growth plan v).answer
made plan v (Err fault) = record { answer = Err (Strategy fault); leaves = v }

abbrev pub begun : PlanText → Vector → Begun
begun plan v = cond (nat_lt plan.high plan.low) (record { answer = Err (Size Reversed); leaves = v }) (made plan v (vec_making plan.high (plan.high * 1)))

abbrev pub session_number : SessionFault → ℕ
session_number (Plan fault) = plan_number
session_number (Size fault) = size_number fault
session_number (Strategy fault) = strategy_number fault
session_number (Growth fault) = grow_number fault

abbrev pub refusal : SessionFault → Said
refusal (Plan fault) = refused_at plan_number fault
refusal (Size fault) = refused (size_number fault)
refusal (Strategy fault) = refused (strategy_number fault)
refusal (Growth fault) = refused (grow_number fault)

-- once it has begun, the steps
abbrev pub played : List Step → Begun → Result (Unit {0}) SessionFault → Result (List Said) SessionFault
played steps b (Ok _) = Ok (says vector steps b.leaves)
played steps b (Err fault) = Err fault

abbrev pub read : Result PlanText ℕ → Result (List Said) SessionFault
read (Err line) = Err (Plan line)
read (Ok plan) = played plan.steps (begun plan bench) (begun plan bench).answer

abbrev pub longest_text : ℕ
longest_text = 8192

abbrev pub session : List ℕ → Result (List Said) SessionFault
session text = read (cond (nat_lt longest_text (length text)) (Err 1) (plan_of text))

-- before the line of a refusal is written
abbrev pub answered : Result (List Said) SessionFault → Result (Unit {0}) SessionFault
answered (Ok said) = Ok tt
answered (Err fault) = Err fault

abbrev pub appended : Result (List Said) SessionFault → List ℕ → List ℕ
appended (Ok said) bytes = bytes ++ page said
appended (Err fault) bytes = bytes

abbrev pub told : Result (List Said) SessionFault → List Said
told (Ok said) = said
told (Err fault) = refusal fault ∷ []

abbrev pub session_says : List ℕ → List Said
session_says text = told (session text)

abbrev pub session_bytes : List ℕ → List ℕ
session_bytes text = page (session_says text)

-- the most that a session writes: 1,024 views of 64 items of one digit
abbrev pub longest_page : ℕ
longest_page = 133120

-- along these steps no candidate has more than so many items
abbrev pub Few : {S : Type 0} → ℕ → Steps S ℕ → List Step → S → Type 0
Few most t [] s = Unit {0}
Few most t (step ∷ steps) s = (length (t.candidate s) ≤ most) × Few most t steps (turn t step s).leaves
