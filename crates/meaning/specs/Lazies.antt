-- A lazy option: a tree that grows when it is first wanted, into the place that it keeps.
--   Lazy          an option that waits for its growth, with what that will give; that is grown; or whose growth failed
--   place_of      its place, which every option has
--   is_accepted   whether a growth was accepted
--   foreseen      what an option that waits holds of its growth: whether it is accepted, and the tree then
--   started_as    the option after its growth: initialized, or failed
--   lazy_start    the option, grown now if it still waits
--   of_tree, step_tree   a reading and a step of an option: its tree's once initialized, else a default and no step
--   lazy_steps    the steps of an option: those of its tree once initialized, and before that those of a blank place
--   lazy_short    an option has too few slots where its place has
--   lazy_grown    what growing an option gives, from what growing its tree gives
--   lazy_grows    growing an option now, where its place has slots enough
--   lazy_growth   the same, refused where there are too few slots
--   lazy_wait     an option that waits, with a runner of its own
--   TableWait     what waiting means for a table's strategy: how option number i waits, in its place in the table

use Rattle.std.specs.Prelude.{ℕ, Bool, true, false, cond, [], Ok, Err}
use Rattle.draws.specs.Sources.{Words}
use Rattle.draws.specs.Runners.{RunnerState}
use Rattle.meaning.specs.Trees.{Stepped, stays, Steps}
use Rattle.meaning.specs.Growths.{Grown, Outcome, Growth}
use Rattle.meaning.specs.GrowthLaws.{unless_no_slots}

-- growth is a function of strategy, runner and place, so what it will give is known while it waits
pub data Lazy (S : Type 0) : Type 0 where
  uninitialized : S → Stepped S → Lazy S
  initialized : S → Lazy S
  failed : S → Lazy S

abbrev pub place_of : {S : Type 0} → Lazy S → S
place_of (uninitialized s later) = s
place_of (initialized s) = s
place_of (failed s) = s

abbrev pub is_accepted : Grown → Bool
is_accepted (Ok _) = true
is_accepted (Err fault) = false

abbrev pub foreseen : {X S : Type 0} → Outcome X S → Stepped S
foreseen o = record { answer = is_accepted o.answer; tree = o.place }

abbrev pub started_as : {S : Type 0} → Stepped S → Lazy S
started_as grown = cond grown.answer (initialized grown.tree) (failed grown.tree)

abbrev pub lazy_start : {S : Type 0} → Lazy S → Lazy S
lazy_start (uninitialized s later) = started_as later
lazy_start (initialized s) = initialized s
lazy_start (failed s) = failed s

abbrev pub of_tree : {S A : Type 0} → (S → A) → A → Lazy S → A
of_tree f d (uninitialized s later) = d
of_tree f d (initialized s) = f s
of_tree f d (failed s) = d

abbrev pub step_tree : {S : Type 0} → (S → Stepped S) → Lazy S → Stepped (Lazy S)
step_tree f (uninitialized s later) = stays (uninitialized s later)
step_tree f (initialized s) = record { answer = (f s).answer; tree = initialized (f s).tree }
step_tree f (failed s) = stays (failed s)

abbrev pub lazy_steps : {S I : Type 0} → Steps S I → Steps (Lazy S) I
lazy_steps t = record {
  grown = of_tree t.grown false;
  candidate = of_tree t.candidate [];
  home = of_tree t.home [];
  back = of_tree t.back 0;
  longest = of_tree t.longest 0;
  blank = λ x. failed (place_of x);
  simplify = step_tree t.simplify;
  complicate = step_tree t.complicate;
}

abbrev pub lazy_short : {S P : Type 0} → (P → S → Bool) → P → Lazy S → Bool
lazy_short short p x = short p (place_of x)

abbrev pub lazy_grown : {X S : Type 0} → Outcome X S → Outcome X (Lazy S)
lazy_grown o = record { answer = o.answer; runner = o.runner; place = started_as (foreseen o) }

abbrev pub lazy_grows : {S P : Type 0} → Growth P S → Growth P (Lazy S)
lazy_grows g p X w r x = lazy_grown (g p X w r (place_of x))

abbrev pub lazy_growth : {S P : Type 0} → (P → S → Bool) → Growth P S → Growth P (Lazy S)
lazy_growth short g = unless_no_slots (lazy_short short) (lazy_grows g)

abbrev pub lazy_wait : {S P : Type 0} → Growth P S → P → (X : Type 0) → Words X → RunnerState X → Lazy S → Lazy S
lazy_wait g p X w r x = uninitialized (place_of x) (foreseen (g p X w r (place_of x)))

abbrev pub TableWait : Type 0 → Type 0 → Type 1
TableWait P T = P → (X : Type 0) → Words X → ℕ → RunnerState X → T → T
