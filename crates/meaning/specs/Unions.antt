-- The union, over any table of lazy options.
--   running       the running sums of weights, each added to those before
--   pick_for      the option that a draw picks: the count of running sums at or below it
--   UnionTree     the table of its options; the one it shows (pick); the lowest to which it may go (min_pick); the one from
--                 which it last went down (prev_pick); whether it came back there and has not simplified since (returned);
--                 the longest
--   union_blank   a place over a table, before any growth
--   seek          the nearest option below that is grown or can be: each is started in turn, and a refused one is skipped
--   bare_union    simplify asks the pick, and where that answers false goes down to the nearest option; complicate goes
--                 back up to the one it left, or asks the pick. An option that it came back to answers false to
--                 complicate until it has simplified again
--   union_steps   the steps of a union's place
--   grow_picked   growing the pick after the options below it: each of these waits with a runner split off, in order
--   greatest      the greatest of what f says of the first n options
--   union_stated  the longest that a union's strategy states: the greatest of its options', grown or not
--   union_short   a union has too few slots where the table has for all of its options together
--   union_growth  a union grows by a draw of its pick; it is refused, and nothing changes, where there are too few slots

use Rattle.std.specs.Prelude.{ℕ, zero, suc, ◌+◌, ◌-◌, max, Bool, true, false, cond, List, [], ◌∷◌, length, Some, None, Ok, Err, sum, count_by, Option, Result, nat_le, nat_lt}
use Rattle.draws.specs.Sources.{Words, word}
use Rattle.draws.specs.Draws.{drawn}
use Rattle.draws.specs.Runners.{RunnerState, advanced, cloned, parted}
use Rattle.draws.specs.Faults.{in_element}
use Rattle.draws.specs.declared.faults.DrawFault.{DrawFault}
use Rattle.meaning.specs.Trees.{Stepped, stays, Steps}
use Rattle.meaning.specs.Places.{Bare, Place, placed}
use Rattle.meaning.specs.Growths.{Grown, Outcome, Grows, Growth, spent}
use Rattle.meaning.specs.GrowthLaws.{unless_no_slots}
use Rattle.meaning.specs.Tables.{TableGrowth}
use Rattle.meaning.specs.Vectors.{Walked, go_on}
use Rattle.meaning.specs.Lazies.{TableWait}

abbrev pub running : ℕ → List ℕ → List ℕ
running so_far [] = []
running so_far (weight ∷ weights) = (so_far + weight) ∷ running (so_far + weight) weights

abbrev pub pick_for : List ℕ → ℕ → ℕ
pick_for weights draw = count_by (λ so_far. nat_le so_far draw) (running 0 weights)

pub record UnionTree (T : Type 0) : Type 0 where
  pub options : T
  pub pick : ℕ
  pub min_pick : ℕ
  pub prev_pick : Option ℕ
  pub returned : Bool
  pub longest : ℕ

abbrev pub union_blank : {T : Type 0} → T → Place (UnionTree T)
union_blank t = record { grown = false; tree = record { options = t; pick = 0; min_pick = 0; prev_pick = None; returned = false; longest = 0 } }

-- an option started: whether it is grown then, and the options
abbrev pub started : {T I : Type 0} → (ℕ → Steps T I) → (ℕ → T → T) → ℕ → T → Stepped T
started table start i t = record { answer = (table i).grown (start i t); tree = start i t }

-- the n options from number low on, the highest first
abbrev pub seek : {T I : Type 0} → (ℕ → Steps T I) → (ℕ → T → T) → (low n : ℕ) → T → Walked T
seek table start low zero t = record { elements = t; place = low; found = false }
seek table start low (suc n) t = go_on (low + n) (started table start (low + n) t) (seek table start low n)

-- the pick answered true
abbrev pub simplified : {T : Type 0} → UnionTree T → T → Stepped (UnionTree T)
simplified u t = record { answer = true; tree = record { options = t; pick = u.pick; min_pick = u.min_pick; prev_pick = None; returned = false; longest = u.longest } }

-- down to the option found; where none was, the pick stays, and is noted too
abbrev pub went_down : {T : Type 0} → UnionTree T → Walked T → Stepped (UnionTree T)
went_down u w = record { answer = w.found; tree = record { options = w.elements; pick = cond w.found w.place u.pick; min_pick = u.min_pick; prev_pick = Some u.pick; returned = u.returned; longest = u.longest } }

-- only the options changed, as a step of the pick left them
abbrev pub with_options : {T : Type 0} → UnionTree T → Stepped T → Stepped (UnionTree T)
with_options u step = record { answer = step.answer; tree = record { options = step.tree; pick = u.pick; min_pick = u.min_pick; prev_pick = u.prev_pick; returned = u.returned; longest = u.longest } }

-- after the pick was asked to simplify
abbrev pub union_simplify : {T I : Type 0} → (ℕ → Steps T I) → (ℕ → T → T) → UnionTree T → Stepped T → Stepped (UnionTree T)
union_simplify table start u step = cond step.answer
    (simplified u step.tree)
    (cond (nat_lt u.min_pick u.pick) (went_down u (seek table start u.min_pick (u.pick - u.min_pick) step.tree)) (with_options u (stays step.tree)))

-- back up to option number k
abbrev pub went_back : {T : Type 0} → UnionTree T → ℕ → Stepped (UnionTree T)
went_back u k = record { answer = true; tree = record { options = u.options; pick = k; min_pick = k; prev_pick = None; returned = true; longest = u.longest } }

-- by the option that it left, if any, and whether it came back
abbrev pub union_complicate : {T I : Type 0} → (ℕ → Steps T I) → UnionTree T → Option ℕ → Bool → Stepped (UnionTree T)
union_complicate table u (Some k) returned = went_back u k
union_complicate table u None true = stays u
union_complicate table u None false = with_options u ((table u.pick).complicate u.options)

-- home: what the option that it left shows; what the pick shows, where it came back; else the pick's own home
abbrev pub union_home : {T I : Type 0} → (ℕ → Steps T I) → UnionTree T → Option ℕ → Bool → List I
union_home table u (Some k) returned = (table k).candidate u.options
union_home table u None true = (table u.pick).candidate u.options
union_home table u None false = (table u.pick).home u.options

-- steps back: one, up to the option that it left; none, where it came back; else the pick's own
abbrev pub union_back : {T I : Type 0} → (ℕ → Steps T I) → UnionTree T → Option ℕ → Bool → ℕ
union_back table u (Some k) returned = 1
union_back table u None true = 0
union_back table u None false = (table u.pick).back u.options

abbrev pub bare_union : {T I : Type 0} → (ℕ → Steps T I) → (ℕ → T → T) → Bare (UnionTree T) I
bare_union table start = record {
  candidate = λ u. (table u.pick).candidate u.options;
  home = λ u. union_home table u u.prev_pick u.returned;
  back = λ u. union_back table u u.prev_pick u.returned;
  longest = λ u. u.longest;
  simplify = λ u. union_simplify table start u ((table u.pick).simplify u.options);
  complicate = λ u. union_complicate table u u.prev_pick u.returned;
}

abbrev pub union_steps : {T I : Type 0} → (ℕ → Steps T I) → (ℕ → T → T) → Steps (Place (UnionTree T)) I
union_steps table start = placed (bare_union table start)

-- n options from number i on wait, and then the next one grows
abbrev pub grow_picked : {X T : Type 0} → Words X → (ℕ → Grows X T) → (ℕ → RunnerState X → T → T) → (n i : ℕ) → Grows X T
grow_picked w grow wait zero i r t = grow i r t
grow_picked w grow wait (suc n) i r t = grow_picked w grow wait n (suc i) (parted w r) (wait i (cloned w r) t)

-- after the pick grew: a union that shows it, or a blank place over what the refused growth left
abbrev pub union_grown : {X T : Type 0} → (longest pick : ℕ) → UnionTree T → Outcome X T → Grown → Outcome X (Place (UnionTree T))
union_grown longest pick u o (Ok _) = record { answer = Ok tt; runner = o.runner; place = record { grown = true; tree = record { options = o.place; pick = pick; min_pick = 0; prev_pick = None; returned = false; longest = longest } } }
union_grown longest pick u o (Err fault) = record { answer = Err (in_element pick fault); runner = o.runner; place = record { grown = false; tree = record { options = o.place; pick = u.pick; min_pick = u.min_pick; prev_pick = u.prev_pick; returned = u.returned; longest = u.longest } } }

-- with the pick known
abbrev pub union_picked : {X T : Type 0} → Words X → (ℕ → Grows X T) → (ℕ → RunnerState X → T → T) → (longest pick : ℕ) → UnionTree T → RunnerState X → Outcome X (Place (UnionTree T))
union_picked w grow wait longest pick u r = let o = grow_picked w grow wait pick 0 r u.options in union_grown longest pick u o o.answer

-- after the draw of the pick
abbrev pub union_drawn : {X T : Type 0} → Words X → (ℕ → Grows X T) → (ℕ → RunnerState X → T → T) → (longest : ℕ) → List ℕ → UnionTree T → RunnerState X → Result ℕ DrawFault → Outcome X (Place (UnionTree T))
union_drawn w grow wait longest weights u r (Err fault) = record { answer = Err (spent fault); runner = r; place = record { grown = false; tree = u } }
union_drawn w grow wait longest weights u r (Ok draw) = union_picked w grow wait longest (pick_for weights draw) u r

abbrev pub greatest : (ℕ → ℕ) → ℕ → ℕ
greatest f zero = 0
greatest f (suc n) = max (greatest f n) (f n)

abbrev pub union_stated : {P Q : Type 0} → (Q → P) → (Q → List ℕ) → (P → ℕ → ℕ) → Q → ℕ
union_stated under weights stated q = greatest (stated (under q)) (length (weights q))

abbrev pub union_short : {T P Q : Type 0} → (Q → P) → (Q → List ℕ) → (P → ℕ → T → Bool) → Q → Place (UnionTree T) → Bool
union_short under weights short q u = short (under q) (length (weights q)) u.tree.options

-- where there are slots enough
abbrev pub union_grows : {T P Q : Type 0} → (Q → P) → (Q → List ℕ) → (P → ℕ → ℕ) → TableGrowth P T → TableWait P T → Growth Q (Place (UnionTree T))
union_grows under weights stated grow wait q X w r u = union_drawn w (grow (under q) X w) (wait (under q) X w) (union_stated under weights stated q) (weights q) u.tree
    (advanced w r) (drawn 0 (sum (weights q) - 1) (word w r.source))

abbrev pub union_growth : {T P Q : Type 0} → (Q → P) → (Q → List ℕ) → (P → ℕ → ℕ) → (P → ℕ → T → Bool) → TableGrowth P T → TableWait P T → Growth Q (Place (UnionTree T))
union_growth under weights stated short grow wait = unless_no_slots (union_short under weights short) (union_grows under weights stated grow wait)
