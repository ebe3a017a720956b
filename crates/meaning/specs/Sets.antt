-- A set of numbered members: the tree of bit sets and of range subsets.
--   SetTree       which numbers are included; the item that each number names; the fewest members (min_count); the number
--                 from which simplify looks on (shrink); the number that it cleared last and can put back (prev_shrink);
--                 the longest
--   fresh         a set as it is grown: nothing cleared yet
--   named         the items of the included numbers, by number
--   with_noted    the included numbers with a noted one included again
--   first_member  the first included number from number i on; where there is none, the set's end, or i itself past the end
--   cleared       simplify cleared number i, and notes it
--   ran_past      simplify found no member from the cursor on, and drops its note
--   bare_set      simplify clears the first member from the cursor on, while there are more than the fewest; at the fewest it
--                 answers false and changes nothing. Complicate includes the noted number again, and is false without one
--   set_steps     the steps of a set's place
--   draw_on       growing goes on with what a draw gives, or stops at its fault
--   set_grown     the outcome for a set's place of growing what the set is made of

use Rattle.std.specs.Prelude.{ℕ, suc, ◌+◌, Bool, true, false, cond, List, [], ◌∷◌, length, drop, Some, None, Ok, Err, Option, Result, nat_lt, slice_set}
use Rattle.draws.specs.Runners.{RunnerState}
use Rattle.draws.specs.declared.faults.DrawFault.{DrawFault}
use Rattle.meaning.specs.Trees.{Stepped, stays, Steps}
use Rattle.meaning.specs.Places.{Bare, Place, placed}
use Rattle.meaning.specs.Growths.{Grown, Outcome, Grows, spent}
use Rattle.meaning.specs.Stairs.{how_many}
use Rattle.meaning.specs.Vectors.{members, joined}

pub record SetTree (I : Type 0) : Type 0 where
  pub included : List Bool
  pub item : ℕ → I
  pub min_count : ℕ
  pub shrink : ℕ
  pub prev_shrink : Option ℕ
  pub longest : ℕ

abbrev pub fresh : {I : Type 0} → List Bool → (ℕ → I) → (min_count shrink longest : ℕ) → SetTree I
fresh included item min_count shrink longest = record { included = included; item = item; min_count = min_count; shrink = shrink; prev_shrink = None; longest = longest }

abbrev pub named : {I : Type 0} → (ℕ → I) → List Bool → List I
named item included = joined (λ i. item i ∷ []) 0 included

abbrev pub with_noted : List Bool → Option ℕ → List Bool
with_noted included None = included
with_noted included (Some i) = slice_set included i true

-- how many numbers lie before the first that is included
abbrev pub skipped : List Bool → ℕ
skipped [] = 0
skipped (true ∷ bs) = 0
skipped (false ∷ bs) = suc (skipped bs)

abbrev pub first_member : List Bool → ℕ → ℕ
first_member included i = i + skipped (drop i included)

abbrev pub cleared : {I : Type 0} → SetTree I → ℕ → Stepped (SetTree I)
cleared s i = record { answer = true; tree = record { included = slice_set s.included i false; item = s.item; min_count = s.min_count; shrink = suc i; prev_shrink = Some i; longest = s.longest } }

abbrev pub ran_past : {I : Type 0} → SetTree I → ℕ → Stepped (SetTree I)
ran_past s i = record { answer = false; tree = record { included = s.included; item = s.item; min_count = s.min_count; shrink = i; prev_shrink = None; longest = s.longest } }

abbrev pub clears_at : {I : Type 0} → SetTree I → ℕ → Stepped (SetTree I)
clears_at s i = cond (nat_lt i (length s.included)) (cleared s i) (ran_past s i)

abbrev pub set_simplify : {I : Type 0} → SetTree I → Stepped (SetTree I)
set_simplify s = cond (nat_lt s.min_count (members s.included)) (clears_at s (first_member s.included s.shrink)) (stays s)

abbrev pub set_complicate : {I : Type 0} → SetTree I → Option ℕ → Stepped (SetTree I)
set_complicate s None = stays s
set_complicate s (Some i) = record { answer = true; tree = record { included = with_noted s.included (Some i); item = s.item; min_count = s.min_count; shrink = s.shrink; prev_shrink = None; longest = s.longest } }

abbrev pub bare_set : {I : Type 0} → Bare (SetTree I) I
bare_set = record {
  candidate = λ s. named s.item s.included;
  home = λ s. named s.item (with_noted s.included s.prev_shrink);
  back = λ s. how_many s.prev_shrink;
  longest = λ s. s.longest;
  simplify = set_simplify;
  complicate = λ s. set_complicate s s.prev_shrink;
}

abbrev pub set_steps : {I : Type 0} → Steps (Place (SetTree I)) I
set_steps = placed bare_set

abbrev pub draw_on : {X A T : Type 0} → Result A DrawFault → RunnerState X → T → (A → Grows X T) → Outcome X T
draw_on (Ok a) r t next = next a r t
draw_on (Err fault) r t next = record { answer = Err (spent fault); runner = r; place = t }

-- growing T answered so: a set made of it, or a blank place
abbrev pub set_answered : {X T I : Type 0} → (T → SetTree I) → SetTree I → Outcome X T → Grown → Outcome X (Place (SetTree I))
set_answered made old o (Ok _) = record { answer = Ok tt; runner = o.runner; place = record { grown = true; tree = made o.place } }
set_answered made old o (Err fault) = record { answer = Err fault; runner = o.runner; place = record { grown = false; tree = old } }

abbrev pub set_grown : {X T I : Type 0} → (T → SetTree I) → SetTree I → Outcome X T → Outcome X (Place (SetTree I))
set_grown made old o = set_answered made old o o.answer
