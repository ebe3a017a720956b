-- The stair: a leaf that shows one number and goes down by one.
--   StairTree     its value; its floor, below which it does not go; the noted value from before the last step down
--   bare_stair    simplify goes one down unless at the floor, and notes the old value; complicate returns to a noted value, makes
--                 it the floor and clears the note, and is false without one
--   stair_steps   the steps of a stair's place
--   stair_growth  a stair with a limit grows by a draw from 0 to the limit: that value, floor 0, no note

use Rattle.std.specs.Prelude.{ℕ, ◌-◌, true, false, cond, [], ◌∷◌, Some, None, Ok, Err, Option, Result, nat_lt}
use Rattle.draws.specs.Sources.{word}
use Rattle.draws.specs.Draws.{drawn}
use Rattle.draws.specs.Runners.{RunnerState, advanced}
use Rattle.draws.specs.declared.faults.DrawFault.{DrawFault}
use Rattle.meaning.specs.Trees.{Stepped, stays, Steps}
use Rattle.meaning.specs.Places.{Bare, Place, placed}
use Rattle.meaning.specs.Growths.{Outcome, Growth, spent}

pub record StairTree : Type 0 where
  pub value : ℕ
  pub floor : ℕ
  pub note : Option ℕ

abbrev pub one_down : StairTree → Stepped StairTree
one_down s = record { answer = true; tree = record { value = s.value - 1; floor = s.floor; note = Some s.value } }

abbrev pub returned : StairTree → Option ℕ → Stepped StairTree
returned s None = stays s
returned s (Some v) = record { answer = true; tree = record { value = v; floor = v; note = None } }

abbrev pub noted : ℕ → Option ℕ → ℕ
noted value None = value
noted value (Some v) = v

abbrev pub how_many : Option ℕ → ℕ
how_many None = 0
how_many (Some v) = 1

abbrev pub bare_stair : Bare StairTree ℕ
bare_stair = record {
  candidate = λ s. s.value ∷ [];
  home = λ s. noted s.value s.note ∷ [];
  back = λ s. how_many s.note;
  longest = λ s. 1;
  simplify = λ s. cond (nat_lt s.floor s.value) (one_down s) (stays s);
  complicate = λ s. returned s s.note;
}

abbrev pub stair_steps : Steps (Place StairTree) ℕ
stair_steps = placed bare_stair

abbrev pub stair_at : {X : Type 0} → Place StairTree → RunnerState X → Result ℕ DrawFault → Outcome X (Place StairTree)
stair_at s r (Err fault) = record { answer = Err (spent fault); runner = r; place = record { grown = false; tree = s.tree } }
stair_at s r (Ok v) = record { answer = Ok tt; runner = r; place = record { grown = true; tree = record { value = v; floor = 0; note = None } } }

abbrev pub stair_growth : {P : Type 0} → (P → ℕ) → Growth P (Place StairTree)
stair_growth limit p X w r s = stair_at s (advanced w r) (drawn 0 (limit p) (word w r.source))
