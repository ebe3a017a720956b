-- The laws of the stair.
--   stair_total   at every state
--   stair_keeps   every state is sound
--   stair_roots   a grown stair is at home and states the longest 1; a place of a stair never has too few slots

use Rattle.std.specs.Prelude.{ℕ, ◌≤◌, Bool, true, false, cond, Some, None, Ok, Err, Option, Result, nat_lt, refl}
use Rattle.std.proofs.Common.{inl, le_refl}
use Rattle.draws.specs.Sources.{word}
use Rattle.draws.specs.Draws.{drawn}
use Rattle.draws.specs.Runners.{RunnerState, advanced}
use Rattle.draws.specs.declared.faults.DrawFault.{DrawFault}
use Rattle.meaning.specs.Trees.{stays, Ends, SimplifyKept, ComplicateKept, Total, Keeps}
use Rattle.meaning.specs.Places.{Place}
use Rattle.meaning.specs.PlaceLaws.{always, placed_total, placed_keeps}
use Rattle.meaning.specs.Growths.{Roots}
use Rattle.meaning.specs.GrowthLaws.{draw_is_not_slots, Grew, unless_roots}
use Rattle.meaning.specs.Stairs.{StairTree, one_down, returned, bare_stair, stair_steps, stair_at, stair_growth}

abbrev Any : {S : Type 0} → S → Type 0
Any s = Unit {0}

-- a stair with another note
abbrev noting : StairTree → Option ℕ → StairTree
noting s note = record { value = s.value; floor = s.floor; note = note }

stair_ends : (s : StairTree) (note : Option ℕ) → Ends (always bare_stair) (noting s note)
stair_ends s None = le_refl 0
stair_ends s (Some v) = le_refl 1

pub stair_total : Total stair_steps
stair_total = placed_total bare_stair (λ s. stair_ends s s.note)

stair_simplify : (s : StairTree) (above : Bool) → SimplifyKept (always bare_stair) Any s (cond above (one_down s) (stays s))
stair_simplify s true = (tt, refl, refl)
stair_simplify s false = (tt, (refl, inl refl), refl)

stair_complicate : (s : StairTree) (note : Option ℕ) → ComplicateKept (always bare_stair) Any (noting s note) (returned (noting s note) note)
stair_complicate s None = (tt, (refl, refl, refl, le_refl 0), refl)
stair_complicate s (Some v) = (tt, (refl, le_refl 1), refl)

pub stair_keeps : Keeps stair_steps (λ s. Unit {0})
stair_keeps = placed_keeps bare_stair Any (record {
  fits = λ s is_sound. le_refl 1;
  simplify = λ s is_sound. stair_simplify s (nat_lt s.floor s.value);
  complicate = λ s is_sound. stair_complicate s s.note;
})

module _ {X : Type 0} (s : Place StairTree) (r : RunnerState X) where
  stair_grew : (d : Result ℕ DrawFault) → Grew stair_steps Any 1 (stair_at s r d).place (stair_at s r d).answer
  stair_grew (Ok v) = (record { is_sound = tt; is_grown = refl; at_home = refl; no_back = refl }, refl)
  stair_grew (Err fault) = (draw_is_not_slots, refl)

  stair_calm : (d : Result ℕ DrawFault) → (stair_at s r d).runner.rejections ≤ r.rejections
  stair_calm (Ok v) = le_refl r.rejections
  stair_calm (Err fault) = le_refl r.rejections

pub stair_roots : {P : Type 0} (limit : P → ℕ) → Roots stair_steps (λ s. Unit {0}) (λ p s. false) (stair_growth limit) (λ p. 1)
stair_roots limit = unless_roots stair_steps Any (λ p s. false) (stair_growth limit) (λ p. 1)
    (λ p X w r s enough. stair_grew s (advanced w r) (drawn 0 (limit p) (word w r.source)))
    (λ p q X w r s enough. refl)
    (λ q s. refl)
    (λ p X w r s enough. stair_calm s (advanced w r) (drawn 0 (limit p) (word w r.source)))
