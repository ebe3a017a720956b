-- What every growth of a set keeps, where what the set is made of grows by draws alone.
--   set_roots     it keeps what every growth should
--   set_minimum   a set that grew has the fewest members of its strategy

use Rattle.std.proofs.Common.{◌≡◌, ℕ, ◌≤◌, Bool, false, List, Ok, Err, sym, refl}
use Rattle.draws.specs.Runners.{RunnerState}
use Rattle.draws.specs.Sources.{Words}
use Rattle.draws.specs.declared.faults.Cause.TheVariants.{Slots}
use Rattle.meaning.specs.Places.{Place}
use Rattle.meaning.specs.Growths.{Grown, Outcome, Growth, Roots}
use Rattle.meaning.specs.GrowthLaws.{Gives, accepted_is_no_fault, Grew, unless_roots}
use Rattle.meaning.specs.Sets.{SetTree, fresh, set_steps, set_answered, set_grown}
use Rattle.meaning.specs.SetLaws.{SetSound, set_sound}
use Rattle.meaning.proofs.Drawing.{Draws}

-- a growth of a set: by strategy p it is made, afresh, of a T that is included and named so
module _ {P T I : Type 0} (grows : P → (X : Type 0) → Words X → RunnerState X → Outcome X T)
    (included : P → T → List Bool) (item : P → T → ℕ → I) (min_count cursor longest : P → ℕ) where
  abbrev made : P → T → SetTree I
  made p t = fresh (included p t) (item p t) (min_count p) (cursor p) (longest p)

  abbrev growth : Growth P (Place (SetTree I))
  growth p X w r s = set_grown (made p) s.tree (grows p X w r)

  module _ {X : Type 0} (p : P) (old : SetTree I) (o : Outcome X T) where
    set_grew : (answer : Grown) → Gives (SetSound (made p o.place)) (λ cause. cause ≡ Slots → ⊥) answer →
        Grew set_steps set_sound (longest p) (set_answered (made p) old o answer).place (set_answered (made p) old o answer).answer
    set_grew (Ok _) is_sound = (record { is_sound = is_sound; is_grown = refl; at_home = refl; no_back = refl }, refl)
    set_grew (Err fault) not_slots = (not_slots, refl)

    set_calm : (answer : Grown) (rejections : ℕ) → o.runner.rejections ≤ rejections → (set_answered (made p) old o answer).runner.rejections ≤ rejections
    set_calm (Ok _) rejections calm = calm
    set_calm (Err fault) rejections calm = calm

    set_minimum_at : (answer : Grown) → (set_answered (made p) old o answer).answer ≡ Ok tt → (set_answered (made p) old o answer).place.tree.min_count ≡ min_count p
    set_minimum_at (Ok _) e = refl
    set_minimum_at (Err fault) e = absurd (accepted_is_no_fault (sym e))

  pub set_minimum : (p : P) (X : Type 0) (w : Words X) (r : RunnerState X) (s : Place (SetTree I)) → (growth p X w r s).answer ≡ Ok tt → (growth p X w r s).place.tree.min_count ≡ min_count p
  set_minimum p X w r s = set_minimum_at p s.tree (grows p X w r) (grows p X w r).answer

  pub set_roots : ((p : P) (X : Type 0) (w : Words X) (r : RunnerState X) → Draws (λ t. SetSound (made p t)) r.rejections (grows p X w r)) →
      Roots set_steps set_sound (λ p s. false) growth longest
  set_roots draws = unless_roots set_steps set_sound (λ p s. false) growth longest
      (λ p X w r s enough. set_grew p s.tree (grows p X w r) (grows p X w r).answer (draws p X w r).0)
      (λ p q X w r s enough. refl)
      (λ q s. refl)
      (λ p X w r s enough. set_calm p s.tree (grows p X w r) (grows p X w r).answer r.rejections (draws p X w r).1)
