-- What growing a tree into a place means.
--   Grown     the answer of a growth: accepted, or the fault
--   Outcome   what growing answers and leaves: the answer, the runner, the place
--   Grows     growing from one kind of source: from a runner and a place to the outcome
--   Growth    what a strategy P means for trees with states S: for every source, runner and place, the outcome
--   too_few_slots, spent, none_left   the three faults, before any element or option has put its number on them
--   Rooted    a tree fresh from an accepted growth: sound, grown, at home, with no step back
--   Refused   what a refused growth leaves: for too few slots the place as it was, else a blank place
--   Roots     what every growth of a kind of tree keeps

use Rattle.std.specs.Prelude.{◌≡◌, ℕ, ◌≤◌, Bool, true, false, None, Ok, Err, Result, ◌≢◌}
use Rattle.draws.specs.Sources.{Words}
use Rattle.draws.specs.Runners.{RunnerState}
use Rattle.draws.specs.declared.faults.Cause.{Cause}
use Rattle.draws.specs.declared.faults.Cause.TheVariants.{Slots, Draw, Reject}
use Rattle.draws.specs.declared.faults.DrawFault.{DrawFault}
use Rattle.draws.specs.declared.faults.RejectFault.{RejectFault}
use Rattle.draws.specs.declared.faults.GrowFault.{GrowFault}
use Rattle.meaning.specs.Trees.{Steps}

abbrev pub Grown : Type 0
Grown = Result (Unit {0}) GrowFault

pub record Outcome (X S : Type 0) : Type 0 where
  pub answer : Grown
  pub runner : RunnerState X
  pub place : S

abbrev pub Grows : Type 0 → Type 0 → Type 0
Grows X S = RunnerState X → S → Outcome X S

abbrev pub Growth : Type 0 → Type 0 → Type 1
Growth P S = P → (X : Type 0) → Words X → Grows X S

abbrev pub too_few_slots : GrowFault
too_few_slots = record { cause = Slots; element = None }

abbrev pub spent : DrawFault → GrowFault
spent fault = record { cause = Draw fault; element = None }

abbrev pub none_left : RejectFault → GrowFault
none_left fault = record { cause = Reject fault; element = None }

pub record Rooted {S I : Type 0} (t : Steps S I) (sound : S → Type 0) (s : S) : Type 0 where
  pub is_sound : sound s
  pub is_grown : t.grown s ≡ true
  pub at_home : t.home s ≡ t.candidate s
  pub no_back : t.back s ≡ 0

abbrev pub Refused : {S I : Type 0} → Steps S I → Cause → S → S → Type 0
Refused t Slots before now = now ≡ before
Refused t (Draw fault) before now = t.grown now ≡ false
Refused t (Reject fault) before now = t.grown now ≡ false

-- short: where a place has too few slots for a strategy; stated: the longest that a strategy states
pub record Roots {S I P : Type 0} (t : Steps S I) (sound : S → Type 0) (short : P → S → Bool) (g : Growth P S) (stated : P → ℕ) : Type 1 where
  pub accepted : (p : P) (X : Type 0) (w : Words X) (r : RunnerState X) (s : S) → (g p X w r s).answer ≡ Ok tt → Rooted t sound (g p X w r s).place × (t.longest (g p X w r s).place ≡ stated p)
  pub refused : (p : P) (X : Type 0) (w : Words X) (r : RunnerState X) (s : S) (fault : GrowFault) → (g p X w r s).answer ≡ Err fault → Refused t fault.cause s (g p X w r s).place
  -- too few slots is told, and told first, exactly where the place has too few; no growth changes that
  pub told : (p : P) (X : Type 0) (w : Words X) (r : RunnerState X) (s : S) → short p s ≡ true → g p X w r s ≡ record { answer = Err too_few_slots; runner = r; place = s }
  pub untold : (p : P) (X : Type 0) (w : Words X) (r : RunnerState X) (s : S) (fault : GrowFault) → short p s ≡ false → (g p X w r s).answer ≡ Err fault → fault.cause ≢ Slots
  pub lasting : (p q : P) (X : Type 0) (w : Words X) (r : RunnerState X) (s : S) → short q (g p X w r s).place ≡ short q s
  -- nor does making the place blank
  pub blanked : (q : P) (s : S) → short q (t.blank s) ≡ short q s
  -- rejections never rise
  pub calm : (p : P) (X : Type 0) (w : Words X) (r : RunnerState X) (s : S) → (g p X w r s).runner.rejections ≤ r.rejections
