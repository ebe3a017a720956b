-- What a draw gives, and what growing by draws alone does.
--   drawn_range   a drawn number lies in its range
--   Draws         growing by draws gives Done of what grew, or is refused for want of a word; rejections do not rise
--   drawn_on      it does so where it does after one more draw
--   drawn_so      what follows from Done of what grew is given too

use Rattle.std.proofs.Common.{◌≡◌, ℕ, ◌+◌, ◌-◌, ◌^◌, ◌<◌, ◌≤◌, Some, None, Ok, Err, Option, Result, refl, le_refl, mod-lt, arith}
use Rattle.std.proofs.lemmas.Bool.{lt-ltb}
use Rattle.draws.specs.Draws.{within, drawn}
use Rattle.draws.specs.Runners.{RunnerState}
use Rattle.draws.specs.declared.faults.Cause.{Cause}
use Rattle.draws.specs.declared.faults.Cause.TheVariants.{Slots}
use Rattle.draws.specs.declared.faults.DrawFault.{DrawFault}
use Rattle.meaning.specs.Growths.{Grown, Outcome, Grows}
use Rattle.meaning.specs.GrowthLaws.{Gives, draw_is_not_slots}
use Rattle.meaning.specs.Sets.{draw_on}

within_range : (low high word : ℕ) → low ≤ high → high - low < 2 ^ 64 - 1 → (low ≤ within low high word) × (within low high word ≤ high)
within_range low high word ordered narrow =
    let rest = mod-lt word {m = high - low + 1} (omega arith) in
    rw (lt-ltb (high - low) (2 ^ 64 - 1) narrow) (omega arith, omega arith)

pub drawn_range : (low high : ℕ) → low ≤ high → high - low < 2 ^ 64 - 1 → (word : Option ℕ) (n : ℕ) → drawn low high word ≡ Ok n → (low ≤ n) × (n ≤ high)
drawn_range low high ordered narrow None n e = absurd (cc)
drawn_range low high ordered narrow (Some word) n e = let size : within low high word ≡ n = cc in rw size at (within_range low high word ordered narrow)

abbrev pub Draws : {X T : Type 0} → (T → Type 0) → ℕ → Outcome X T → Type 0
Draws Done rejections o = Gives (Done o.place) (λ cause. cause ≡ Slots → ⊥) o.answer × (o.runner.rejections ≤ rejections)

pub drawn_on : {X A T : Type 0} (Done : T → Type 0) (d : Result A DrawFault) (r : RunnerState X) (t : T) (next : A → Grows X T) →
    ((a : A) → d ≡ Ok a → Draws Done r.rejections (next a r t)) → Draws Done r.rejections (draw_on d r t next)
drawn_on Done (Ok a) r t next later = later a refl
drawn_on Done (Err fault) r t next later = (draw_is_not_slots, le_refl r.rejections)

given_so : {Done More : Type 0} (Failed : Cause → Type 0) (answer : Grown) → (Done → More) → Gives Done Failed answer → Gives More Failed answer
given_so Failed (Ok _) so given = so given
given_so Failed (Err fault) so given = given

pub drawn_so : {X T : Type 0} {Done More : T → Type 0} (rejections : ℕ) (o : Outcome X T) → ((t : T) → Done t → More t) → Draws Done rejections o → Draws More rejections o
drawn_so rejections o so draws = (given_so _ o.answer (so o.place) draws.0, draws.1)
