-- Elements that grow in order: what each growth gives, all give.

use Rattle.std.proofs.Common.{◌≡◌, ℕ, zero, suc, ◌+◌, ◌<◌, ◌≤◌, Bool, true, false, cond, Ok, Err, refl, subst, true≢false, le_refl, arith}
use Rattle.draws.specs.Runners.{RunnerState}
use Rattle.draws.specs.declared.faults.Cause.{Cause}
use Rattle.meaning.specs.Growths.{Grown, Outcome, Grows}
use Rattle.meaning.specs.GrowthLaws.{Gives}
use Rattle.meaning.specs.Vectors.{grow_on, grow_from}

pub neither : (a b : Bool) → cond a true b ≡ false → (a ≡ false) × (b ≡ false)
neither true b e = absurd (true≢false e)
neither false b e = (refl, e)

-- Done i holds before element number i, and its growth gives Done of the next number, or Failed
module _ {X T : Type 0} (g : ℕ → Grows X T) (n : ℕ) (Done : ℕ → RunnerState X → T → Type 0) (Failed : RunnerState X → T → Cause → Type 0) where
  abbrev pub Given : ℕ → Outcome X T → Grown → Type 0
  Given i o = Gives (Done i o.runner o.place) (Failed o.runner o.place)

  module _ (each : (i : ℕ) (r : RunnerState X) (s : T) → i < n → Done i r s → Given (suc i) (g i r s) (g i r s).answer) where
    given_on : (i : ℕ) (o : Outcome X T) (answer : Grown) (next : Grows X T) → Given (suc i) o answer →
        (Done (suc i) o.runner o.place → Given n (next o.runner o.place) (next o.runner o.place).answer) → Given n (grow_on i o answer next) (grow_on i o answer next).answer
    given_on i o (Ok _) next given later = later given
    given_on i o (Err fault) next given later = given

    pub given_from : (m i : ℕ) → i + m ≡ n → (r : RunnerState X) (s : T) → Done i r s → Given n (grow_from g m i r s) (grow_from g m i r s).answer
    given_from zero i e r s done = subst (λ (k : ℕ). Done k r s) (let last : i ≡ n = omega arith in last) done
    given_from (suc m) i e r s done = given_on i (g i r s) (g i r s).answer (grow_from g m (suc i)) (each i r s (omega arith) done) (given_from m (suc i) (omega arith) (g i r s).runner (g i r s).place)

-- what every growth in a table keeps, accepted or not: rejections never rise, and no slot comes to be too few
pub record Kept {X T P : Type 0} (short : P → ℕ → T → Bool) (r : RunnerState X) (s : T) (r' : RunnerState X) (s' : T) : Type 0 where
  pub calm : r'.rejections ≤ r.rejections
  pub lasting : (q : P) (n : ℕ) → short q n s' ≡ short q n s

pub unchanged : {X T P : Type 0} (short : P → ℕ → T → Bool) (r : RunnerState X) (s : T) → Kept short r s r s
unchanged short r s = record { calm = le_refl r.rejections; lasting = λ q n. refl }
