-- Laws that growths of every kind share.
--   Gives            what an answer gives: one thing where a growth was accepted, another by its cause where it was refused
--   gives            from what is told of an accepted answer and of a fault to what an answer gives
--   Grew             what growing one tree gives, where its place has slots enough: the tree is rooted and states its
--                    longest; or the fault is not too few slots, and the place is blank
--   no_slots         the outcome of a growth that has too few slots
--   Grounds          what a growth keeps, told by whether there are slots enough
--   grounds_roots, roots_grounds   a growth has grounds exactly where it keeps what every growth should
--   unless_no_slots  the growth that asks for its slots first, and then grows as another does
--   unless_roots     such a growth keeps what every growth should, where the other grew
--   accepted_is_no_fault, draw_is_not_slots, reject_is_not_slots   answers and causes that differ

use Rattle.std.specs.Prelude.{◌≡◌, ℕ, ◌≤◌, Bool, true, false, cond, Ok, Err, ◌≢◌, refl}
use Rattle.std.proofs.Common.{sym, ap, subst, inl, inr, le_refl}
use Rattle.std.proofs.lemmas.Bool.{cases_Bool, cond-true, cond-false}
use Rattle.draws.specs.Runners.{RunnerState}
use Rattle.draws.specs.Sources.{Words}
use Rattle.draws.specs.declared.faults.Cause.{Cause}
use Rattle.draws.specs.declared.faults.Cause.TheVariants.{Slots, Draw, Reject}
use Rattle.draws.specs.declared.faults.DrawFault.{DrawFault}
use Rattle.draws.specs.declared.faults.RejectFault.{RejectFault}
use Rattle.draws.specs.declared.faults.GrowFault.{GrowFault}
use Rattle.meaning.specs.Trees.{Steps}
use Rattle.meaning.specs.Growths.{Grown, Outcome, Growth, too_few_slots, Rooted, Refused, Roots}

abbrev pub Gives : Type 0 → (Cause → Type 0) → Grown → Type 0
Gives Done Failed (Ok _) = Done
Gives Done Failed (Err fault) = Failed fault.cause

-- told apart by their shape
abbrev IsOk : Grown → Type 0
IsOk (Ok _) = Unit {0}
IsOk (Err fault) = ⊥

abbrev HasFault : Cause → Type 0
HasFault Slots = ⊥
HasFault (Draw fault) = Unit {0}
HasFault (Reject fault) = Unit {0}

pub accepted_is_no_fault : {fault : GrowFault} → ◌≡◌ {A = Grown} (Ok tt) (Err fault) → ⊥
accepted_is_no_fault e = subst IsOk e tt

pub reject_is_not_slots : {fault : RejectFault} → Reject fault ≢ Slots
reject_is_not_slots e = subst HasFault e tt

pub draw_is_not_slots : {fault : DrawFault} → Draw fault ≢ Slots
draw_is_not_slots e = subst HasFault e tt

-- the fault of a refusal, and another where there is none
abbrev fault_or : GrowFault → Grown → GrowFault
fault_or other (Ok _) = other
fault_or other (Err fault) = fault

same_fault : {one other : GrowFault} → ◌≡◌ {A = Grown} (Err one) (Err other) → one ≡ other
same_fault {one} {other} e = ap (fault_or one) e

module _ (Done : Type 0) (Failed : Cause → Type 0) where
  pub gives : (answer : Grown) → (answer ≡ Ok tt → Done) → ((fault : GrowFault) → answer ≡ Err fault → Failed fault.cause) → Gives Done Failed answer
  gives (Ok _) done failed = done refl
  gives (Err fault) done failed = failed fault refl

  given_done : (answer : Grown) → Gives Done Failed answer → answer ≡ Ok tt → Done
  given_done (Ok _) given e = given
  given_done (Err fault) given e = absurd (accepted_is_no_fault (sym e))

  given_failed : (answer : Grown) → Gives Done Failed answer → (fault : GrowFault) → answer ≡ Err fault → Failed fault.cause
  given_failed (Ok _) given fault e = absurd (accepted_is_no_fault e)
  given_failed (Err own) given fault e = subst (λ (f : GrowFault). Failed f.cause) (same_fault e) given

abbrev pub Grew : {S I : Type 0} → Steps S I → (S → Type 0) → ℕ → S → Grown → Type 0
Grew t sound stated now = Gives (Rooted t sound now × (t.longest now ≡ stated)) (λ cause. (cause ≢ Slots) × (t.grown now ≡ false))

blank_refused : {S I : Type 0} (t : Steps S I) (before now : S) (cause : Cause) → (cause ≢ Slots) → t.grown now ≡ false → Refused t cause before now
blank_refused t before now Slots not_slots blank = absurd (not_slots refl)
blank_refused t before now (Draw fault) not_slots blank = blank
blank_refused t before now (Reject fault) not_slots blank = blank

refused_blank : {S I : Type 0} (t : Steps S I) (before now : S) (cause : Cause) → (cause ≢ Slots) → Refused t cause before now → t.grown now ≡ false
refused_blank t before now Slots not_slots refused = absurd (not_slots refl)
refused_blank t before now (Draw fault) not_slots refused = refused
refused_blank t before now (Reject fault) not_slots refused = refused

abbrev pub no_slots : {X S : Type 0} → RunnerState X → S → Outcome X S
no_slots r s = record { answer = Err too_few_slots; runner = r; place = s }

-- soundness may depend on the strategy
pub record Grounds {S I P : Type 0} (t : Steps S I) (sound : P → S → Type 0) (short : P → S → Bool) (g : Growth P S) (stated : P → ℕ) : Type 1 where
  pub told : (p : P) (X : Type 0) (w : Words X) (r : RunnerState X) (s : S) → short p s ≡ true → g p X w r s ≡ no_slots r s
  pub grew : (p : P) (X : Type 0) (w : Words X) (r : RunnerState X) (s : S) → short p s ≡ false → Grew t (sound p) (stated p) (g p X w r s).place (g p X w r s).answer
  pub lasting : (p q : P) (X : Type 0) (w : Words X) (r : RunnerState X) (s : S) → short p s ≡ false → short q (g p X w r s).place ≡ short q s
  pub blanked : (q : P) (s : S) → short q (t.blank s) ≡ short q s
  pub calm : (p : P) (X : Type 0) (w : Words X) (r : RunnerState X) (s : S) → short p s ≡ false → (g p X w r s).runner.rejections ≤ r.rejections

pub grounds_roots : {S I P : Type 0} {t : Steps S I} {sound : S → Type 0} {short : P → S → Bool} {g : Growth P S} {stated : P → ℕ} → Grounds t (λ p. sound) short g stated → Roots t sound short g stated
grounds_roots {S} {I} {P} {t} {sound} {short} {g} {stated} grounds = record {
  accepted = λ p X w r s. by_slots p X w r s (λ o. o.answer ≡ Ok tt → Rooted t sound o.place × (t.longest o.place ≡ stated p))
      (λ e. absurd (accepted_is_no_fault (sym e)))
      (λ enough. given_done _ _ _ (grounds.grew p X w r s enough));
  refused = λ p X w r s fault. by_slots p X w r s (λ o. o.answer ≡ Err fault → Refused t fault.cause s o.place)
      (λ e. subst (λ (f : GrowFault). Refused t f.cause s s) (same_fault e) refl)
      (λ enough e. let failed = given_failed _ _ _ (grounds.grew p X w r s enough) fault e in blank_refused t s (g p X w r s).place fault.cause failed.0 failed.1);
  told = grounds.told;
  untold = λ p X w r s fault enough e. (given_failed _ _ _ (grounds.grew p X w r s enough) fault e).0;
  lasting = λ p q X w r s. by_slots p X w r s (λ o. short q o.place ≡ short q s) refl (grounds.lasting p q X w r s);
  blanked = grounds.blanked;
  calm = λ p X w r s. by_slots p X w r s (λ o. o.runner.rejections ≤ r.rejections) (le_refl r.rejections) (grounds.calm p X w r s);
}
  where
    by_slots : (p : P) (X : Type 0) (w : Words X) (r : RunnerState X) (s : S) (holds : Outcome X S → Type 0) → holds (no_slots r s) → (short p s ≡ false → holds (g p X w r s)) → holds (g p X w r s)
    by_slots p X w r s holds few enough = elim (cases_Bool (short p s)) [
      | inl e ↦ subst holds (sym (grounds.told p X w r s e)) few
      | inr e ↦ enough e
    ]

pub roots_grounds : {S I P : Type 0} {t : Steps S I} {sound : S → Type 0} {short : P → S → Bool} {g : Growth P S} {stated : P → ℕ} → Roots t sound short g stated → Grounds t (λ p. sound) short g stated
roots_grounds {t} {sound} {short} {g} {stated} roots = record {
  told = roots.told;
  grew = λ p X w r s enough. gives _ _ (g p X w r s).answer (roots.accepted p X w r s)
      (λ fault e. let not_slots = roots.untold p X w r s fault enough e in (not_slots, refused_blank t s (g p X w r s).place fault.cause not_slots (roots.refused p X w r s fault e)));
  lasting = λ p q X w r s enough. roots.lasting p q X w r s;
  blanked = roots.blanked;
  calm = λ p X w r s enough. roots.calm p X w r s;
}

abbrev pub unless_no_slots : {S P : Type 0} → (P → S → Bool) → Growth P S → Growth P S
unless_no_slots short g p X w r s = cond (short p s) (no_slots r s) (g p X w r s)

pub unless_roots : {S I P : Type 0} (t : Steps S I) (sound : S → Type 0) (short : P → S → Bool) (g : Growth P S) (stated : P → ℕ) →
    (grew : (p : P) (X : Type 0) (w : Words X) (r : RunnerState X) (s : S) → short p s ≡ false → Grew t sound (stated p) (g p X w r s).place (g p X w r s).answer)
    (lasting : (p q : P) (X : Type 0) (w : Words X) (r : RunnerState X) (s : S) → short p s ≡ false → short q (g p X w r s).place ≡ short q s)
    (blanked : (q : P) (s : S) → short q (t.blank s) ≡ short q s)
    (calm : (p : P) (X : Type 0) (w : Words X) (r : RunnerState X) (s : S) → short p s ≡ false → (g p X w r s).runner.rejections ≤ r.rejections) →
    Roots t sound short (unless_no_slots short g) stated
unless_roots {S} {I} {P} t sound short g stated grew lasting blanked calm = grounds_roots (record {
  told = λ p X w r s. cond-true (short p s) (no_slots r s) (g p X w r s);
  grew = λ p X w r s enough. where_enough p X w r s enough (λ o. Grew t sound (stated p) o.place o.answer) (grew p X w r s enough);
  lasting = λ p q X w r s enough. where_enough p X w r s enough (λ o. short q o.place ≡ short q s) (lasting p q X w r s enough);
  blanked = blanked;
  calm = λ p X w r s enough. where_enough p X w r s enough (λ o. o.runner.rejections ≤ r.rejections) (calm p X w r s enough);
})
  where
    where_enough : (p : P) (X : Type 0) (w : Words X) (r : RunnerState X) (s : S) → short p s ≡ false → (holds : Outcome X S → Type 0) → holds (g p X w r s) → holds (unless_no_slots short g p X w r s)
    where_enough p X w r s enough holds = subst holds (sym (cond-false (short p s) (no_slots r s) (g p X w r s) enough))
