-- Fuses that can't complicate until they simplify again.
--   shut_is      such a fuse is one that was disallowed to complicate
--   still_shut   it stays so where simplify answers false
--   now_shut     a fuse is so after complicate answered false
--   led_rests    a fuse that is led home is sound, and can't complicate

use Rattle.std.proofs.Common.{◌≡◌, ℕ, zero, suc, ◌<◌, ◌≤◌, Bool, true, false, cond, refl, ap, true≢false, arith}
use Rattle.meaning.specs.Trees.{Stepped, stays, Steps, ComplicateKept, Keeps}
use Rattle.meaning.specs.Fuses.{FuseTree, fuse_simplified, fuse_complicated, disallow_complicate, fuse_steps, fuse_sound}
use Rattle.meaning.specs.Sifters.{settle_once, settle}
use Rattle.meaning.specs.FlattenLaws.{Shut}
use Rattle.meaning.proofs.FuseLaws.{step, fuse_keeps}

pub shut_is : {S : Type 0} (f : FuseTree S) → Shut f → f ≡ disallow_complicate f
shut_is f shut = ap (λ (may : Bool). record { inner = f.inner; may_simplify = f.may_simplify; may_complicate = may }) shut

module _ {S I : Type 0} (t : Steps S I) where
  pub still_shut : (f : FuseTree S) → ((fuse_steps t).simplify f).answer ≡ false → Shut f → Shut ((fuse_steps t).simplify f).tree
  still_shut f = by f.may_simplify (t.simplify f.inner).answer
    where
      by : (may answer : Bool) → (let r : Stepped (FuseTree S) = cond may (fuse_simplified f (step answer (t.simplify f.inner).tree)) (stays f) in r.answer ≡ false → Shut f → Shut r.tree)
      by true true answered shut = absurd (true≢false answered)
      by true false answered shut = shut
      by false answer answered shut = shut

  pub now_shut : (f : FuseTree S) → ((fuse_steps t).complicate f).answer ≡ false → Shut ((fuse_steps t).complicate f).tree
  now_shut f = by f.may_complicate refl
    where
      by : (may : Bool) → f.may_complicate ≡ may → (let r : Stepped (FuseTree S) = cond may (fuse_complicated f (t.complicate f.inner)) (stays f) in r.answer ≡ false → Shut r.tree)
      by true is answered = answered
      by false is answered = is

  module _ (sound : S → Type 0) (keeps : Keeps t sound) where
    abbrev pub Home : FuseTree S → Type 0
    Home f = sound f.inner × Shut f

    led_on : (n : ℕ) (f : FuseTree S) (next : FuseTree S → FuseTree S) → sound f.inner → (fuse_steps t).back f ≤ n → ((now : FuseTree S) → sound now.inner → (fuse_steps t).back now < n → Home (next now)) → Home (settle_once (fuse_steps t) (λ items. false) next f)
    led_on n f next is_sound enough home = by r.answer ((fuse_keeps keeps).complicate f is_sound) (now_shut f)
      where
        r : Stepped (FuseTree S)
        r = (fuse_steps t).complicate f

        by : (answer : Bool) → ComplicateKept (fuse_steps t) (fuse_sound sound) f (step answer r.tree) → (answer ≡ false → Shut r.tree) → Home (cond answer (next r.tree) r.tree)
        by true kept shut = home r.tree kept.0 (omega arith)
        by false kept shut = (kept.0, shut refl)

    pub led_rests : (n : ℕ) (f : FuseTree S) → sound f.inner → (fuse_steps t).back f ≤ n → Home (settle (fuse_steps t) (λ items. false) n f)
    led_rests zero f is_sound enough = led_on 0 f (λ last. last) is_sound enough (λ now still less. absurd (omega arith))
    led_rests (suc n) f is_sound enough = led_on (suc n) f (settle (fuse_steps t) (λ items. false) n) is_sound enough (λ now still less. led_rests n now still (omega arith))
