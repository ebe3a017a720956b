-- The laws of Fuse.
--   fuse_total   a fuse is total where the tree inside is
--   fuse_keeps   it keeps its meaning where the tree inside keeps its own
--   fuse_roots   its growth keeps what every growth should, where that of the tree inside does
--   disallow_simplify_meant, disallow_complicate_meant, freeze_meant   what is meant after each of the three calls
--   disallow_simplify_kept, disallow_complicate_kept, freeze_kept      each keeps what a simplify that answers false does
--   frozen       a frozen fuse answers false to both steps and stays as it is

use Rattle.std.proofs.Common.{◌≡◌, ℕ, Bool, true, false, cond, [], refl, ◌∙◌, inl, inr, le_refl, arith}
use Rattle.std.proofs.lemmas.Bool.{cond_both}
use Rattle.meaning.specs.Trees.{Stepped, stays, Steps, Meant, meant, Falls, SimplifyKept, ComplicateKept, Total, Keeps}
use Rattle.meaning.specs.Growths.{Growth, Roots}
use Rattle.meaning.specs.Fuses.{FuseTree, fuse_simplified, fuse_complicated, fuse_steps, disallow_simplify, disallow_complicate, freeze, fuse_wrap, fuse_growth, fuse_short, fuse_sound}
use Rattle.meaning.proofs.Wrapping.{Wraps, under_grounds, wrap_roots}

-- each law of the steps is told by the two flags, by the answer of the tree inside and by the tree that it leaves
module _ {S : Type 0} where
  abbrev fuse : S → (may_simplify may_complicate : Bool) → FuseTree S
  fuse inner may_simplify may_complicate = record { inner = inner; may_simplify = may_simplify; may_complicate = may_complicate }

  abbrev simplified : FuseTree S → Stepped S → Stepped (FuseTree S)
  simplified s inner = cond s.may_simplify (fuse_simplified s inner) (stays s)

  abbrev complicated : FuseTree S → Stepped S → Stepped (FuseTree S)
  complicated s inner = cond s.may_complicate (fuse_complicated s inner) (stays s)

  abbrev pub step : Bool → S → Stepped S
  step answer s = record { answer = answer; tree = s }

module _ {S I : Type 0} (t : Steps S I) where
  fuse_ends : (s s' : S) (may_simplify may_complicate answer : Bool) → Falls (t.back s) answer (t.back s') →
      (let before : FuseTree S = fuse s may_simplify may_complicate in Falls ((fuse_steps t).back before) (complicated before (step answer s')).answer ((fuse_steps t).back (complicated before (step answer s')).tree))
  fuse_ends s s' a true true falls = falls
  fuse_ends s s' a true false falls = omega arith
  fuse_ends s s' a false answer falls = le_refl 0

  module _ (sound : S → Type 0) (s s' : S) (is_sound : sound s) where
    fuse_simplify : (may_simplify may_complicate answer : Bool) → SimplifyKept t sound s (step answer s') →
        SimplifyKept (fuse_steps t) (fuse_sound sound) (fuse s may_simplify may_complicate) (simplified (fuse s may_simplify may_complicate) (step answer s'))
    fuse_simplify true b true kept = kept
    fuse_simplify true true false kept = kept
    fuse_simplify true false false (now-sound, (shown, home), longest) = (now-sound, (shown, inl shown), longest)
    fuse_simplify false b answer kept = (is_sound, (refl, inl refl), refl)

    fuse_complicate : (may_simplify may_complicate answer : Bool) → ComplicateKept t sound s (step answer s') →
        ComplicateKept (fuse_steps t) (fuse_sound sound) (fuse s may_simplify may_complicate) (complicated (fuse s may_simplify may_complicate) (step answer s'))
    fuse_complicate a true true kept = kept
    fuse_complicate a true false (now-sound, (shown, home, at_home, falls), longest) = (now-sound, (shown, shown ∙ at_home, at_home, omega arith), longest)
    fuse_complicate a false answer kept = (is_sound, (refl, refl, refl, le_refl 0), refl)

pub fuse_total : {S I : Type 0} {t : Steps S I} → Total t → Total (fuse_steps t)
fuse_total {S} {I} {t} total = record {
  ends = λ s. let inner = t.complicate s.inner in fuse_ends t s.inner inner.tree s.may_simplify s.may_complicate inner.answer (total.ends s.inner);
  simplify_grown = λ s. cond_both s.may_simplify _ _ (λ (now : Stepped (FuseTree S)). t.grown now.tree.inner ≡ t.grown s.inner) (λ may. total.simplify_grown s.inner) (λ may-not. refl);
  complicate_grown = λ s. cond_both s.may_complicate _ _ (λ (now : Stepped (FuseTree S)). t.grown now.tree.inner ≡ t.grown s.inner) (λ may. total.complicate_grown s.inner) (λ may-not. refl);
  blank = λ s e. let blank = total.blank s.inner e in record {
    shows_none = blank.shows_none;
    home_none = cond_both s.may_complicate _ _ (λ home. home ≡ []) (λ may. blank.home_none) (λ may-not. blank.shows_none);
    no_back = cond_both s.may_complicate _ _ (λ back. back ≡ 0) (λ may. blank.no_back) (λ may-not. refl);
    no_longest = blank.no_longest;
    no_simplify = cond_both s.may_simplify _ _ (λ (now : Stepped (FuseTree S)). now.answer ≡ false) (λ may. blank.no_simplify) (λ may-not. refl);
    no_complicate = cond_both s.may_complicate _ _ (λ (now : Stepped (FuseTree S)). now.answer ≡ false) (λ may. blank.no_complicate) (λ may-not. refl);
  };
  blanks = λ s. total.blanks s.inner;
}

pub fuse_keeps : {S I : Type 0} {t : Steps S I} {sound : S → Type 0} → Keeps t sound → Keeps (fuse_steps t) (fuse_sound sound)
fuse_keeps {t} {sound} keeps = record {
  fits = λ s. keeps.fits s.inner;
  simplify = λ s is_sound. let inner = t.simplify s.inner in fuse_simplify t sound s.inner inner.tree is_sound s.may_simplify s.may_complicate inner.answer (keeps.simplify s.inner is_sound);
  complicate = λ s is_sound. let inner = t.complicate s.inner in fuse_complicate t sound s.inner inner.tree is_sound s.may_simplify s.may_complicate inner.answer (keeps.complicate s.inner is_sound);
}

fuse_wraps : {S I Q : Type 0} (t : Steps S I) → Wraps (fuse_wrap {Q = Q}) t (fuse_steps t)
fuse_wraps t = record { same = λ s. refl; in_replaced = λ s x. refl; in_fresh = λ q x. refl; in_blank = λ s. refl; grown = λ s. refl }

pub fuse_roots : {S I P Q : Type 0} {t : Steps S I} {sound : S → Type 0} {short : P → S → Bool} {g : Growth P S} {stated : P → ℕ} (under : Q → P) →
    Roots t sound short g stated → Roots (fuse_steps t) (fuse_sound sound) (fuse_short under short) (fuse_growth under g) (λ q. stated (under q))
fuse_roots {t} {sound} {stated} under roots = wrap_roots (fuse_wraps t) (fuse_sound sound) (λ q. stated (under q)) (under_grounds under roots)
    (λ q x rooted states. (record { is_sound = rooted.is_sound; is_grown = rooted.is_grown; at_home = refl; no_back = refl }, states))

-- the three calls: what is meant after each, and that it keeps what a simplify that answers false does
module _ {S I : Type 0} (t : Steps S I) (s : FuseTree S) where
  -- at home where it is, with no step back
  abbrev at_rest : Meant I
  at_rest = record { candidate = t.candidate s.inner; home = t.candidate s.inner; back = 0 }

  pub disallow_simplify_meant : meant (fuse_steps t) (disallow_simplify s) ≡ meant (fuse_steps t) s
  disallow_simplify_meant = refl

  pub disallow_complicate_meant : meant (fuse_steps t) (disallow_complicate s) ≡ at_rest
  disallow_complicate_meant = refl

  pub freeze_meant : meant (fuse_steps t) (freeze s) ≡ at_rest
  freeze_meant = refl

  pub frozen : ((fuse_steps t).simplify (freeze s) ≡ stays (freeze s)) × ((fuse_steps t).complicate (freeze s) ≡ stays (freeze s))
  frozen = (refl, refl)

  module _ (sound : S → Type 0) (is_sound : fuse_sound sound s) where
    abbrev Kept : FuseTree S → Type 0
    Kept now = SimplifyKept (fuse_steps t) (fuse_sound sound) s (step false now)

    pub disallow_simplify_kept : Kept (disallow_simplify s)
    disallow_simplify_kept = (is_sound, (refl, inl refl), refl)

    pub disallow_complicate_kept : Kept (disallow_complicate s)
    disallow_complicate_kept = (is_sound, (refl, inr refl), refl)

    pub freeze_kept : Kept (freeze s)
    freeze_kept = (is_sound, (refl, inr refl), refl)
