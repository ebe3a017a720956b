-- Fuse: a tree that is not asked again for a step that it has refused.
--   FuseTree              the tree inside, whether simplify may be asked of it, and whether complicate may
--   fuse_steps            simplify and complicate ask the tree inside where they may, and answer as it does; a false is
--                         not asked for again until the other step answers true. Home is that of the tree inside where
--                         complicate may be asked, and else the candidate
--   disallow_simplify     no simplify until complicate answers true
--   disallow_complicate   no complicate until simplify answers true: the candidate is made the home
--   freeze                both, so that no step changes the tree again
--   fused                 a fuse as it is grown: it may be simplified, and not complicated
--   fuse_growth           an accepted growth is fused; a refused one leaves both flags as they were
--   fuse_short            whether the tree inside has too few slots
--   fuse_sound            the tree inside is sound

use Rattle.std.specs.Prelude.{Bool, true, false, cond, ◌||◌}
use Rattle.meaning.specs.Trees.{Stepped, stays, Steps}
use Rattle.meaning.specs.Growths.{Growth}
use Rattle.meaning.specs.Wraps.{Wrap, wrap_growth}

pub record FuseTree (S : Type 0) : Type 0 where
  pub inner : S
  pub may_simplify : Bool
  pub may_complicate : Bool

abbrev pub fuse_simplified : {S : Type 0} → FuseTree S → Stepped S → Stepped (FuseTree S)
fuse_simplified s step = record { answer = step.answer; tree = record { inner = step.tree; may_simplify = step.answer; may_complicate = step.answer || s.may_complicate } }

abbrev pub fuse_complicated : {S : Type 0} → FuseTree S → Stepped S → Stepped (FuseTree S)
fuse_complicated s step = record { answer = step.answer; tree = record { inner = step.tree; may_simplify = step.answer || s.may_simplify; may_complicate = step.answer } }

-- another tree inside, with the same flags
abbrev pub fuse_replaced : {S : Type 0} → FuseTree S → S → FuseTree S
fuse_replaced s inner = record { inner = inner; may_simplify = s.may_simplify; may_complicate = s.may_complicate }

abbrev pub fuse_steps : {S I : Type 0} → Steps S I → Steps (FuseTree S) I
fuse_steps t = record {
  grown = λ s. t.grown s.inner;
  candidate = λ s. t.candidate s.inner;
  home = λ s. cond s.may_complicate (t.home s.inner) (t.candidate s.inner);
  back = λ s. cond s.may_complicate (t.back s.inner) 0;
  longest = λ s. t.longest s.inner;
  blank = λ s. fuse_replaced s (t.blank s.inner);
  simplify = λ s. cond s.may_simplify (fuse_simplified s (t.simplify s.inner)) (stays s);
  complicate = λ s. cond s.may_complicate (fuse_complicated s (t.complicate s.inner)) (stays s);
}

abbrev pub disallow_simplify : {S : Type 0} → FuseTree S → FuseTree S
disallow_simplify s = record { inner = s.inner; may_simplify = false; may_complicate = s.may_complicate }

abbrev pub disallow_complicate : {S : Type 0} → FuseTree S → FuseTree S
disallow_complicate s = record { inner = s.inner; may_simplify = s.may_simplify; may_complicate = false }

abbrev pub freeze : {S : Type 0} → FuseTree S → FuseTree S
freeze s = disallow_complicate (disallow_simplify s)

-- as it is grown: it may be simplified, and not complicated
abbrev pub fused : {S : Type 0} → S → FuseTree S
fused inner = record { inner = inner; may_simplify = true; may_complicate = false }

abbrev pub fuse_wrap : {Q S : Type 0} → Wrap Q S (FuseTree S)
fuse_wrap = record {
  inside = λ s. s.inner;
  replaced = fuse_replaced;
  fresh = λ q inner. fused inner;
}

abbrev pub fuse_growth : {S P Q : Type 0} → (Q → P) → Growth P S → Growth Q (FuseTree S)
fuse_growth under g = wrap_growth fuse_wrap (λ q. g (under q))

abbrev pub fuse_short : {S P Q : Type 0} → (Q → P) → (P → S → Bool) → Q → FuseTree S → Bool
fuse_short under short q s = short (under q) s.inner

abbrev pub fuse_sound : {S : Type 0} → (S → Type 0) → FuseTree S → Type 0
fuse_sound sound s = sound s.inner
