-- The laws of a place, from those of the tree that it holds.
--   holding        a place that holds a tree
--   WhereGrown     what holds of a place's tree where it is grown; a blank place asks nothing
--   always         a kind of tree with no thought of being blank, as a kind of tree that is always grown
--   placed_total   a place is total where the steps back of its tree fall
--   placed_keeps   a place keeps its meaning where every tree that it soundly holds does

use Rattle.std.specs.Prelude.{◌≡◌, ◌≤◌, Bool, true, false, length, refl}
use Rattle.std.proofs.Common.{true≢false, inl, le_refl}
use Rattle.meaning.specs.Trees.{Steps, Ends, SimplifyKept, ComplicateKept, Blank, Total, Keeps}
use Rattle.meaning.specs.Places.{Bare, Place, placed}

abbrev pub holding : {B : Type 0} → B → Place B
holding b = record { grown = true; tree = b }

abbrev pub if_grown : Bool → Type 0 → Type 0
if_grown true A = A
if_grown false A = Unit {0}

abbrev pub WhereGrown : {B : Type 0} → (B → Type 0) → Place B → Type 0
WhereGrown P p = if_grown p.grown (P p.tree)

abbrev pub always : {B I : Type 0} → Bare B I → Steps B I
always t = record {
  grown = λ b. true;
  candidate = t.candidate;
  home = t.home;
  back = t.back;
  longest = t.longest;
  blank = λ b. b;
  simplify = t.simplify;
  complicate = t.complicate;
}

-- each law is told by whether the place is grown
abbrev place : {B : Type 0} → Bool → B → Place B
place grown b = record { grown = grown; tree = b }

module _ {B I : Type 0} (t : Bare B I) where
  place_ends : (grown : Bool) (b : B) → Ends (always t) b → Ends (placed t) (place grown b)
  place_ends true b ends = ends
  place_ends false b ends = le_refl 0

  simplify_grown : (grown : Bool) (b : B) → ((placed t).simplify (place grown b)).tree.grown ≡ grown
  simplify_grown true b = refl
  simplify_grown false b = refl

  complicate_grown : (grown : Bool) (b : B) → ((placed t).complicate (place grown b)).tree.grown ≡ grown
  complicate_grown true b = refl
  complicate_grown false b = refl

  place_blank : (grown : Bool) (b : B) → grown ≡ false → Blank (placed t) (place grown b)
  place_blank true b blank = absurd (true≢false blank)
  place_blank false b blank = record { shows_none = refl; home_none = refl; no_back = refl; no_longest = refl; no_simplify = refl; no_complicate = refl }

  pub placed_total : ((b : B) → Ends (always t) b) → Total (placed t)
  placed_total ends = record {
    ends = λ p. place_ends p.grown p.tree (ends p.tree);
    simplify_grown = λ p. simplify_grown p.grown p.tree;
    complicate_grown = λ p. complicate_grown p.grown p.tree;
    blank = λ p. place_blank p.grown p.tree;
    blanks = λ p. refl;
  }

  module _ (sound : Place B → Type 0) (keeps : Keeps (always t) (λ b. sound (holding b))) where
    place_fits : (grown : Bool) (b : B) → sound (place grown b) → length ((placed t).candidate (place grown b)) ≤ (placed t).longest (place grown b)
    place_fits true b is_sound = keeps.fits b is_sound
    place_fits false b is_sound = le_refl 0

    place_simplify : (grown : Bool) (b : B) → sound (place grown b) → SimplifyKept (placed t) sound (place grown b) ((placed t).simplify (place grown b))
    place_simplify true b is_sound = keeps.simplify b is_sound
    place_simplify false b is_sound = (is_sound, (refl, inl refl), refl)

    place_complicate : (grown : Bool) (b : B) → sound (place grown b) → ComplicateKept (placed t) sound (place grown b) ((placed t).complicate (place grown b))
    place_complicate true b is_sound = keeps.complicate b is_sound
    place_complicate false b is_sound = (is_sound, (refl, refl, refl, le_refl 0), refl)

    pub placed_keeps : Keeps (placed t) sound
    placed_keeps = record {
      fits = λ p. place_fits p.grown p.tree;
      simplify = λ p. place_simplify p.grown p.tree;
      complicate = λ p. place_complicate p.grown p.tree;
    }
