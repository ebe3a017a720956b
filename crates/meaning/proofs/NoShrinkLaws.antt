-- The laws of NoShrink, from those of the tree inside.
--   no_shrink_total, no_shrink_keeps, no_shrink_roots

use Rattle.std.proofs.Common.{ℕ, Bool, refl, inl, le_refl}
use Rattle.meaning.specs.Trees.{Steps, Total, Keeps}
use Rattle.meaning.specs.Growths.{Growth, Roots}
use Rattle.meaning.specs.NoShrinks.{no_shrink_steps, no_shrink_growth}

module _ {S I : Type 0} {t : Steps S I} where
  pub no_shrink_total : Total t → Total (no_shrink_steps t)
  no_shrink_total total = record {
    ends = λ s. le_refl 0;
    simplify_grown = λ s. refl;
    complicate_grown = λ s. refl;
    blank = λ s e. let blank = total.blank s e in record {
      shows_none = blank.shows_none;
      home_none = blank.shows_none;
      no_back = refl;
      no_longest = blank.no_longest;
      no_simplify = refl;
      no_complicate = refl;
    };
    blanks = total.blanks;
  }

  pub no_shrink_keeps : {sound : S → Type 0} → Keeps t sound → Keeps (no_shrink_steps t) sound
  no_shrink_keeps keeps = record {
    fits = keeps.fits;
    simplify = λ s is_sound. (is_sound, (refl, inl refl), refl);
    complicate = λ s is_sound. (is_sound, (refl, refl, refl, le_refl 0), refl);
  }

  pub no_shrink_roots : {P Q : Type 0} {sound : S → Type 0} {short : P → S → Bool} {g : Growth P S} {stated : P → ℕ} (under : Q → P) →
      Roots t sound short g stated → Roots (no_shrink_steps t) sound (λ q. short (under q)) (no_shrink_growth under g) (λ q. stated (under q))
  no_shrink_roots under roots = record {
    accepted = λ q X w r s e. let (rooted, states) = roots.accepted (under q) X w r s e in (record { is_sound = rooted.is_sound; is_grown = rooted.is_grown; at_home = refl; no_back = refl }, states);
    refused = λ q. roots.refused (under q);
    told = λ q. roots.told (under q);
    untold = λ q. roots.untold (under q);
    lasting = λ q other. roots.lasting (under q) (under other);
    blanked = λ q. roots.blanked (under q);
    calm = λ q. roots.calm (under q);
  }
