-- The laws of Just.
--   just_total   at every state
--   just_keeps   every state is sound
--   just_roots   a grown Just shows the strategy's item and states the longest 1; its place never has too few slots

use Rattle.std.proofs.Common.{false, refl, inl, le_refl}
use Rattle.meaning.specs.Trees.{Total, Keeps}
use Rattle.meaning.specs.PlaceLaws.{placed_total, placed_keeps}
use Rattle.meaning.specs.Growths.{Roots}
use Rattle.meaning.specs.GrowthLaws.{unless_roots}
use Rattle.meaning.specs.Justs.{bare_just, just_steps, just_growth, just_sound}

pub just_total : {I : Type 0} → Total (just_steps {I = I})
just_total = placed_total bare_just (λ item. le_refl 0)

pub just_keeps : {I : Type 0} → Keeps (just_steps {I = I}) just_sound
just_keeps = placed_keeps bare_just just_sound (record {
  fits = λ item is_sound. le_refl 1;
  simplify = λ item is_sound. (tt, (refl, inl refl), refl);
  complicate = λ item is_sound. (tt, (refl, refl, refl, le_refl 0), refl);
})

pub just_roots : {I P : Type 0} (item : P → I) → Roots just_steps just_sound (λ p s. false) (just_growth item) (λ p. 1)
just_roots item = unless_roots just_steps just_sound (λ p s. false) (just_growth item) (λ p. 1)
    (λ p X w r s enough. (record { is_sound = tt; is_grown = refl; at_home = refl; no_back = refl }, refl))
    (λ p q X w r s enough. refl)
    (λ q s. refl)
    (λ p X w r s enough. le_refl r.rejections)
