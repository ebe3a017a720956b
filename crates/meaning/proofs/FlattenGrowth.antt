-- The laws of a flatten's growth.
--   flat_roots   a flatten's growth keeps what every growth should, where that of its source and that of its tree do, and its
--                chooser keeps what it states

use Rattle.std.proofs.Common.{◌≡◌, ℕ, ◌≤◌, Bool, false, List, [], ◌∷◌, Some, Ok, Err, sym, refl, ◌∙◌, subst, arith}
use Rattle.draws.specs.Runners.{RunnerState, cloned}
use Rattle.draws.specs.Sources.{Words}
use Rattle.draws.specs.declared.faults.Cause.{Cause}
use Rattle.draws.specs.declared.faults.Cause.TheVariants.{Slots}
use Rattle.meaning.specs.Trees.{Steps}
use Rattle.meaning.specs.Places.{Place}
use Rattle.meaning.specs.Growths.{Grown, Outcome, Growth, Roots}
use Rattle.meaning.specs.GrowthLaws.{Gives, gives, Grew, unless_roots}
use Rattle.meaning.specs.TableLaws.{Standing, Limited}
use Rattle.meaning.specs.Offers.{if_accepted, after_request, offers_of}
use Rattle.meaning.specs.Fuses.{fused}
use Rattle.meaning.specs.Flattens.{FlatTree, with_trees, flat_steps, Chooser, current_grown, source_grown, flat_short, flat_grows, flat_growth}
use Rattle.meaning.specs.FlattenLaws.{Fitting, flat_sound, ChooserKeeps}
use Rattle.meaning.proofs.Growing.{neither}

accepted_is : {S : Type 0} (answer : Grown) (s new : S) (A : S → Type 0) → (answer ≡ Ok tt → A s) → if_accepted answer s ≡ Some new → A new
accepted_is (Ok _) s new A accepted e = let same : s ≡ new = cc in subst A same (accepted refl)
accepted_is (Err fault) s new A accepted e = absurd (cc)

module _ {M S J I N P Q : Type 0} {source : Steps M J} {t : Steps S I} {source_sound : M → Type 0} {sound : S → Type 0} {source_short : N → M → Bool} {short : P → S → Bool}
    {gm : Growth N M} {g : Growth P S} {source_stated : N → ℕ} {stated : P → ℕ} (under : Q → N) (chooser : Chooser Q J P S) (chooser-keeps : ChooserKeeps chooser short stated)
    (source-roots : Roots source source_sound source_short gm source_stated) (roots : Roots t sound short g stated) where
  -- what is chosen for a list grows so
  module _ (q : Q) (X : Type 0) (w : Words X) where
    abbrev Fit : S → Type 0
    Fit = Limited t (Standing t sound) (chooser.longest q)

    chosen_fits : (l : List J) (r : RunnerState X) (s : S) → (g (chooser.choose q l) X w r s).answer ≡ Ok tt → Fit (g (chooser.choose q l) X w r s).place
    chosen_fits l r s accepted =
        let (rooted, states) = roots.accepted (chooser.choose q l) X w r s accepted in
        let fits = chooser-keeps.fits q l in
        ((rooted.is_sound, rooted.is_grown), omega arith)

    offers_fit : (r : RunnerState X) → Fitting t (Standing t sound) (chooser.longest q) (offers_of (chooser.choose q) (λ chosen. g chosen X w) r)
    offers_fit r [] l place new given = accepted_is (g (chooser.choose q l) X w r place).answer (g (chooser.choose q l) X w r place).place new Fit (chosen_fits l r place) given
    offers_fit r (request ∷ later) l place new given = offers_fit (after_request (chooser.choose q) (λ chosen. g chosen X w) r request) later l place new given

    -- what a flatten's growth gives, and what it keeps, accepted or not, from the runner and the place that it starts with
    module _ (r : RunnerState X) (p : Place (FlatTree M S J)) where
      abbrev x : FlatTree M S J
      x = p.tree

      record Kept (rejections : ℕ) (m : M) (c : S) : Type 0 where
        calm : rejections ≤ r.rejections
        source_lasting : (n : N) → source_short n m ≡ source_short n x.meta.inner
        lasting : (other : Q) → chooser.lacks_slots other c ≡ chooser.lacks_slots other x.current.inner

      abbrev FlatGiven : Outcome X (Place (FlatTree M S J)) → Type 0
      FlatGiven o = Grew (flat_steps source t) (flat_sound source t source_sound sound) (chooser.longest q) o.place o.answer × Kept o.runner.rejections o.place.tree.meta.inner o.place.tree.current.inner

      abbrev NotSlots : Cause → Type 0
      NotSlots cause = cause ≡ Slots → ⊥

      current_given : (m : M) → Standing source source_sound m → (o : Outcome X S) (answer : Grown) → Gives (Fit o.place) NotSlots answer → Kept o.runner.rejections m o.place →
          FlatGiven (current_grown w (offers_of (chooser.choose q) (λ chosen. g chosen X w)) (chooser.longest q) (with_trees x (fused m) x.current) o answer)
      current_given m standing o (Ok _) fits kept = (
        (
          record {
            is_sound = record { source = standing; current = fits; offers = offers_fit (cloned w o.runner); way_back = (refl, refl) };
            is_grown = refl;
            at_home = refl;
            no_back = omega arith;
          },
          refl,
        ),
        kept,
      )
      current_given m standing o (Err fault) not_slots kept = ((not_slots, refl), kept)

      chosen_kept : (l : List J) (r' : RunnerState X) (m : M) → Kept r'.rejections m x.current.inner →
          (let o : Outcome X S = g (chooser.choose q l) X w r' x.current.inner in Kept o.runner.rejections m o.place)
      chosen_kept l r' m kept =
          let here = roots.calm (chooser.choose q l) X w r' x.current.inner in
          record {
            calm = omega arith;
            source_lasting = kept.source_lasting;
            lasting = λ other. sym (chooser-keeps.agrees other [] _) ∙ roots.lasting (chooser.choose q l) (chooser.choose other []) X w r' x.current.inner ∙ chooser-keeps.agrees other [] x.current.inner;
          }

      source_given : chooser.lacks_slots q x.current.inner ≡ false → (o : Outcome X M) (answer : Grown) → Gives (Standing source source_sound o.place) NotSlots answer → Kept o.runner.rejections o.place x.current.inner →
          FlatGiven (source_grown source w (chooser.choose q) (λ chosen. g chosen X w) (chooser.longest q) x o answer)
      source_given enough o (Ok _) standing kept =
          let l = source.candidate o.place in
          let chosen = g (chooser.choose q l) X w o.runner x.current.inner in
          current_given o.place standing chosen chosen.answer
          (gives _ _ chosen.answer (chosen_fits l o.runner x.current.inner) (λ fault. roots.untold (chooser.choose q l) X w o.runner x.current.inner fault (chooser-keeps.agrees q l x.current.inner ∙ enough)))
          (chosen_kept l o.runner o.place kept)
      source_given enough o (Err fault) not_slots kept = ((not_slots, refl), kept)

      flat_given : flat_short under chooser source_short q p ≡ false → FlatGiven (flat_grows source under chooser gm g q X w r p)
      flat_given enough =
          let (source-slots, slots) = neither (source_short (under q) x.meta.inner) (chooser.lacks_slots q x.current.inner) enough in
          let o = gm (under q) X w r x.meta.inner in
          source_given slots o o.answer
          (gives _ _ o.answer (λ accepted. let rooted = (source-roots.accepted (under q) X w r x.meta.inner accepted).0 in (rooted.is_sound, rooted.is_grown)) (λ fault. source-roots.untold (under q) X w r x.meta.inner fault source-slots))
          (record { calm = source-roots.calm (under q) X w r x.meta.inner; source_lasting = λ n. source-roots.lasting (under q) n X w r x.meta.inner; lasting = λ other. refl })

  pub flat_roots : Roots (flat_steps source t) (flat_sound source t source_sound sound) (flat_short under chooser source_short) (flat_growth source under chooser source_short gm g) chooser.longest
  flat_roots = unless_roots (flat_steps source t) (flat_sound source t source_sound sound) (flat_short under chooser source_short) (flat_grows source under chooser gm g) chooser.longest
      (λ q X w r p enough. (flat_given q X w r p enough).0)
      (λ q other X w r p enough. let kept = (flat_given q X w r p enough).1 in rw (kept.source_lasting (under other), kept.lasting other))
      (λ q p. refl)
      (λ q X w r p enough. (flat_given q X w r p enough).1.calm)
