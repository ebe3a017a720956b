-- What a flatten's steps keep.
--   flat_keeps   a flatten keeps its meaning where its source and its tree keep theirs

use Rattle.std.proofs.Common.{◌≡◌, ℕ, zero, suc, Bool, true, false, cond, List, [], ◌∷◌, Some, None, Option, sym, refl, ap, ◌∙◌, subst, inl, le_refl, arith}
use Rattle.meaning.specs.Trees.{Stepped, stays, Steps, meant, Complicates, Falls, SimplifyKept, ComplicateKept, Total, Keeps}
use Rattle.meaning.specs.PlaceLaws.{always, placed_keeps}
use Rattle.meaning.specs.TableLaws.{Standing, Limited}
use Rattle.meaning.specs.Fuses.{fused, FuseTree, disallow_complicate, fuse_steps, fuse_sound}
use Rattle.meaning.specs.Offers.{Request, Offers, asked}
use Rattle.meaning.specs.Offers.Request.{spend}
use Rattle.meaning.specs.Flattens.{FlatTree, with_trees, with_final, with_runner, moves, led_home, alone, wanted, offered, renewed, another, returning, flat_simplify, further, once_more, regenerating, flat_complicate, bare_flat, flat_steps}
use Rattle.meaning.specs.FlattenLaws.{Shut, Fitting, FlatSound, flat_sound}
use Rattle.meaning.proofs.FuseLaws.{step, fuse_keeps}
use Rattle.meaning.proofs.ShutFuses.{shut_is, still_shut, led_rests}
use Rattle.meaning.proofs.VectorSteps.{keeps_standing}
use Rattle.meaning.proofs.FlattenEnds.{flat_ends}

-- what complicate means by its answer, but for the steps back
abbrev Leads : {I : Type 0} → (candidate home : List I) → Bool → (candidate-now home-now : List I) → Type 0
Leads candidate home true candidate-now home-now = home-now ≡ home
Leads candidate home false candidate-now home-now = (candidate-now ≡ candidate) × (home-now ≡ home) × (candidate ≡ home)

complicates : {S I : Type 0} (t : Steps S I) (s now : S) (answer : Bool) → Leads (t.candidate s) (t.home s) answer (t.candidate now) (t.home now) → Falls (t.back s) answer (t.back now) → Complicates (meant t s) answer (meant t now)
complicates t s now true home falls = (home, falls)
complicates t s now false (candidate, home, at_home) falls = (candidate, home, at_home, falls)

module _ {M S J I : Type 0} (source : Steps M J) (t : Steps S I) (source_sound : M → Type 0) (sound : S → Type 0) where
  abbrev flat : Steps (FlatTree M S J) I
  flat = always (bare_flat source t)

  abbrev Sound : FlatTree M S J → Type 0
  Sound = FlatSound t sound source_sound

  abbrev Current : FuseTree S → Stepped (FuseTree S) → Type 0
  Current = SimplifyKept (fuse_steps t) (fuse_sound sound)

  -- a flatten's current after a step of its own
  still_fits : (x : FlatTree M S J) (c : FuseTree S) → Sound x → sound c.inner → t.longest c.inner ≡ t.longest x.current.inner → Limited t sound x.longest c.inner
  still_fits x c is_sound c-sound longest = (c-sound, rw longest is_sound.current.1)

  alone_sound : (x : FlatTree M S J) (c : FuseTree S) → Sound x → Limited t sound x.longest c.inner → Sound (alone x c)
  alone_sound x c is_sound fits = record { source = is_sound.source; current = fits; offers = is_sound.offers; way_back = (refl, refl) }

  -- simplify, where it answers false
  still_kept : (x : FlatTree M S J) (final : Option (FuseTree S)) (m : FuseTree M) (c : FuseTree S) (runner : Offers J S) → Sound (with_final x final) → source_sound m.inner → (Shut x.meta → Shut m) →
      Current x.current (step false c) → (Shut x.current → Shut c) → Fitting t sound x.longest runner →
      SimplifyKept flat Sound (with_final x final) (stays (with_runner (with_trees (with_final x final) m c) runner 0))
  still_kept x None m c runner is_sound m_sound m-shut kept c-shut offers =
      let (shut, none) = is_sound.way_back in
      (record { source = m_sound; current = still_fits (with_final x None) c is_sound kept.0 kept.2; offers = offers; way_back = (m-shut shut, refl) }, kept.1, refl)
  still_kept x (Some final) m c runner is_sound m_sound m-shut kept c-shut offers =
      let (fits, final-shut, shut) = is_sound.way_back in
      (record { source = m_sound; current = still_fits (with_final x (Some final)) c is_sound kept.0 kept.2; offers = offers; way_back = (fits, final-shut, c-shut shut) }, (kept.1.0, inl refl), refl)

  module _ (source_keeps : Keeps source source_sound) (keeps : Keeps t sound) where
    -- simplify, where current answered false and became c, and the source answered true and became m
    another_kept : (x : FlatTree M S J) (m : FuseTree M) (c : FuseTree S) → Sound x → source_sound m.inner → Current x.current (step false c) → (Shut x.current → Shut c) →
        (gave : Option S) → ((new : S) → gave ≡ Some new → Limited t sound x.longest new) → SimplifyKept flat Sound x (another source (with_runner (with_trees x m c) x.runner 0) gave)
    another_kept x m c is_sound m_sound kept c-shut (Some new) fits =
        (record { source = m_sound; current = fits new refl; offers = λ later. is_sound.offers (_ ∷ later); way_back = (still_fits x c is_sound kept.0 kept.2, refl, refl) }, kept.1.0, refl)
    another_kept x m c is_sound m_sound kept c-shut None fits =
        let (home-sound, home-shut) = led_rests source source_sound source_keeps ((fuse_steps source).back m) m m_sound (le_refl _) in
        still_kept x x.final_complication (led_home (fuse_steps source) m) c _ is_sound home-sound (λ shut. home-shut) kept c-shut (λ later. is_sound.offers (_ ∷ later))

    simplify_kept : (x : FlatTree M S J) → Sound x → SimplifyKept flat Sound x (flat_simplify source t x)
    simplify_kept x is_sound = by c.answer m.answer ((fuse_keeps keeps).simplify x.current is_sound.current.0) (still_shut t x.current) (still_shut source x.meta)
      where
        c : Stepped (FuseTree S)
        c = (fuse_steps t).simplify x.current

        m : Stepped (FuseTree M)
        m = (fuse_steps source).simplify x.meta

        m_sound : source_sound m.tree.inner
        m_sound = ((fuse_keeps source_keeps).simplify x.meta is_sound.source).0

        y : FlatTree M S J
        y = with_runner (with_trees x m.tree c.tree) x.runner 0

        by : (c-answer m-answer : Bool) → Current x.current (step c-answer c.tree) → (c-answer ≡ false → Shut x.current → Shut c.tree) → (m-answer ≡ false → Shut x.meta → Shut m.tree) →
            SimplifyKept flat Sound x (cond c-answer (moves (alone x c.tree)) (cond m-answer (another source y (offered source y)) (stays y)))
        by true m-answer kept c-shut m-shut = (alone_sound x c.tree is_sound (still_fits x c.tree is_sound kept.0 kept.2), kept.1, refl)
        by false true kept c-shut m-shut = another_kept x m.tree c.tree is_sound m_sound kept (c-shut refl) (offered source y) (is_sound.offers [] _ _)
        by false false kept c-shut m-shut = still_kept x x.final_complication m.tree c.tree x.runner is_sound m_sound (m-shut refl) kept (c-shut refl) is_sound.offers

    abbrev Led : FlatTree M S J → Stepped (FlatTree M S J) → Type 0
    Led x r = Sound r.tree × Leads (flat.candidate x) (flat.home x) r.answer (flat.candidate r.tree) (flat.home r.tree) × (r.tree.longest ≡ x.longest)

    -- complicate, where nothing is kept for the last
    alone_led : (x : FlatTree M S J) → (let now : FlatTree M S J = alone x x.current in Sound now → Led now (flat_complicate source t now))
    alone_led x is_sound = by c.answer ((fuse_keeps keeps).complicate x.current is_sound.current.0)
      where
        now : FlatTree M S J
        now = alone x x.current

        c : Stepped (FuseTree S)
        c = (fuse_steps t).complicate x.current

        by : (answer : Bool) → ComplicateKept (fuse_steps t) (fuse_sound sound) x.current (step answer c.tree) → Led now (cond answer (moves (alone x c.tree)) (stays (alone x c.tree)))
        by true kept = (alone_sound now c.tree is_sound (still_fits now c.tree is_sound kept.0 kept.2), kept.1.0, refl)
        by false kept = (alone_sound now c.tree is_sound (still_fits now c.tree is_sound kept.0 kept.2), (kept.1.0, kept.1.1, kept.1.2), refl)

    -- complicate, where a tree is kept for the last: it is shut, and so is current
    abbrev awaited : FlatTree M S J → FuseTree S → FlatTree M S J
    awaited x final = with_final (with_trees x x.meta (disallow_complicate x.current)) (Some (disallow_complicate final))

    module _ (final : FuseTree S) where
      asked_sound : (x : FlatTree M S J) (request : Request J S) (remaining : ℕ) → Sound (awaited x final) → Sound (awaited (with_runner x (asked x.runner request) remaining) final)
      asked_sound x request remaining is_sound = record { source = is_sound.source; current = is_sound.current; offers = λ later. is_sound.offers (request ∷ later); way_back = is_sound.way_back }

      -- after a regrowth that was refused
      abbrev refused : FlatTree M S J → FlatTree M S J
      refused x = with_runner x (asked x.runner (wanted source (awaited x final))) x.remaining

      refused_sound : (x : FlatTree M S J) → Sound (awaited x final) → Sound (awaited (refused x) final)
      refused_sound x = asked_sound x (wanted source (awaited x final)) x.remaining

      -- after one that was accepted
      renewed_led : (x : FlatTree M S J) (new : S) (remaining : ℕ) → Sound (awaited x final) → Limited t sound x.longest new → Led (awaited x final) (moves (renewed source (awaited x final) (fused new) remaining))
      renewed_led x new remaining is_sound fits = (record { source = is_sound.source; current = fits; offers = λ later. is_sound.offers (_ ∷ later); way_back = (is_sound.way_back.0, refl, refl) }, refl, refl)

      last_led : (x : FlatTree M S J) → Sound (awaited x final) → Led (awaited x final) (moves (alone (awaited x final) (disallow_complicate final)))
      last_led x is_sound = (alone_sound (awaited x final) (disallow_complicate final) is_sound is_sound.way_back.0, refl, refl)

      returning_led : (x : FlatTree M S J) → Sound (awaited x final) → (gave : Option S) → ((new : S) → gave ≡ Some new → Limited t sound x.longest new) → Led (awaited x final) (returning source (awaited x final) gave)
      returning_led x is_sound (Some new) fits = renewed_led x new x.cases is_sound (fits new refl)
      returning_led x is_sound None fits = last_led (refused x) (refused_sound x is_sound)

      further_led : (x : FlatTree M S J) → Sound (awaited x final) → Led (awaited x final) (further source t (awaited x final))
      further_led x is_sound = by m.answer
        where
          m : Stepped (FuseTree M)
          m = (fuse_steps source).complicate x.meta

          y : FlatTree M S J
          y = with_trees x m.tree x.current

          y_sound : Sound (awaited y final)
          y_sound = record { source = ((fuse_keeps source_keeps).complicate x.meta is_sound.source).0; current = is_sound.current; offers = is_sound.offers; way_back = is_sound.way_back }

          by : (answer : Bool) → Led (awaited x final) (cond answer (returning source (awaited y final) (offered source (awaited y final))) (moves (alone (awaited y final) (disallow_complicate final))))
          by true = returning_led y y_sound (offered source (awaited y final)) (is_sound.offers [] _ _)
          by false = last_led y y_sound

      once_more_led : (x : FlatTree M S J) → Sound (awaited x final) → (gave : Option S) → ((new : S) → gave ≡ Some new → Limited t sound x.longest new) → Led (awaited x final) (once_more source t (awaited x final) gave)
      once_more_led x is_sound (Some new) fits = renewed_led x new x.remaining is_sound (fits new refl)
      once_more_led x is_sound None fits = further_led (refused x) (refused_sound x is_sound)

      awaited_led : (x : FlatTree M S J) (remaining : ℕ) → Sound (awaited x final) → Led (awaited x final) (regenerating source t (awaited x final) remaining)
      awaited_led x zero is_sound = further_led x is_sound
      awaited_led x (suc fewer) is_sound = by (x.runner []).regenerates
        where
          spent : ℕ → FlatTree M S J
          spent remaining = with_runner x (asked x.runner spend) remaining

          by : (regenerates : Bool) → Led (awaited x final) (cond regenerates (once_more source t (awaited (spent fewer) final) (offered source (awaited (spent fewer) final))) (further source t (awaited (spent 0) final)))
          by true = once_more_led (spent fewer) (asked_sound x spend fewer is_sound) (offered source (awaited (spent fewer) final)) (is_sound.offers (spend ∷ []) _ _)
          by false = further_led (spent 0) (asked_sound x spend 0 is_sound)

    -- by what is kept for the last
    complicate_led : (x : FlatTree M S J) (final : Option (FuseTree S)) → Sound (with_final x final) → Led (with_final x final) (flat_complicate source t (with_final x final))
    complicate_led x None is_sound =
        let (shut, none) = is_sound.way_back in
        let told : with_final x None ≡ alone x x.current = ap (λ (m : FuseTree M). with_final (with_trees x m x.current) None) (shut_is x.meta shut) ∙ ap (with_runner (alone x x.current) x.runner) none in
        subst (λ (now : FlatTree M S J). Sound now → Led now (flat_complicate source t now)) (sym told) (alone_led x) is_sound
    complicate_led x (Some final) is_sound =
        let (fits, final-shut, shut) = is_sound.way_back in
        let told : with_final x (Some final) ≡ awaited x final = ap (λ (c : FuseTree S). with_final (with_trees x x.meta c) (Some final)) (shut_is x.current shut) ∙ ap (λ (f : FuseTree S). with_final (awaited x final) (Some f)) (shut_is final final-shut) in
        subst (λ (now : FlatTree M S J). Sound now → Led now (flat_complicate source t now)) (sym told) (awaited_led final x x.remaining) is_sound

    flat_kept : Total source → Total t → Keeps flat Sound
    flat_kept source-total total = record {
      fits = λ x is_sound. let fits = keeps.fits x.current.inner is_sound.current.0 in omega arith;
      simplify = simplify_kept;
      complicate = λ x is_sound.
          let r = flat_complicate source t x in
          let (still, home, longest) = complicate_led x x.final_complication is_sound in
          (still, complicates flat x r.tree r.answer home (flat_ends source t source-total total x), longest);
    }

pub flat_keeps : {M S J I : Type 0} {source : Steps M J} {t : Steps S I} {source_sound : M → Type 0} {sound : S → Type 0} → Total source → Total t → Keeps source source_sound → Keeps t sound →
    Keeps (flat_steps {J = J} source t) (flat_sound source t source_sound sound)
flat_keeps {M} {S} {J} {I} {source} {t} {source_sound} {sound} source-total total source_keeps keeps =
    placed_keeps (bare_flat source t) (flat_sound source t source_sound sound) (flat_kept source t (Standing source source_sound) (Standing t sound) (keeps_standing source-total source_keeps) (keeps_standing total keeps) source-total total)
