-- The laws of a union's steps, over any table of options.
--   union_total   a union is total where its options are
--   union_keeps   it keeps its meaning where they keep theirs

use Rattle.std.proofs.Common.{◌≡◌, ℕ, zero, suc, ◌+◌, ◌-◌, ◌<◌, ◌≤◌, Bool, true, false, cond, ltb, ◌⊎◌, Some, None, Option, refl, ◌∙◌, inl, inr, le_refl, arith}
use Rattle.std.proofs.lemmas.Bool.{false≢true}
use Rattle.meaning.specs.Trees.{stays, Steps, meant, Simplifies, Ends, SimplifyKept, ComplicateKept, Total, Keeps}
use Rattle.meaning.specs.PlaceLaws.{always, placed_total, placed_keeps}
use Rattle.meaning.specs.TableLaws.{Apart, TableTotal}
use Rattle.meaning.specs.Vectors.{Walked, go_on}
use Rattle.meaning.specs.LazyLaws.{OptionsKeep}
use Rattle.meaning.specs.Unions.{UnionTree, seek, went_down, with_options, union_simplify, union_complicate, union_home, bare_union, union_steps}
use Rattle.meaning.specs.UnionLaws.{home_pick, UnionSound, union_sound}
use Rattle.meaning.proofs.Joining.{everywhere}
use Rattle.meaning.proofs.Walking.{same_apart, apart_candidate, Touched, touched_sound, simplify_touched, complicate_touched}

-- a union with other notes
abbrev noting : {T : Type 0} → UnionTree T → Option ℕ → Bool → UnionTree T
noting u prev returned = record { options = u.options; pick = u.pick; min_pick = u.min_pick; prev_pick = prev; returned = returned; longest = u.longest }

-- the steps back are those of the pick, unless the union can go back up
module _ {T I : Type 0} {table : ℕ → Steps T I} (start : ℕ → T → T) (total : TableTotal table) where
  union_ends : (u : UnionTree T) (prev : Option ℕ) (returned : Bool) → Ends (always (bare_union table start)) (noting u prev returned)
  union_ends u (Some k) returned = omega arith
  union_ends u None true = le_refl 0
  union_ends u None false = (total u.pick).ends u.options

  pub union_total : Total (union_steps table start)
  union_total = placed_total (bare_union table start) (λ u. union_ends u u.prev_pick u.returned)

apart_then : {S I : Type 0} {t : Steps S I} {sound : S → Type 0} {before then now : S} → Apart t sound before then → Apart t sound then now → Apart t sound before now
apart_then first next = record {
  same_meant = next.same_meant ∙ first.same_meant;
  same_longest = next.same_longest ∙ first.same_longest;
  same_grown = next.same_grown ∙ first.same_grown;
  still_sound = λ is_sound. next.still_sound (first.still_sound is_sound);
}

module _ {T I : Type 0} {table : ℕ → Steps T I} {start : ℕ → T → T} {sound : ℕ → ℕ → T → Type 0} (total : TableTotal table) (keep : OptionsKeep table start sound) where
  -- what seeking among n options from number low on leaves
  record Sought (limit low n : ℕ) (before : T) (w : Walked T) : Type 0 where
    still_sound : (j : ℕ) → sound limit j before → sound limit j w.elements
    above : (j : ℕ) → low + n ≤ j → Apart (table j) (sound limit j) before w.elements
    found : w.found ≡ true → (low ≤ w.place) × (w.place < low + n) × ((table w.place).grown w.elements ≡ true)

  start_sound : (limit i : ℕ) (s : T) (j : ℕ) → sound limit j s → sound limit j (start i s)
  start_sound limit i s = everywhere (λ j. sound limit j s → sound limit j (start i s)) i (keep.starts limit i s) (λ j other. (keep.starts_apart limit i j other s).still_sound)

  -- the highest of them was started, and the search stops there or goes on
  sought_on : (limit low n : ℕ) (s : T) (grown : Bool) → (let k : ℕ = low + n in (table k).grown (start k s) ≡ grown → (next : T → Walked T) → Sought limit low n (start k s) (next (start k s)) →
      Sought limit low (suc n) s (go_on k (record { answer = grown; tree = start k s }) next))
  sought_on limit low n s true grown next later = record {
    still_sound = start_sound limit (low + n) s;
    above = λ j high. keep.starts_apart limit (low + n) j (λ e. omega arith) s;
    found = λ e. (omega arith, omega arith, grown);
  }
  sought_on limit low n s false grown next later = record {
    still_sound = λ j is_sound. later.still_sound j (start_sound limit (low + n) s j is_sound);
    above = λ j high. apart_then (keep.starts_apart limit (low + n) j (λ e. omega arith) s) (later.above j (omega arith));
    found = λ e. let (least, under, is_grown) = later.found e in (least, omega arith, is_grown);
  }

  sought : (limit low n : ℕ) (s : T) → Sought limit low n s (seek table start low n s)
  sought limit low zero s = record { still_sound = λ j is_sound. is_sound; above = λ j high. same_apart (table j) (sound limit j) refl; found = λ e. absurd (false≢true e) }
  sought limit low (suc n) s = let k = low + n in sought_on limit low n s ((table k).grown (start k s)) refl (seek table start low n) (sought limit low n (start k s))

  abbrev union : Steps (UnionTree T) I
  union = always (bare_union table start)

  abbrev Sound : UnionTree T → Type 0
  Sound = UnionSound table sound

  -- a step of the pick
  record Asked (u : UnionTree T) (now : T) : Type 0 where
    touched : Touched table (sound u.longest) u.pick u.options now
    same_grown : (j : ℕ) → (table j).grown now ≡ (table j).grown u.options

  asked : (u : UnionTree T) (now : T) → Touched table (sound u.longest) u.pick u.options now → (table u.pick).grown now ≡ (table u.pick).grown u.options → Asked u now
  asked u now touched same = record { touched = touched; same_grown = everywhere (λ j. (table j).grown now ≡ (table j).grown u.options) u.pick same (λ j other. (touched.apart j other).same_grown) }

  module _ (u : UnionTree T) (now : T) (is_sound : Sound u) (ask : Asked u now) where
    still : (j : ℕ) → j ≤ home_pick u.pick u.prev_pick → sound u.longest j now
    still j low = touched_sound table (sound u.longest) ask.touched j (is_sound.each j low)

    still_below : (j : ℕ) → j ≤ u.pick → sound u.longest j now
    still_below j low = still j (omega arith)

    still_grown : (table u.pick).grown now ≡ true
    still_grown = ask.same_grown u.pick ∙ is_sound.shown_grown

    -- the union stays sound where its notes stay, and where none is left
    rests_sound : Sound (record { options = now; pick = u.pick; min_pick = u.min_pick; prev_pick = u.prev_pick; returned = u.returned; longest = u.longest })
    rests_sound = record { each = still; lowest = is_sound.lowest; below = is_sound.below; shown_grown = still_grown; home_grown = ask.same_grown _ ∙ is_sound.home_grown }

    simplified_sound : Sound (record { options = now; pick = u.pick; min_pick = u.min_pick; prev_pick = None; returned = false; longest = u.longest })
    simplified_sound = record { each = still_below; lowest = is_sound.lowest; below = le_refl u.pick; shown_grown = still_grown; home_grown = still_grown }

    -- a search below it leaves the pick apart
    pick_apart : (w : Walked T) → Sought u.longest u.min_pick (u.pick - u.min_pick) now w → Apart (table u.pick) (sound u.longest u.pick) now w.elements
    pick_apart w sought = sought.above u.pick (omega arith)

    -- the pick answered false
    module _ (step : Simplifies (meant (table u.pick) u.options) false (meant (table u.pick) now)) where
      rests_home : (prev : Option ℕ) (returned : Bool) → (let u' : UnionTree T = (with_options u (stays now)).tree in (union_home table u' prev returned ≡ union_home table u prev returned) ⊎ (union_home table u' prev returned ≡ union.candidate u))
      rests_home (Some k) returned = inl (everywhere (λ j. (table j).candidate now ≡ (table j).candidate u.options) u.pick step.0 (λ j other. apart_candidate (ask.touched.apart j other)) k)
      rests_home None true = inl step.0
      rests_home None false = step.1

      went_down_kept : (s : T) (place : ℕ) (found : Bool) → (let w : Walked T = record { elements = s; place = place; found = found } in Sought u.longest u.min_pick (u.pick - u.min_pick) now w → SimplifyKept union Sound u (went_down u w))
      went_down_kept s place true w =
          let (least, under, is_grown) = w.found refl in
          let apart = pick_apart _ w in
          (record { each = λ j low. w.still_sound j (still_below j low); lowest = least; below = omega arith; shown_grown = is_grown; home_grown = apart.same_grown ∙ still_grown }, apart_candidate apart ∙ step.0, refl)
      went_down_kept s place false w =
          let apart = pick_apart _ w in
          let grown = apart.same_grown ∙ still_grown in
          let same = apart_candidate apart ∙ step.0 in
          (record { each = λ j low. w.still_sound j (still_below j low); lowest = is_sound.lowest; below = le_refl u.pick; shown_grown = grown; home_grown = grown }, (same, inr same), refl)

      refused_kept : (lower : Bool) → SimplifyKept union Sound u (cond lower (went_down u (seek table start u.min_pick (u.pick - u.min_pick) now)) (with_options u (stays now)))
      refused_kept true = let w = seek table start u.min_pick (u.pick - u.min_pick) now in went_down_kept w.elements w.place w.found (sought u.longest u.min_pick (u.pick - u.min_pick) now)
      refused_kept false = (rests_sound, (step.0, rests_home u.prev_pick u.returned), refl)

    simplify_kept : (answer : Bool) → Simplifies (meant (table u.pick) u.options) answer (meant (table u.pick) now) → SimplifyKept union Sound u (union_simplify table start u (record { answer = answer; tree = now }))
    simplify_kept true step = (simplified_sound, step, refl)
    simplify_kept false step = refused_kept step (ltb u.min_pick u.pick)

  complicate_kept : (u : UnionTree T) (prev : Option ℕ) (returned : Bool) → Sound (noting u prev returned) → ComplicateKept union Sound (noting u prev returned) (union_complicate table (noting u prev returned) prev returned)
  complicate_kept u (Some k) returned is_sound = (record { each = is_sound.each; lowest = le_refl k; below = le_refl k; shown_grown = is_sound.home_grown; home_grown = is_sound.home_grown }, (refl, omega arith), refl)
  complicate_kept u None true is_sound = (is_sound, (refl, refl, refl, le_refl 0), refl)
  complicate_kept u None false is_sound =
      let keeps = keep.keeps u.longest in
      let own = is_sound.each u.pick (le_refl u.pick) in
      let now = ((table u.pick).complicate u.options).tree in
      let ask = asked (noting u None false) now (complicate_touched table (sound u.longest) keeps u.pick u.options own) ((total u.pick).complicate_grown u.options) in
      (rests_sound (noting u None false) now is_sound ask, ((keeps.each u.pick).complicate u.options own).1, refl)

  bare_keeps : Keeps union Sound
  bare_keeps = record {
    fits = λ u is_sound.
        let own = is_sound.each u.pick is_sound.below in
        let fits = ((keep.keeps u.longest).each u.pick).fits u.options own in
        let limited = keep.limited u.longest u.pick u.options own in
        omega arith;
    simplify = λ u is_sound.
        let keeps = keep.keeps u.longest in
        let own = is_sound.each u.pick is_sound.below in
        let step = (table u.pick).simplify u.options in
        let ask = asked u step.tree (simplify_touched table (sound u.longest) keeps u.pick u.options own) ((total u.pick).simplify_grown u.options) in
        simplify_kept u step.tree is_sound ask step.answer ((keeps.each u.pick).simplify u.options own).1;
    complicate = λ u. complicate_kept u u.prev_pick u.returned;
  }

  pub union_keeps : Keeps (union_steps table start) (union_sound table sound)
  union_keeps = placed_keeps (bare_union table start) (union_sound table sound) bare_keeps
