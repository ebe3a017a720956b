-- The laws of a vector's steps, over any table.
--   vec_total   a vector is total where the trees of its table are
--   vec_keeps   it keeps its meaning where they keep theirs

use Rattle.std.proofs.Common.{◌≡◌, ℕ, ◌+◌, ◌<◌, ◌≤◌, Bool, true, false, cond, not, eqb, ltb, ◌⊎◌, List, length, drop, set, Some, None, Option, sym, refl, ap, ◌∙◌, inl, le_refl, arith, length-set, get_or-set_other, get_or-set_same}
use Rattle.std.proofs.lemmas.Bool.{cond_both, and_parts, ltb-true, eqb-false, not-true}
use Rattle.std.proofs.lemmas.Grind.{get_or-set_at}
use Rattle.std.proofs.Math.Logic.{⊎_map}
use Rattle.meaning.specs.declared.collection.Shrink.{Shrink}
use Rattle.meaning.specs.declared.collection.Shrink.TheVariants.{DeleteElement, ShrinkElement}
use Rattle.meaning.specs.Trees.{Steps, meant, Simplifies, Complicates, Falls, Ends, SimplifyKept, ComplicateKept, Total, Keeps}
use Rattle.meaning.specs.PlaceLaws.{always, placed_total, placed_keeps}
use Rattle.meaning.specs.TableLaws.{Standing, Apart, TableTotal, TableKeeps}
use Rattle.meaning.specs.Vectors.{members, VecTree, joined, Walked, walk, deletable, deleted, walked, vec_simplify, complicated, vec_complicate, vec_home, bare_vector, vec_steps}
use Rattle.meaning.specs.VectorLaws.{Ahead, Noted, VecSound, vec_sound}
use Rattle.meaning.proofs.Included.{members_less, members_put, deleted_and_back}
use Rattle.meaning.proofs.Joining.{everywhere, joined_same, joined_put, joined_puts, together_same, joined_fits}
use Rattle.meaning.proofs.Walking.{apart_candidate, Touched, touched_sound, touched_longest, complicate_touched, Walks, walks}

-- a vector with another note
abbrev noting : {T : Type 0} → VecTree T → Option Shrink → VecTree T
noting v last = record { elements = v.elements; included = v.included; min_size = v.min_size; shrink = v.shrink; prev_shrink = last; longest = v.longest }

-- the steps back are those of the noted element, and fall with them
module _ {T I : Type 0} {table : ℕ → Steps T I} (total : TableTotal table) where
  noted_falls : (v : VecTree T) (i : ℕ) (s : T) (answer : Bool) → Falls ((table i).back v.elements) answer ((table i).back s) →
      Falls ((table i).back v.elements) answer ((bare_vector table).back (complicated v i (record { answer = answer; tree = s })).tree)
  noted_falls v i s true falls = falls
  noted_falls v i s false falls = omega arith

  vec_ends : (v : VecTree T) (last : Option Shrink) → Ends (always (bare_vector table)) (noting v last)
  vec_ends v None = le_refl 0
  vec_ends v (Some (DeleteElement i)) = omega arith
  vec_ends v (Some (ShrinkElement i)) = let step = (table i).complicate v.elements in noted_falls v i step.tree step.answer ((total i).ends v.elements)

  pub vec_total : Total (vec_steps table)
  vec_total = placed_total (bare_vector table) (λ v. vec_ends v v.prev_shrink)

module _ {T I : Type 0} (table : ℕ → Steps T I) (sound : ℕ → T → Type 0) where
  abbrev pub vector : Steps (VecTree T) I
  vector = always (bare_vector table)

  abbrev pub Sound : VecTree T → Type 0
  Sound = VecSound table sound

  abbrev shown : T → ℕ → List I
  shown s i = (table i).candidate s

  -- a vector stays sound where its elements, its cursor and its note change
  pub with_elements : (v : VecTree T) (s : T) (shrink : Shrink) (last : Option Shrink) → Sound v →
      ((j : ℕ) → j < length v.included → sound j s) → ((j : ℕ) → (table j).longest s ≡ (table j).longest v.elements) → Ahead shrink v.included → Noted last v.included →
      Sound (record { elements = s; included = v.included; min_size = v.min_size; shrink = shrink; prev_shrink = last; longest = v.longest })
  with_elements v s shrink last is_sound each same_longest ahead noted = record {
    enough = is_sound.enough;
    each = each;
    ahead = ahead;
    noted = noted;
    room = rw (together_same (λ j. (table j).longest s) (λ j. (table j).longest v.elements) (length v.included) (λ j below. same_longest j)) is_sound.room;
  }

  -- and where one element is included or not, with the cursor and the note
  with_included : (v : VecTree T) (i : ℕ) (member : Bool) (shrink : Shrink) (last : Option Shrink) → (let included : List Bool = set v.included i member in Sound v →
      v.min_size ≤ members included → Ahead shrink included → Noted last included →
      Sound (record { elements = v.elements; included = included; min_size = v.min_size; shrink = shrink; prev_shrink = last; longest = v.longest }))
  with_included v i member shrink last is_sound enough ahead noted = record {
    enough = enough;
    each = λ j below. is_sound.each j (rw length-set at below);
    ahead = ahead;
    noted = noted;
    room = rw (length-set v.included i member) is_sound.room;
  }

  -- simplify, where the members were walked
  walked_home : (v : VecTree T) (w : Walked T) (last : Option Shrink) → ((j : ℕ) → Simplifies (meant (table j) v.elements) false (meant (table j) w.elements)) →
      (vec_home table (walked v w).tree last ≡ vec_home table v last) ⊎ (vec_home table (walked v w).tree last ≡ vector.candidate v)
  walked_home v w None still = inl (joined_same (shown w.elements) (shown v.elements) v.included (λ j. (still j).0))
  walked_home v w (Some (DeleteElement i)) still = inl (joined_same (shown w.elements) (shown v.elements) (set v.included i true) (λ j. (still j).0))
  walked_home v w (Some (ShrinkElement i)) still = ⊎_map
      (λ same. joined_puts i ((table i).home w.elements) ((table i).home v.elements) (shown w.elements) (shown v.elements) v.included same (λ j other. (still j).0))
      (λ same. joined_put i ((table i).home w.elements) (shown w.elements) (shown v.elements) v.included same (λ j other. (still j).0))
      (still i).1

  walked_kept : (v : VecTree T) (s : T) (place : ℕ) (found : Bool) → Sound v →
      (let w : Walked T = record { elements = s; place = place; found = found } in Walks table sound v.included v.elements w → SimplifyKept vector Sound v (walked v w))
  walked_kept v s place true is_sound w = (
    with_elements v s (ShrinkElement place) (Some (ShrinkElement place)) is_sound w.each w.same_longest tt (w.member refl),
    joined_put place ((table place).home s) (shown s) (shown v.elements) v.included w.here (λ j other. (w.others j other).0),
    refl,
  )
  walked_kept v s place false is_sound w =
      let still = everywhere (λ j. Simplifies (meant (table j) v.elements) false (meant (table j) s)) place w.here w.others in (
        with_elements v s (ShrinkElement place) v.prev_shrink is_sound w.each w.same_longest tt is_sound.noted,
        (joined_same (shown s) (shown v.elements) v.included (λ j. (still j).0), walked_home v (record { elements = s; place = place; found = false }) v.prev_shrink still),
        refl,
      )

  -- simplify, where the element at the cursor was deleted
  deleted_kept : (v : VecTree T) (i : ℕ) → Sound v → Ahead (DeleteElement i) v.included → deletable v i ≡ true → SimplifyKept vector Sound v (deleted v i)
  deleted_kept v i is_sound ahead may =
      let tests = and_parts (ltb i (length v.included)) (not (eqb (members v.included) v.min_size)) may in
      let below = ltb-true i (length v.included) tests.0 in
      let more = eqb-false (members v.included) v.min_size (not-true _ tests.1) in
      let member = ahead i (le_refl i) below in
      let less = members_less v.included i member in (
        with_included v i false (DeleteElement (i + 1)) (Some (DeleteElement i)) is_sound
            (omega arith)
            (λ j past under. get_or-set_other v.included i j false false (λ e. omega arith) ∙ ahead j (omega arith) (rw length-set at under))
            (rw length-set below, get_or-set_same v.included i false false below),
        ap (joined (shown v.elements) 0) (deleted_and_back v.included i member),
        refl,
      )

  -- complicate, where the deleted element is a member again
  ahead_back : (shrink : Shrink) (included : List Bool) (i : ℕ) → Ahead shrink included → Ahead shrink (set included i true)
  ahead_back (DeleteElement cursor) included i ahead = λ j past below. grind (arith, length-set, get_or-set_at, get_or-set_other, ahead)
  ahead_back (ShrinkElement cursor) included i ahead = tt

  put_back_sound : (v : VecTree T) (i : ℕ) → Sound v → Sound (record { elements = v.elements; included = set v.included i true; min_size = v.min_size; shrink = v.shrink; prev_shrink = None; longest = v.longest })
  put_back_sound v i is_sound =
      let more = members_put v.included i in
      with_included v i true v.shrink None is_sound (omega arith) (ahead_back v.shrink v.included i is_sound.ahead) tt

  -- complicate, where the noted element was asked
  module _ (v : VecTree T) (i : ℕ) (s : T) (touched : Touched table sound i v.elements s) where
    complicated_sound : (answer : Bool) → Sound v → Noted (Some (ShrinkElement i)) v.included → Sound (complicated v i (record { answer = answer; tree = s })).tree
    complicated_sound answer is_sound noted = with_elements v s v.shrink (cond answer (Some (ShrinkElement i)) None) is_sound
        (λ j below. touched_sound table sound touched j (is_sound.each j below)) (touched_longest table sound touched) is_sound.ahead (cond_both answer (Some (ShrinkElement i)) None (λ last. Noted last v.included) (λ goes. noted) (λ ends. tt))

    others_shown : (j : ℕ) → (j ≡ i → ⊥) → shown s j ≡ shown v.elements j
    others_shown j other = apart_candidate (touched.apart j other)

    complicated_means : (answer : Bool) → Complicates (meant (table i) v.elements) answer (meant (table i) s) →
        Complicates (meant vector (noting v (Some (ShrinkElement i)))) answer (meant vector (complicated v i (record { answer = answer; tree = s })).tree)
    complicated_means true step = (joined_puts i ((table i).home s) ((table i).home v.elements) (shown s) (shown v.elements) v.included step.0 others_shown, step.1)
    complicated_means false step =
        let same = joined_same (shown s) (shown v.elements) v.included (everywhere (λ j. shown s j ≡ shown v.elements j) i step.0 others_shown) in
        let at_home = sym (joined_put i ((table i).home v.elements) (shown v.elements) (shown v.elements) v.included (sym step.2) (λ j other. refl)) in
        (same, same ∙ at_home, at_home, omega arith)

  module _ (keeps : TableKeeps table sound) where
    walk_kept : (v : VecTree T) (i : ℕ) → Sound v → SimplifyKept vector Sound v (walked v (walk table (drop i v.included) i v.elements))
    walk_kept v i is_sound =
        let w = walk table (drop i v.included) i v.elements in
        walked_kept v w.elements w.place w.found is_sound (walks table sound keeps v.included (drop i v.included) i refl v.elements is_sound.each)

    delete_kept : (v : VecTree T) (i : ℕ) (may : Bool) → deletable v i ≡ may → Sound v → Ahead (DeleteElement i) v.included →
        SimplifyKept vector Sound v (cond may (deleted v i) (walked v (walk table v.included 0 v.elements)))
    delete_kept v i true may is_sound ahead = deleted_kept v i is_sound ahead may
    delete_kept v i false may is_sound ahead = walk_kept v 0 is_sound

    simplify_kept : (v : VecTree T) (shrink : Shrink) → Sound v → Ahead shrink v.included → SimplifyKept vector Sound v (vec_simplify table v shrink)
    simplify_kept v (DeleteElement i) is_sound ahead = delete_kept v i (deletable v i) refl is_sound ahead
    simplify_kept v (ShrinkElement i) is_sound ahead = walk_kept v i is_sound

    complicate_kept : (v : VecTree T) (last : Option Shrink) → Sound (noting v last) → ComplicateKept vector Sound (noting v last) (vec_complicate table (noting v last) last)
    complicate_kept v None is_sound = (is_sound, (refl, refl, refl, le_refl 0), refl)
    complicate_kept v (Some (DeleteElement i)) is_sound = (put_back_sound (noting v (Some (DeleteElement i))) i is_sound, (refl, omega arith), refl)
    complicate_kept v (Some (ShrinkElement i)) is_sound =
        let step = (table i).complicate v.elements in
        let element = is_sound.each i is_sound.noted.0 in
        let touched = complicate_touched table sound keeps i v.elements element in (
          complicated_sound (noting v (Some (ShrinkElement i))) i step.tree touched step.answer is_sound is_sound.noted,
          complicated_means v i step.tree touched step.answer ((keeps.each i).complicate v.elements element).1,
          refl,
        )

    vector_fits : (v : VecTree T) → Sound v → length (vector.candidate v) ≤ v.longest
    vector_fits v is_sound =
        let each = λ (i : ℕ) (below : i < length v.included). (keeps.each i).fits v.elements (is_sound.each i below) in
        let fits = joined_fits (shown v.elements) (λ i. (table i).longest v.elements) (length v.included) each 0 v.included (omega arith) in
        omega arith

    pub vector_keeps : Keeps vector Sound
    vector_keeps = record {
      fits = vector_fits;
      simplify = λ v is_sound. simplify_kept v v.shrink is_sound is_sound.ahead;
      complicate = λ v. complicate_kept v v.prev_shrink;
    }

-- trees that are sound and grown stay so
pub keeps_standing : {S I : Type 0} {t : Steps S I} {sound : S → Type 0} → Total t → Keeps t sound → Keeps t (Standing t sound)
keeps_standing total keeps = record {
  fits = λ s standing. keeps.fits s standing.0;
  simplify = λ s standing. let kept = keeps.simplify s standing.0 in ((kept.0, total.simplify_grown s ∙ standing.1), kept.1, kept.2);
  complicate = λ s standing. let kept = keeps.complicate s standing.0 in ((kept.0, total.complicate_grown s ∙ standing.1), kept.1, kept.2);
}

apart_standing : {S I : Type 0} {t : Steps S I} {sound : S → Type 0} {before now : S} → Apart t sound before now → Apart t (Standing t sound) before now
apart_standing apart = record {
  same_meant = apart.same_meant;
  same_longest = apart.same_longest;
  same_grown = apart.same_grown;
  still_sound = λ standing. (apart.still_sound standing.0, apart.same_grown ∙ standing.1);
}

pub table_standing : {T I : Type 0} {table : ℕ → Steps T I} {sound : ℕ → T → Type 0} → TableTotal table → TableKeeps table sound → TableKeeps table (λ i. Standing (table i) (sound i))
table_standing total keeps = record {
  each = λ i. keeps_standing (total i) (keeps.each i);
  simplify_apart = λ i j other s. apart_standing (keeps.simplify_apart i j other s);
  complicate_apart = λ i j other s. apart_standing (keeps.complicate_apart i j other s);
}

pub vec_keeps : {T I : Type 0} {table : ℕ → Steps T I} {sound : ℕ → T → Type 0} → TableTotal table → TableKeeps table sound → Keeps (vec_steps table) (vec_sound table sound)
vec_keeps {table} {sound} total keeps = placed_keeps (bare_vector table) (vec_sound table sound) (vector_keeps table (λ i. Standing (table i) (sound i)) (table_standing total keeps))
