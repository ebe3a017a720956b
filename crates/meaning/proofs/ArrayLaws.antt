-- The laws of an array, over any table. It reads as a vector of all its elements, so its steps are told from that vector's.
--   array_total   an array is total where the trees of its table are
--   array_keeps   it keeps its meaning where they keep theirs
--   array_roots   its growth keeps what every growth should, where that of its elements does

use Rattle.std.proofs.Common.{◌≡◌, ℕ, ◌≤◌, Bool, true, false, cond, ltb, Some, None, Ok, Err, Option, refl, ap, le_refl, arith}
use Rattle.draws.specs.Runners.{RunnerState}
use Rattle.draws.specs.Sources.{Words}
use Rattle.meaning.specs.declared.collection.Shrink.TheVariants.{ShrinkElement}
use Rattle.meaning.specs.Trees.{Steps, Falls, Ends, SimplifyKept, ComplicateKept, Total, Keeps}
use Rattle.meaning.specs.Places.{Place}
use Rattle.meaning.specs.PlaceLaws.{holding, always, placed_total, placed_keeps}
use Rattle.meaning.specs.Growths.{Grown, Outcome, Growth, Rooted, Roots}
use Rattle.meaning.specs.GrowthLaws.{Grew, unless_roots}
use Rattle.meaning.specs.Tables.{TableGrowth}
use Rattle.meaning.specs.TableLaws.{Standing, TableTotal, TableKeeps, TableRoots}
use Rattle.meaning.specs.Vectors.{VecTree, Walked, walked, complicated, grow_from, most_items}
use Rattle.meaning.specs.Arrays.{ArrayTree, as_vector, array_walked, array_complicated, array_complicate, bare_array, array_steps, array_grown, array_grows, array_stated, array_short, array_growth, array_sound}
use Rattle.meaning.proofs.VectorSteps.{vector, Sound, with_elements, vector_keeps, table_standing}
use Rattle.meaning.proofs.Growing.{Given, Kept}
use Rattle.meaning.proofs.Elements.{slots_and_room, Elements, all_sound, Done, Failed, elements_given}

-- an array with another note
abbrev noting : {T : Type 0} → ArrayTree T → Option ℕ → ArrayTree T
noting a last = record { elements = a.elements; size = a.size; shrinker = a.shrinker; last_shrinker = last; longest = a.longest }

-- the steps back are those of the noted element, and fall with them
module _ {T I : Type 0} {table : ℕ → Steps T I} (total : TableTotal table) where
  noted_falls : (a : ArrayTree T) (i : ℕ) (s : T) (answer : Bool) → Falls ((table i).back a.elements) answer ((table i).back s) →
      Falls ((table i).back a.elements) answer ((bare_array table).back (array_complicated a i (record { answer = answer; tree = s })).tree)
  noted_falls a i s true falls = falls
  noted_falls a i s false falls = omega arith

  array_ends : (a : ArrayTree T) (last : Option ℕ) → Ends (always (bare_array table)) (noting a last)
  array_ends a None = le_refl 0
  array_ends a (Some i) = let step = (table i).complicate a.elements in noted_falls a i step.tree step.answer ((total i).ends a.elements)

  pub array_total : Total (array_steps table)
  array_total = placed_total (bare_array table) (λ a. array_ends a a.last_shrinker)

module _ {T I : Type 0} (table : ℕ → Steps T I) (sound : ℕ → T → Type 0) where
  abbrev array : Steps (ArrayTree T) I
  array = always (bare_array table)

  abbrev ArraySound : ArrayTree T → Type 0
  ArraySound a = Sound table sound (as_vector a)

  -- simplify: as the vector's walk
  walked_kept : (a : ArrayTree T) (s : T) (place : ℕ) (found : Bool) → (let w : Walked T = record { elements = s; place = place; found = found } in
      SimplifyKept (vector table sound) (Sound table sound) (as_vector a) (walked (as_vector a) w) → SimplifyKept array ArraySound a (array_walked a w))
  walked_kept a s place true kept = kept
  walked_kept a s place false kept = kept

  -- complicate: as the vector's, but for the cursor, which stands anywhere
  at_cursor : (v : VecTree T) (i : ℕ) → Sound table sound v → Sound table sound (record { elements = v.elements; included = v.included; min_size = v.min_size; shrink = ShrinkElement i; prev_shrink = v.prev_shrink; longest = v.longest })
  at_cursor v i is_sound = with_elements table sound v v.elements (ShrinkElement i) v.prev_shrink is_sound is_sound.each (λ j. refl) tt is_sound.noted

  complicated_kept : (a : ArrayTree T) (i : ℕ) (s : T) (answer : Bool) →
      ComplicateKept (vector table sound) (Sound table sound) (as_vector (noting a (Some i))) (complicated (as_vector (noting a (Some i))) i (record { answer = answer; tree = s })) →
      ComplicateKept array ArraySound (noting a (Some i)) (array_complicated a i (record { answer = answer; tree = s }))
  complicated_kept a i s true kept = (at_cursor _ i kept.0, kept.1, kept.2)
  complicated_kept a i s false kept = (at_cursor _ i kept.0, kept.1, kept.2)

  module _ (keeps : TableKeeps table sound) where
    abbrev as_vector_keeps : Keeps (vector table sound) (Sound table sound)
    as_vector_keeps = vector_keeps table sound keeps

    complicate_kept : (a : ArrayTree T) (last : Option ℕ) → ArraySound (noting a last) → ComplicateKept array ArraySound (noting a last) (array_complicate table (noting a last) last)
    complicate_kept a None is_sound = as_vector_keeps.complicate (as_vector (noting a None)) is_sound
    complicate_kept a (Some i) is_sound = let step = (table i).complicate a.elements in complicated_kept a i step.tree step.answer (as_vector_keeps.complicate (as_vector (noting a (Some i))) is_sound)

    bare_keeps : Keeps array ArraySound
    bare_keeps = record {
      fits = λ a. as_vector_keeps.fits (as_vector a);
      simplify = λ a is_sound. walked_kept a _ _ _ (as_vector_keeps.simplify (as_vector a) is_sound);
      complicate = λ a. complicate_kept a a.last_shrinker;
    }

pub array_keeps : {T I : Type 0} {table : ℕ → Steps T I} {sound : ℕ → T → Type 0} → TableTotal table → TableKeeps table sound → Keeps (array_steps table) (array_sound table sound)
array_keeps {table} {sound} total keeps = placed_keeps (bare_array table) (array_sound table sound) (bare_keeps table (λ i. Standing (table i) (sound i)) (table_standing total keeps))

-- what an array's growth gives and keeps, where there are slots enough
module _ {T I P : Type 0} {table : ℕ → Steps T I} {sound : ℕ → T → Type 0} {short : P → ℕ → T → Bool} {g : TableGrowth P T} {stated : P → ℕ → ℕ}
    (roots : TableRoots table sound short g stated) (p : P) (X : Type 0) (w : Words X) where
  grown_rooted : (n longest : ℕ) (s : T) → stated p n ≤ longest → Elements roots p X w n s →
      Rooted (array_steps table) (array_sound table sound) (holding (record { elements = s; size = n; shrinker = 0; last_shrinker = None; longest = longest }))
  grown_rooted n longest s fits elements = record { is_sound = all_sound roots p X w n n longest (ShrinkElement 0) s (le_refl n) fits elements; is_grown = refl; at_home = refl; no_back = refl }

  module _ (n longest : ℕ) (r : RunnerState X) (a : ArrayTree T) where
    abbrev ArrayGiven : Outcome X (Place (ArrayTree T)) → Type 0
    ArrayGiven o = Grew (array_steps table) (array_sound table sound) longest o.place o.answer × Kept short r a.elements o.runner o.place.tree.elements

    grown_given : stated p n ≤ longest → (o : Outcome X T) (answer : Grown) → Given (g p X w) n (Done roots p X w r a.elements) (Failed roots p X w r a.elements) n o answer → ArrayGiven (array_grown longest n a o answer)
    grown_given fits o (Ok _) (elements, kept) = ((grown_rooted n longest o.place fits elements, refl), kept)
    grown_given fits o (Err fault) (not_slots, kept) = ((not_slots, refl), kept)

pub array_roots : {T I P Q : Type 0} {table : ℕ → Steps T I} {sound : ℕ → T → Type 0} {short : P → ℕ → T → Bool} {g : TableGrowth P T} {stated : P → ℕ → ℕ}
    (under : Q → P) (size : Q → ℕ) → TableRoots table sound short g stated →
    Roots (array_steps table) (array_sound table sound) (λ q. array_short (short (under q)) (stated (under q)) (size q)) (array_growth under size stated short g) (λ q. array_stated (stated (under q)) (size q))
array_roots {T} {I} {P} {Q} {table} {sound} {short} {g} {stated} under size roots = unless_roots (array_steps table) (array_sound table sound) too_short grows longest
    (λ q X w r a enough. (given q X w r a enough).0)
    (λ q other X w r a enough. ap (λ (b : Bool). cond b true (ltb most_items (stated (under other) (size other)))) ((given q X w r a enough).1.lasting (under other) (size other)))
    (λ q a. refl)
    (λ q X w r a enough. (given q X w r a enough).1.calm)
  where
    too_short : Q → Place (ArrayTree T) → Bool
    too_short q = array_short (short (under q)) (stated (under q)) (size q)

    longest : Q → ℕ
    longest q = array_stated (stated (under q)) (size q)

    grows : Growth Q (Place (ArrayTree T))
    grows q X w = array_grows (g (under q) X w) (size q) (longest q)

    given : (q : Q) (X : Type 0) (w : Words X) (r : RunnerState X) (a : Place (ArrayTree T)) → too_short q a ≡ false → ArrayGiven roots (under q) X w (size q) (longest q) r a.tree (grows q X w r a)
    given q X w r a enough =
        let (slots, room) = slots_and_room (short (under q)) (stated (under q)) (size q) a.tree.elements enough in
        let o = grow_from (g (under q) X w) (size q) 0 r a.tree.elements in
        grown_given roots (under q) X w (size q) (longest q) r a.tree room o o.answer (elements_given roots (under q) X w r a.tree.elements (size q) slots (size q) (le_refl (size q)))
