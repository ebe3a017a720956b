-- When a vector is sound.
--   Ahead      while deleting, every element from the cursor on is a member
--   Noted      a noted deletion is of an element that is no member now; a noted element is a member
--   VecSound   enough members; every element sound; the cursor and the note as above; the elements' longest fit its own
--   vec_sound  a vector's place is blank, or its elements are sound and grown and the vector is

use Rattle.std.specs.Prelude.{◌≡◌, ℕ, ◌<◌, ◌≤◌, Bool, true, false, List, length, Some, None, Option, slice_index_or}
use Rattle.meaning.specs.declared.collection.Shrink.{Shrink}
use Rattle.meaning.specs.declared.collection.Shrink.TheVariants.{DeleteElement, ShrinkElement}
use Rattle.meaning.specs.Trees.{Steps}
use Rattle.meaning.specs.Places.{Place}
use Rattle.meaning.specs.PlaceLaws.{WhereGrown}
use Rattle.meaning.specs.TableLaws.{Standing, together}
use Rattle.meaning.specs.Vectors.{members, VecTree}

abbrev pub Ahead : Shrink → List Bool → Type 0
Ahead (DeleteElement cursor) included = (i : ℕ) → cursor ≤ i → i < length included → slice_index_or included i false ≡ true
Ahead (ShrinkElement cursor) included = Unit {0}

abbrev pub Noted : Option Shrink → List Bool → Type 0
Noted None included = Unit {0}
Noted (Some (DeleteElement i)) included = (i < length included) × (slice_index_or included i false ≡ false)
Noted (Some (ShrinkElement i)) included = (i < length included) × (slice_index_or included i false ≡ true)

pub record VecSound {T I : Type 0} (table : ℕ → Steps T I) (sound : ℕ → T → Type 0) (v : VecTree T) : Type 0 where
  pub enough : v.min_size ≤ members v.included
  pub each : (i : ℕ) → i < length v.included → sound i v.elements
  pub ahead : Ahead v.shrink v.included
  pub noted : Noted v.prev_shrink v.included
  pub room : together (λ i. (table i).longest v.elements) (length v.included) ≤ v.longest

abbrev pub vec_sound : {T I : Type 0} → (ℕ → Steps T I) → (ℕ → T → Type 0) → Place (VecTree T) → Type 0
vec_sound table sound = WhereGrown (VecSound table (λ i. Standing (table i) (sound i)))
