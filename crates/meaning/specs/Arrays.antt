-- The array, over any table of trees: all of its elements stay.
--   ArrayTree     the table of its elements, and how many they are (size); the element that simplify asks next (shrinker); the
--                 one that simplified last and can be complicated (last_shrinker); the longest
--   array_blank   a place over a table, before any growth
--   as_vector     the vector that an array reads as: every element is a member, and none may be deleted
--   bare_array    simplify goes on from the shrinker until an element answers true, and notes it; complicate goes back to the
--                 noted element, and keeps the note while it answers true
--   array_steps   the steps of an array's place
--   array_short   too few slots for its elements, or more items than may be stated, which making refuses
--   array_stated  the longest that an array's strategy states
--   array_growth  what an array's strategy means: its elements grow in order, where there are slots enough
--   array_sound   an array's place is blank, or its elements are sound and grown and the vector that it reads as is sound

use Rattle.std.specs.Prelude.{ℕ, Bool, true, false, cond, drop, Some, None, Ok, Err, Option, nat_lt}
use Rattle.meaning.specs.declared.collection.Shrink.{Shrink}
use Rattle.meaning.specs.declared.collection.Shrink.TheVariants.{ShrinkElement}
use Rattle.meaning.specs.Trees.{Stepped, stays, Steps}
use Rattle.meaning.specs.Places.{Bare, Place, placed}
use Rattle.meaning.specs.PlaceLaws.{WhereGrown}
use Rattle.meaning.specs.Growths.{Grown, Outcome, Grows, Growth}
use Rattle.meaning.specs.GrowthLaws.{unless_no_slots}
use Rattle.meaning.specs.Tables.{TableGrowth}
use Rattle.meaning.specs.TableLaws.{Standing}
use Rattle.meaning.specs.Vectors.{VecTree, all_of, Walked, walk, bare_vector, grow_from, most_items, vec_stated}
use Rattle.meaning.specs.VectorLaws.{VecSound}

pub record ArrayTree (T : Type 0) : Type 0 where
  pub elements : T
  pub size : ℕ
  pub shrinker : ℕ
  pub last_shrinker : Option ℕ
  pub longest : ℕ

abbrev pub array_blank : {T : Type 0} → T → Place (ArrayTree T)
array_blank t = record { grown = false; tree = record { elements = t; size = 0; shrinker = 0; last_shrinker = None; longest = 0 } }

-- an array's note, as a vector's
abbrev pub noted_element : Option ℕ → Option Shrink
noted_element None = None
noted_element (Some i) = Some (ShrinkElement i)

abbrev pub as_vector : {T : Type 0} → ArrayTree T → VecTree T
as_vector a = record { elements = a.elements; included = all_of a.size; min_size = a.size; shrink = ShrinkElement a.shrinker; prev_shrink = noted_element a.last_shrinker; longest = a.longest }

-- the note is of the element that answered true; where none did, it stays
abbrev pub array_walked : {T : Type 0} → ArrayTree T → Walked T → Stepped (ArrayTree T)
array_walked a w = record { answer = w.found; tree = record { elements = w.elements; size = a.size; shrinker = w.place; last_shrinker = cond w.found (Some w.place) a.last_shrinker; longest = a.longest } }

abbrev pub array_simplify : {T I : Type 0} → (ℕ → Steps T I) → ArrayTree T → Stepped (ArrayTree T)
array_simplify table a = array_walked a (walk table (drop a.shrinker (all_of a.size)) a.shrinker a.elements)

-- the shrinker is back at the noted element, whatever that answered
abbrev pub array_complicated : {T : Type 0} → ArrayTree T → ℕ → Stepped T → Stepped (ArrayTree T)
array_complicated a i s = record { answer = s.answer; tree = record { elements = s.tree; size = a.size; shrinker = i; last_shrinker = cond s.answer (Some i) None; longest = a.longest } }

abbrev pub array_complicate : {T I : Type 0} → (ℕ → Steps T I) → ArrayTree T → Option ℕ → Stepped (ArrayTree T)
array_complicate table a None = stays a
array_complicate table a (Some i) = array_complicated a i ((table i).complicate a.elements)

abbrev pub bare_array : {T I : Type 0} → (ℕ → Steps T I) → Bare (ArrayTree T) I
bare_array table = record {
  candidate = λ a. (bare_vector table).candidate (as_vector a);
  home = λ a. (bare_vector table).home (as_vector a);
  back = λ a. (bare_vector table).back (as_vector a);
  longest = λ a. a.longest;
  simplify = array_simplify table;
  complicate = λ a. array_complicate table a a.last_shrinker;
}

abbrev pub array_steps : {T I : Type 0} → (ℕ → Steps T I) → Steps (Place (ArrayTree T)) I
array_steps table = placed (bare_array table)

-- after n elements: an array of all of them, or a blank place over what the refused growth left
abbrev pub array_grown : {X T : Type 0} → (longest n : ℕ) → ArrayTree T → Outcome X T → Grown → Outcome X (Place (ArrayTree T))
array_grown longest n a o (Ok _) = record { answer = Ok tt; runner = o.runner; place = record { grown = true; tree = record { elements = o.place; size = n; shrinker = 0; last_shrinker = None; longest = longest } } }
array_grown longest n a o (Err fault) = record { answer = Err fault; runner = o.runner; place = record { grown = false; tree = record { elements = o.place; size = a.size; shrinker = a.shrinker; last_shrinker = a.last_shrinker; longest = a.longest } } }

abbrev pub array_grows : {X T : Type 0} → (ℕ → Grows X T) → (n longest : ℕ) → Grows X (Place (ArrayTree T))
array_grows g n longest r a = array_grown longest n a.tree (grow_from g n 0 r a.tree.elements) (grow_from g n 0 r a.tree.elements).answer

abbrev pub array_stated : (ℕ → ℕ) → ℕ → ℕ
array_stated stated n = vec_stated stated n

abbrev pub array_short : {T : Type 0} → (ℕ → T → Bool) → (ℕ → ℕ) → ℕ → Place (ArrayTree T) → Bool
array_short short stated n a = cond (short n a.tree.elements) true (nat_lt most_items (stated n))

abbrev pub array_growth : {T P Q : Type 0} → (under : Q → P) (size : Q → ℕ) (stated : P → ℕ → ℕ) → (P → ℕ → T → Bool) → TableGrowth P T → Growth Q (Place (ArrayTree T))
array_growth under size stated short g = unless_no_slots (λ q. array_short (short (under q)) (stated (under q)) (size q)) (λ q X w. array_grows (g (under q) X w) (size q) (array_stated (stated (under q)) (size q)))

abbrev pub array_sound : {T I : Type 0} → (ℕ → Steps T I) → (ℕ → T → Type 0) → Place (ArrayTree T) → Type 0
array_sound table sound = WhereGrown (λ a. VecSound table (λ i. Standing (table i) (sound i)) (as_vector a))
