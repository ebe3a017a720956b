-- The vector, over any table of trees.
--   members        how many elements are included
--   VecTree        the table of its elements; which of those grown are members; the fewest members (min_size); what it does
--                  next (shrink); what it did last and can undo (prev_shrink); the longest
--   vec_blank      a place over a table, before any growth
--   joined         the members' candidates, joined by index
--   walk           simplify on the members from number i on, until one answers true
--   bare_vector    simplify deletes the element at the cursor while more than the fewest are members, and then simplifies
--                  the members in turn; complicate undoes the last change
--   vec_steps      the steps of a vector's place
--   grow_from      growing n elements from number i on, in order, until one is refused
--   vec_making     whether a vector strategy can be made: not for more than 256 elements or 4,096 stated items
--   vec_grows      a vector grows where its table has slots enough: by a draw of its size, then its elements in order
--   vec_growth     what a vector's strategy means: it is refused, and nothing changes, where there are too few slots

use Rattle.std.specs.Prelude.{ℕ, zero, suc, ◌+◌, min, Bool, true, false, cond, not, ◌&&◌, List, [], ◌∷◌, ◌++◌, length, drop, Some, None, Ok, Err, Option, Result, ◌==◌, nat_lt, slice_set}
use Rattle.draws.specs.Sources.{Words, word}
use Rattle.draws.specs.Draws.{drawn}
use Rattle.draws.specs.Runners.{RunnerState, advanced}
use Rattle.draws.specs.Faults.{in_element}
use Rattle.draws.specs.declared.faults.DrawFault.{DrawFault}
use Rattle.meaning.specs.declared.collection.Shrink.{Shrink}
use Rattle.meaning.specs.declared.collection.Shrink.TheVariants.{DeleteElement, ShrinkElement}
use Rattle.meaning.specs.declared.traits.StrategyFault.{StrategyFault}
use Rattle.meaning.specs.declared.traits.StrategyFault.TheVariants.{TooLarge, TooLong}
use Rattle.meaning.specs.Trees.{Stepped, stays, Steps}
use Rattle.meaning.specs.Places.{Bare, Place, placed}
use Rattle.meaning.specs.Growths.{Outcome, Grows, Growth, Grown, too_few_slots, spent}
use Rattle.meaning.specs.Tables.{TableGrowth}

abbrev pub members : List Bool → ℕ
members [] = 0
members (b ∷ bs) = cond b 1 0 + members bs

-- n elements, all of them members
abbrev pub all_of : ℕ → List Bool
all_of zero = []
all_of (suc n) = true ∷ all_of n

pub record VecTree (T : Type 0) : Type 0 where
  pub elements : T
  pub included : List Bool
  pub min_size : ℕ
  pub shrink : Shrink
  pub prev_shrink : Option Shrink
  pub longest : ℕ

-- a place over a table, before any growth
abbrev pub vec_blank : {T : Type 0} → T → Place (VecTree T)
vec_blank t = record { grown = false; tree = record { elements = t; included = []; min_size = 0; shrink = DeleteElement 0; prev_shrink = None; longest = 0 } }

abbrev pub joined : {I : Type 0} → (ℕ → List I) → ℕ → List Bool → List I
joined f i [] = []
joined f i (b ∷ bs) = cond b (f i) [] ++ joined f (suc i) bs

-- f, with another value at number k
abbrev pub put : {A : Type 0} → ℕ → A → (ℕ → A) → ℕ → A
put zero a f zero = a
put zero a f (suc i) = f (suc i)
put (suc k) a f zero = f zero
put (suc k) a f (suc i) = put k a (λ j. f (suc j)) i

pub record Walked (T : Type 0) : Type 0 where
  pub elements : T
  pub place : ℕ
  pub found : Bool

-- element number i answered: stop there, or go on with the elements as they then are
abbrev pub go_on : {T : Type 0} → ℕ → Stepped T → (T → Walked T) → Walked T
go_on i s next = cond s.answer (record { elements = s.tree; place = i; found = true }) (next s.tree)

abbrev pub walk : {T I : Type 0} → (ℕ → Steps T I) → List Bool → ℕ → T → Walked T
walk table [] i t = record { elements = t; place = i; found = false }
walk table (false ∷ bs) i t = walk table bs (suc i) t
walk table (true ∷ bs) i t = go_on i ((table i).simplify t) (walk table bs (suc i))

-- deleting is open while the cursor stands on an element and more than the fewest are members
abbrev pub deletable : {T : Type 0} → VecTree T → ℕ → Bool
deletable v ix = nat_lt ix (length v.included) && not (members v.included == v.min_size)

abbrev pub deleted : {T : Type 0} → VecTree T → ℕ → Stepped (VecTree T)
deleted v ix = record { answer = true; tree = record { elements = v.elements; included = slice_set v.included ix false; min_size = v.min_size; shrink = DeleteElement (ix + 1); prev_shrink = Some (DeleteElement ix); longest = v.longest } }

-- the note is of the element that answered true; where none did, it stays
abbrev pub walked : {T : Type 0} → VecTree T → Walked T → Stepped (VecTree T)
walked v w = record { answer = w.found; tree = record { elements = w.elements; included = v.included; min_size = v.min_size; shrink = ShrinkElement w.place; prev_shrink = cond w.found (Some (ShrinkElement w.place)) v.prev_shrink; longest = v.longest } }

abbrev pub vec_simplify : {T I : Type 0} → (ℕ → Steps T I) → VecTree T → Shrink → Stepped (VecTree T)
vec_simplify table v (DeleteElement ix) = cond (deletable v ix) (deleted v ix) (walked v (walk table v.included 0 v.elements))
vec_simplify table v (ShrinkElement ix) = walked v (walk table (drop ix v.included) ix v.elements)

-- the noted element is a member again
abbrev pub put_back : {T : Type 0} → VecTree T → ℕ → Stepped (VecTree T)
put_back v ix = record { answer = true; tree = record { elements = v.elements; included = slice_set v.included ix true; min_size = v.min_size; shrink = v.shrink; prev_shrink = None; longest = v.longest } }

-- the noted element complicated: the note stays while it answers true
abbrev pub complicated : {T : Type 0} → VecTree T → ℕ → Stepped T → Stepped (VecTree T)
complicated v ix s = record { answer = s.answer; tree = record { elements = s.tree; included = v.included; min_size = v.min_size; shrink = v.shrink; prev_shrink = cond s.answer (Some (ShrinkElement ix)) None; longest = v.longest } }

abbrev pub vec_complicate : {T I : Type 0} → (ℕ → Steps T I) → VecTree T → Option Shrink → Stepped (VecTree T)
vec_complicate table v None = stays v
vec_complicate table v (Some (DeleteElement ix)) = put_back v ix
vec_complicate table v (Some (ShrinkElement ix)) = complicated v ix ((table ix).complicate v.elements)

-- home: with the deleted element back, or with the noted element at its own home
abbrev pub vec_home : {T I : Type 0} → (ℕ → Steps T I) → VecTree T → Option Shrink → List I
vec_home table v None = joined (λ i. (table i).candidate v.elements) 0 v.included
vec_home table v (Some (DeleteElement ix)) = joined (λ i. (table i).candidate v.elements) 0 (slice_set v.included ix true)
vec_home table v (Some (ShrinkElement ix)) = joined (put ix ((table ix).home v.elements) (λ i. (table i).candidate v.elements)) 0 v.included

abbrev pub vec_back : {T I : Type 0} → (ℕ → Steps T I) → VecTree T → Option Shrink → ℕ
vec_back table v None = 0
vec_back table v (Some (DeleteElement ix)) = 1
vec_back table v (Some (ShrinkElement ix)) = (table ix).back v.elements

abbrev pub bare_vector : {T I : Type 0} → (ℕ → Steps T I) → Bare (VecTree T) I
bare_vector table = record {
  candidate = λ v. joined (λ i. (table i).candidate v.elements) 0 v.included;
  home = λ v. vec_home table v v.prev_shrink;
  back = λ v. vec_back table v v.prev_shrink;
  longest = λ v. v.longest;
  simplify = λ v. vec_simplify table v v.shrink;
  complicate = λ v. vec_complicate table v v.prev_shrink;
}

abbrev pub vec_steps : {T I : Type 0} → (ℕ → Steps T I) → Steps (Place (VecTree T)) I
vec_steps table = placed (bare_vector table)

-- element number i grew so: go on, or stop at its fault, with its number
abbrev pub grow_on : {X T : Type 0} → ℕ → Outcome X T → Grown → Grows X T → Outcome X T
grow_on i o (Ok _) next = next o.runner o.place
grow_on i o (Err fault) next = record { answer = Err (in_element i fault); runner = o.runner; place = o.place }

abbrev pub grow_from : {X T : Type 0} → (ℕ → Grows X T) → ℕ → ℕ → Grows X T
grow_from g zero i r t = record { answer = Ok tt; runner = r; place = t }
grow_from g (suc n) i r t = grow_on i (g i r t) (g i r t).answer (grow_from g n (suc i))

-- after n elements: a vector of all of them, or a blank place over what the refused growth left
abbrev pub vec_grown : {X T : Type 0} → (low longest n : ℕ) → VecTree T → Outcome X T → Grown → Outcome X (Place (VecTree T))
vec_grown low longest n v o (Ok _) = record { answer = Ok tt; runner = o.runner; place = record { grown = true; tree = record { elements = o.place; included = all_of n; min_size = low; shrink = DeleteElement 0; prev_shrink = None; longest = longest } } }
vec_grown low longest n v o (Err fault) = record { answer = Err fault; runner = o.runner; place = record { grown = false; tree = record { elements = o.place; included = v.included; min_size = v.min_size; shrink = v.shrink; prev_shrink = v.prev_shrink; longest = v.longest } } }

-- after the draw of the size
abbrev pub vec_sized : {X T : Type 0} → (ℕ → Grows X T) → (low longest : ℕ) → VecTree T → RunnerState X → Result ℕ DrawFault → Outcome X (Place (VecTree T))
vec_sized g low longest v r (Err fault) = record { answer = Err (spent fault); runner = r; place = record { grown = false; tree = v } }
vec_sized g low longest v r (Ok n) = vec_grown low longest n v (grow_from g n 0 r v.elements) (grow_from g n 0 r v.elements).answer

-- the most elements that a vector may have, and the most items that a strategy may state
abbrev pub most_elements : ℕ
most_elements = 256

abbrev pub most_items : ℕ
most_items = 4096

-- making a vector strategy of a highest size, whose elements state so many items together at that size
abbrev pub vec_making : (high stated : ℕ) → Result (Unit {0}) StrategyFault
vec_making high stated = cond (nat_lt most_elements high) (Err TooLarge) (cond (nat_lt most_items stated) (Err TooLong) (Ok tt))

-- the longest that a vector strategy states, for its highest size
abbrev pub vec_stated : (ℕ → ℕ) → ℕ → ℕ
vec_stated stated high = min (stated high) most_items

-- too few slots for the highest size; or more items than may be stated, which making refuses
abbrev pub vec_short : {T : Type 0} → (ℕ → T → Bool) → (ℕ → ℕ) → ℕ → Place (VecTree T) → Bool
vec_short short stated high v = cond (short high v.tree.elements) true (nat_lt most_items (stated high))

abbrev pub vec_grows : {X T : Type 0} → Words X → (ℕ → Grows X T) → Bool → (low high longest : ℕ) → Grows X (Place (VecTree T))
vec_grows w g short low high longest r v = cond short
    (record { answer = Err too_few_slots; runner = r; place = v })
    (vec_sized g low longest v.tree (advanced w r) (drawn low high (word w r.source)))

abbrev pub vec_growth : {T P Q : Type 0} → (under : Q → P) (low high : Q → ℕ) (stated : P → ℕ → ℕ) → (P → ℕ → T → Bool) → TableGrowth P T → Growth Q (Place (VecTree T))
vec_growth under low high stated short g q X w r v = vec_grows w (g (under q) X w) (vec_short (short (under q)) (stated (under q)) (high q) v) (low q) (high q) (vec_stated (stated (under q)) (high q)) r v
