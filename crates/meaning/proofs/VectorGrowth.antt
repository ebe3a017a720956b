-- The laws of a vector's growth, over any table.
--   vec_roots   a vector's growth keeps what every growth should, where that of its elements does

use Rattle.std.proofs.Common.{◌≡◌, ℕ, zero, suc, ◌+◌, ◌-◌, ◌≤◌, Bool, true, false, cond, ltb, None, Ok, Err, Result, refl, ap, arith}
use Rattle.draws.specs.Draws.{drawn}
use Rattle.draws.specs.Runners.{RunnerState, advanced}
use Rattle.draws.specs.Sources.{Words, word}
use Rattle.draws.specs.declared.faults.DrawFault.{DrawFault}
use Rattle.meaning.specs.declared.collection.Shrink.TheVariants.{DeleteElement}
use Rattle.meaning.specs.Trees.{Steps}
use Rattle.meaning.specs.Places.{Place}
use Rattle.meaning.specs.PlaceLaws.{holding}
use Rattle.meaning.specs.Growths.{Grown, Outcome, Growth, Rooted, Roots}
use Rattle.meaning.specs.GrowthLaws.{draw_is_not_slots, Grew, unless_roots}
use Rattle.meaning.specs.Tables.{TableGrowth}
use Rattle.meaning.specs.TableLaws.{TableRoots}
use Rattle.meaning.specs.Vectors.{all_of, VecTree, vec_steps, grow_from, vec_grown, vec_sized, most_items, vec_stated, vec_short, vec_growth}
use Rattle.meaning.specs.VectorLaws.{vec_sound}
use Rattle.meaning.proofs.Drawing.{drawn_range}
use Rattle.meaning.proofs.Growing.{Given, Kept, unchanged}
use Rattle.meaning.proofs.Elements.{slots_and_room, Elements, all_sound, Done, Failed, elements_given}

rises : (f : ℕ → ℕ) → ((n : ℕ) → f n ≤ f (suc n)) → (more n m : ℕ) → n + more ≡ m → f n ≤ f m
rises f rising zero n m e = grind arith
rises f rising (suc more) n m e = let rest = rises f rising more (suc n) m (omega arith) in grind (arith, rising n)

module _ {T I P : Type 0} {table : ℕ → Steps T I} {sound : ℕ → T → Type 0} {short : P → ℕ → T → Bool} {g : TableGrowth P T} {stated : P → ℕ → ℕ}
    (roots : TableRoots table sound short g stated) (p : P) (X : Type 0) (w : Words X) where
  -- a vector of all the elements that grew
  grown_rooted : (low n longest : ℕ) (s : T) → low ≤ n → stated p n ≤ longest → Elements roots p X w n s →
      Rooted (vec_steps table) (vec_sound table sound) (holding (record { elements = s; included = all_of n; min_size = low; shrink = DeleteElement 0; prev_shrink = None; longest = longest }))
  grown_rooted low n longest s large fits elements = record { is_sound = all_sound roots p X w low n longest (DeleteElement 0) s large fits elements; is_grown = refl; at_home = refl; no_back = refl }

  -- what a vector's growth gives and keeps, after the draw of its size
  module _ (low high longest : ℕ) (fits : stated p high ≤ longest) (r : RunnerState X) (v : VecTree T) (enough : short p high v.elements ≡ false) where
    abbrev VecGiven : Outcome X (Place (VecTree T)) → Type 0
    VecGiven o = Grew (vec_steps table) (vec_sound table sound) longest o.place o.answer × Kept short r v.elements o.runner o.place.tree.elements

    grown_given : (n : ℕ) → low ≤ n → n ≤ high → (o : Outcome X T) (answer : Grown) → Given (g p X w) n (Done roots p X w r v.elements) (Failed roots p X w r v.elements) n o answer → VecGiven (vec_grown low longest n v o answer)
    grown_given n large small o (Ok _) (elements, kept) =
        let rest = rises (stated p) (roots.rising p) (high - n) n high (omega arith) in
        ((grown_rooted low n longest o.place large (omega arith) elements, refl), kept)
    grown_given n large small o (Err fault) (not_slots, kept) = ((not_slots, refl), kept)

    sized_given : (d : Result ℕ DrawFault) → ((n : ℕ) → d ≡ Ok n → (low ≤ n) × (n ≤ high)) → VecGiven (vec_sized (g p X w) low longest v r d)
    sized_given (Err fault) range = ((draw_is_not_slots, refl), unchanged short r v.elements)
    sized_given (Ok n) range =
        let (large, small) = range n refl in
        let o = grow_from (g p X w) n 0 r v.elements in
        grown_given n large small o o.answer (elements_given roots p X w r v.elements high enough n small)

pub vec_roots : {T I P Q : Type 0} {table : ℕ → Steps T I} {sound : ℕ → T → Type 0} {short : P → ℕ → T → Bool} {g : TableGrowth P T} {stated : P → ℕ → ℕ}
    (under : Q → P) (low high : Q → ℕ) → ((q : Q) → (low q ≤ high q) × (high q ≤ 256)) → TableRoots table sound short g stated →
    Roots (vec_steps table) (vec_sound table sound) (λ q. vec_short (short (under q)) (stated (under q)) (high q)) (vec_growth under low high stated short g) (λ q. vec_stated (stated (under q)) (high q))
vec_roots {T} {I} {P} {Q} {table} {sound} {short} {g} {stated} under low high sizes roots = unless_roots (vec_steps table) (vec_sound table sound) too_short sized longest
    (λ q X w r v enough. (given q X w r v enough).0)
    (λ q other X w r v enough. ap (λ (b : Bool). cond b true (ltb most_items (stated (under other) (high other)))) ((given q X w r v enough).1.lasting (under other) (high other)))
    (λ q v. refl)
    (λ q X w r v enough. (given q X w r v enough).1.calm)
  where
    too_short : Q → Place (VecTree T) → Bool
    too_short q = vec_short (short (under q)) (stated (under q)) (high q)

    longest : Q → ℕ
    longest q = vec_stated (stated (under q)) (high q)

    sized : Growth Q (Place (VecTree T))
    sized q X w r v = vec_sized (g (under q) X w) (low q) (longest q) v.tree (advanced w r) (drawn (low q) (high q) (word w r.source))

    given : (q : Q) (X : Type 0) (w : Words X) (r : RunnerState X) (v : Place (VecTree T)) → too_short q v ≡ false →
        (let o : Outcome X (Place (VecTree T)) = sized q X w r v in Grew (vec_steps table) (vec_sound table sound) (longest q) o.place o.answer × Kept short (advanced w r) v.tree.elements o.runner o.place.tree.elements)
    given q X w r v enough =
        let (slots, room) = slots_and_room (short (under q)) (stated (under q)) (high q) v.tree.elements enough in
        sized_given roots (under q) X w (low q) (high q) (longest q) room (advanced w r) v.tree slots
        (drawn (low q) (high q) (word w r.source)) (drawn_range (low q) (high q) (sizes q).0 (let few = (sizes q).1 in omega arith) (word w r.source))
