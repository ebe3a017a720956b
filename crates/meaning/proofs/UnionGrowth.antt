-- The laws of a union's growth, over any table of options.
--   union_roots   a union's growth keeps what every growth should, where that of its options does

use Rattle.std.proofs.Common.{◌≡◌, ℕ, zero, suc, ◌+◌, ◌-◌, ◌^◌, ◌<◌, ◌≤◌, Bool, false, List, length, None, Ok, Err, sum, Result, refl, ◌∙◌, subst, le_refl, arith}
use Rattle.draws.specs.Draws.{drawn}
use Rattle.draws.specs.Runners.{RunnerState, advanced, cloned, parted}
use Rattle.draws.specs.Sources.{Words, word}
use Rattle.draws.specs.declared.faults.Cause.TheVariants.{Slots}
use Rattle.draws.specs.declared.faults.DrawFault.{DrawFault}
use Rattle.meaning.specs.Trees.{Steps}
use Rattle.meaning.specs.Places.{Place}
use Rattle.meaning.specs.PlaceLaws.{holding}
use Rattle.meaning.specs.Growths.{Grown, Outcome, Grows, Rooted, Roots}
use Rattle.meaning.specs.GrowthLaws.{Gives, gives, draw_is_not_slots, Grew, unless_roots}
use Rattle.meaning.specs.Tables.{TableGrowth}
use Rattle.meaning.specs.Lazies.{TableWait}
use Rattle.meaning.specs.LazyLaws.{OptionsRoot}
use Rattle.meaning.specs.Unions.{pick_for, UnionTree, union_steps, grow_picked, union_grown, union_drawn, greatest, union_stated, union_short, union_grows, union_growth}
use Rattle.meaning.specs.UnionLaws.{union_sound}
use Rattle.meaning.proofs.Growing.{Kept, unchanged}
use Rattle.meaning.proofs.Joining.{everywhere}
use Rattle.meaning.proofs.Picking.{picked_below, none_greater}

module _ {T I P : Type 0} {table : ℕ → Steps T I} {sound : ℕ → ℕ → T → Type 0} {short : P → ℕ → T → Bool} {grow : TableGrowth P T} {wait : TableWait P T} {stated : P → ℕ → ℕ}
    (start : ℕ → T → T) (roots : OptionsRoot table sound short grow wait stated) (p : P) (X : Type 0) (w : Words X) where
  abbrev picking : (n i : ℕ) → Grows X T
  picking = grow_picked w (grow p X w) (wait p X w)

  picking_kept : (n i : ℕ) (r : RunnerState X) (s : T) → Kept short r s (picking n i r s).runner (picking n i r s).place
  picking_kept zero i r s = record { calm = roots.calm p X w i r s; lasting = λ q m. roots.lasting p q X w m i r s }
  picking_kept (suc n) i r s =
      let later = picking_kept n (suc i) (parted w r) (wait p X w i (cloned w r) s) in
      record { calm = later.calm; lasting = λ q m. later.lasting q m ∙ roots.waits_lasting p q X w m i (cloned w r) s }

  -- options of a number, none of which states more than the limit
  module _ (count limit : ℕ) (fits : (i : ℕ) → i < count → stated p i ≤ limit) where
    -- those below number i are sound
    abbrev Below : ℕ → T → Type 0
    Below i s = (j : ℕ) → j < i → sound limit j s

    one_waits : (i : ℕ) (r : RunnerState X) (s : T) → i < count → short p count s ≡ false → Below i s → Below (suc i) (wait p X w i r s)
    one_waits i r s few enough below = everywhere (λ j. j < suc i → sound limit j (wait p X w i r s)) i
        (λ low. roots.waits p X w limit count i (fits i few) few r s enough)
        (λ j other low. (roots.waits_apart p X w limit i j other r s).still_sound (below j (omega arith)))

    abbrev PickGrew : ℕ → T → Grown → Type 0
    PickGrew pick now = Gives (Rooted (table pick) (sound limit pick) now × Below pick now) (λ cause. cause ≡ Slots → ⊥)

    pick_grew : (pick : ℕ) (r : RunnerState X) (s : T) → pick < count → short p count s ≡ false → Below pick s → PickGrew pick (grow p X w pick r s).place (grow p X w pick r s).answer
    pick_grew pick r s few enough below = gives _ _ (grow p X w pick r s).answer
        (λ e. ((roots.accepted p X w limit pick (fits pick few) r s e).0, λ j low. (roots.apart p X w limit pick j (λ same. omega arith) r s).still_sound (below j low)))
        (λ fault. roots.untold p X w count pick few r s fault enough)

    picking_grew : (n i pick : ℕ) → i + n ≡ pick → pick < count → (r : RunnerState X) (s : T) → short p count s ≡ false → Below i s → PickGrew pick (picking n i r s).place (picking n i r s).answer
    picking_grew zero i pick e few r s enough below = subst (λ (k : ℕ). PickGrew k (grow p X w i r s).place (grow p X w i r s).answer) (let last : i ≡ pick = omega arith in last) (pick_grew i r s (omega arith) enough below)
    picking_grew (suc n) i pick e few r s enough below = picking_grew n (suc i) pick (omega arith) few (parted w r) (wait p X w i (cloned w r) s)
        (roots.waits_lasting p p X w count i (cloned w r) s ∙ enough) (one_waits i (cloned w r) s (omega arith) enough below)

    -- a union that shows the pick which grew
    picked_rooted : (pick : ℕ) (s : T) → Rooted (table pick) (sound limit pick) s → Below pick s →
        Rooted (union_steps table start) (union_sound table sound) (holding (record { options = s; pick = pick; min_pick = 0; prev_pick = None; returned = false; longest = limit }))
    picked_rooted pick s root below = record {
      is_sound = record {
        each = everywhere (λ j. j ≤ pick → sound limit j s) pick (λ low. root.is_sound) (λ j other low. below j (omega arith));
        lowest = omega arith;
        below = le_refl pick;
        shown_grown = root.is_grown;
        home_grown = root.is_grown;
      };
      is_grown = refl;
      at_home = root.at_home;
      no_back = root.no_back;
    }

    -- what a union's growth gives and keeps, after the draw of its pick
    abbrev UnionGrew : RunnerState X → T → Outcome X (Place (UnionTree T)) → Type 0
    UnionGrew r s o = Grew (union_steps table start) (union_sound table sound) limit o.place o.answer × Kept short r s o.runner o.place.tree.options

    grown_given : (pick : ℕ) (u : UnionTree T) (r : RunnerState X) (o : Outcome X T) (answer : Grown) → PickGrew pick o.place answer → Kept short r u.options o.runner o.place → UnionGrew r u.options (union_grown limit pick u o answer)
    grown_given pick u r o (Ok _) (root, below) kept = ((picked_rooted pick o.place root below, refl), kept)
    grown_given pick u r o (Err fault) not_slots kept = ((not_slots, refl), kept)

    drawn_given : (weights : List ℕ) (u : UnionTree T) (r : RunnerState X) (d : Result ℕ DrawFault) → ((draw : ℕ) → d ≡ Ok draw → pick_for weights draw < count) → short p count u.options ≡ false →
        UnionGrew r u.options (union_drawn w (grow p X w) (wait p X w) limit weights u r d)
    drawn_given weights u r (Err fault) range enough = ((draw_is_not_slots, refl), unchanged short r u.options)
    drawn_given weights u r (Ok draw) range enough =
        let pick = pick_for weights draw in
        let o = picking pick 0 r u.options in
        grown_given pick u r o o.answer (picking_grew pick 0 pick (omega arith) (range draw refl) r u.options enough (λ j low. absurd (omega arith))) (picking_kept pick 0 r u.options)

pub union_roots : {T I P Q : Type 0} {table : ℕ → Steps T I} {sound : ℕ → ℕ → T → Type 0} {short : P → ℕ → T → Bool} {grow : TableGrowth P T} {wait : TableWait P T} {stated : P → ℕ → ℕ}
    (start : ℕ → T → T) (under : Q → P) (weights : Q → List ℕ) → ((q : Q) → (0 < sum (weights q)) × (sum (weights q) < 2 ^ 64)) → OptionsRoot table sound short grow wait stated →
    Roots (union_steps table start) (union_sound table sound) (union_short under weights short) (union_growth under weights stated short grow wait) (union_stated under weights stated)
union_roots {T} {I} {P} {Q} {table} {sound} {short} {grow} {wait} {stated} start under weights weighed roots = unless_roots (union_steps table start) (union_sound table sound)
    (union_short under weights short) (union_grows under weights stated grow wait) (union_stated under weights stated)
    (λ q X w r u enough. (given q X w r u enough).0)
    (λ q other X w r u enough. (given q X w r u enough).1.lasting (under other) (length (weights other)))
    (λ q u. refl)
    (λ q X w r u enough. (given q X w r u enough).1.calm)
  where
    given : (q : Q) (X : Type 0) (w : Words X) (r : RunnerState X) (u : Place (UnionTree T)) → union_short under weights short q u ≡ false →
        (let o : Outcome X (Place (UnionTree T)) = union_grows under weights stated grow wait q X w r u in
        Grew (union_steps table start) (union_sound table sound) (union_stated under weights stated q) o.place o.answer × Kept short (advanced w r) u.tree.options o.runner o.place.tree.options)
    given q X w r u enough =
        let count = length (weights q) in
        let draw = drawn 0 (sum (weights q) - 1) (word w r.source) in
        drawn_given start roots (under q) X w count (greatest (stated (under q)) count) (none_greater (stated (under q)) count) (weights q) u.tree (advanced w r) draw
        (picked_below (weights q) (weighed q).0 (weighed q).1 (word w r.source)) enough
