-- Piles: a leaf, or a combinator over piles.
--   Pile        a tree by its states, its items, its strategy, its steps, and what growing means: where slots lack, growth and
--               the stated longest. A leaf is any tree that holds no other and keeps its meaning
--   TablePile   likewise a table of trees, each of them a pile
--   OptionPile  likewise a table of a union's options: trees that may wait to be grown
--   Shown       what each layer of a pile shows: every grown filter a candidate that its rule accepts, every grown FilterMap
--               the item that its map gives; every grown vector, range subset and sampled bit set has at least its minimum of
--               members; and each element of a vector, each option of a union up to the one that is its home, and each tree
--               of a flatten shows what it is to show, and so on downward
--   Promise     where growing by this strategy from this runner into this place is accepted, the promise of every list of
--               calls from then on

use Rattle.std.specs.Prelude.{◌≡◌, ℕ, ◌^◌, ◌<◌, ◌≤◌, Bool, true, false, List, [], ◌∷◌, length, Some, None, Ok, sum, Option}
use Rattle.draws.specs.Sources.{Words}
use Rattle.draws.specs.Runners.{RunnerState}
use Rattle.meaning.specs.Trees.{Steps, Total, Keeps}
use Rattle.meaning.specs.Places.{Place}
use Rattle.meaning.specs.PlaceLaws.{WhereGrown}
use Rattle.meaning.specs.Growths.{Growth, Roots}
use Rattle.meaning.specs.Tables.{TableGrowth, slice_table, slice_growth, slice_short, slice_stated}
use Rattle.meaning.specs.TableLaws.{Slot}
use Rattle.meaning.specs.Vectors.{members, VecTree, most_elements, vec_steps, vec_short, vec_growth, vec_stated}
use Rattle.meaning.specs.Fuses.{FuseTree, fuse_steps, fuse_short, fuse_growth}
use Rattle.meaning.specs.NoShrinks.{no_shrink_steps, no_shrink_growth}
use Rattle.meaning.specs.Filters.{FilterTree, filter_steps, filter_short, filter_growth}
use Rattle.meaning.specs.FilterMaps.{FilterMapTree, filter_map_steps, filter_map_short, filter_map_growth}
use Rattle.meaning.specs.Pairs.{Pair, no_trees, end_short, end_growth, end_stated, pair_table, pair_short, pair_growth, pair_stated, pair_sound}
use Rattle.meaning.specs.Arrays.{ArrayTree, as_vector, array_steps, array_short, array_growth, array_stated}
use Rattle.meaning.specs.Sets.{SetTree, set_steps}
use Rattle.meaning.specs.SetLaws.{Sampleable, Choosable}
use Rattle.meaning.specs.BitSets.{bits_growth, bits_stated, sampled_growth}
use Rattle.meaning.specs.RangeSubsets.{subset_growth}
use Rattle.meaning.specs.Lazies.{Lazy, TableWait, lazy_steps, lazy_short, lazy_growth}
use Rattle.meaning.specs.Lazies.Lazy.{uninitialized, initialized, failed}
use Rattle.meaning.specs.SliceOptions.{slice_start, slice_options_short, slice_options_growth, slice_options_wait, slice_options_stated}
use Rattle.meaning.specs.PairOptions.{end_start, end_wait, end_options_stated, pair_start, pair_wait, pair_options_stated}
use Rattle.meaning.specs.Unions.{UnionTree, union_steps, union_short, union_growth, union_stated}
use Rattle.meaning.specs.UnionLaws.{home_pick}
use Rattle.meaning.specs.Flattens.{FlatTree, Chooser, flat_steps, flat_short, flat_growth}
use Rattle.meaning.specs.FlattenLaws.{ChooserKeeps}
use Rattle.meaning.specs.Runs.{Call, history, Promised}

mutual
  pub data Pile : (S I P : Type 0) → Steps S I → (P → S → Bool) → Growth P S → (P → ℕ) → Type 1 where
    leaf : {S I P : Type 0} (t : Steps S I) (short : P → S → Bool) (g : Growth P S) (stated : P → ℕ) (sound : S → Type 0)
        → Total t → Keeps t sound → Roots t sound short g stated → Pile S I P t short g stated
    fuse : {S I P : Type 0} (t : Steps S I) (short : P → S → Bool) (g : Growth P S) (stated : P → ℕ) (Q : Type 0) (under : Q → P) → Pile S I P t short g stated
        → Pile (FuseTree S) I Q (fuse_steps t) (fuse_short under short) (fuse_growth under g) (λ q. stated (under q))
    no_shrink : {S I P : Type 0} (t : Steps S I) (short : P → S → Bool) (g : Growth P S) (stated : P → ℕ) (Q : Type 0) (under : Q → P) → Pile S I P t short g stated
        → Pile S I Q (no_shrink_steps t) (λ q. short (under q)) (no_shrink_growth under g) (λ q. stated (under q))
    filter : {S I P : Type 0} (t : Steps S I) (short : P → S → Bool) (g : Growth P S) (stated : P → ℕ) (Q : Type 0) (under : Q → P) (rule : Q → List I → Bool) → Pile S I P t short g stated
        → Pile (FilterTree S I) I Q (filter_steps t) (filter_short under short) (filter_growth t under rule g) (λ q. stated (under q))
    filter_map : {S I J P : Type 0} (t : Steps S I) (short : P → S → Bool) (g : Growth P S) (stated : P → ℕ) (Q : Type 0) (under : Q → P) (map : Q → List I → Option J) → Pile S I P t short g stated
        → Pile (FilterMapTree S I J) J Q (filter_map_steps t) (filter_map_short under short) (filter_map_growth t under map g) (λ q. 1)
    vec : {T I E : Type 0} (table : ℕ → Steps T I) (short : E → ℕ → T → Bool) (g : TableGrowth E T) (stated : E → ℕ → ℕ) (Q : Type 0) (elements : Q → E) (low high : Q → ℕ)
        → ((q : Q) → (low q ≤ high q) × (high q ≤ most_elements)) → TablePile T I E table short g stated
        → Pile (Place (VecTree T)) I Q (vec_steps table) (λ q. vec_short (short (elements q)) (stated (elements q)) (high q)) (vec_growth elements low high stated short g) (λ q. vec_stated (stated (elements q)) (high q))
    array : {T I E : Type 0} (table : ℕ → Steps T I) (short : E → ℕ → T → Bool) (g : TableGrowth E T) (stated : E → ℕ → ℕ) (Q : Type 0) (elements : Q → E) (size : Q → ℕ)
        → TablePile T I E table short g stated
        → Pile (Place (ArrayTree T)) I Q (array_steps table) (λ q. array_short (short (elements q)) (stated (elements q)) (size q)) (array_growth elements size stated short g) (λ q. array_stated (stated (elements q)) (size q))
    bit_sets : {P : Type 0} (min max size : P → ℕ) → Pile (Place (SetTree ℕ)) ℕ P set_steps (λ p s. false) (bits_growth min max size) (bits_stated min max)
    sampled_sets : {P : Type 0} (min max size low high : P → ℕ) → ((p : P) → Sampleable (min p) (max p) (size p) (low p) (high p))
        → Pile (Place (SetTree ℕ)) ℕ P set_steps (λ p s. false) (sampled_growth min max size low high) high
    range_subsets : {P : Type 0} (start count low high : P → ℕ) → ((p : P) → Choosable (count p) (low p) (high p))
        → Pile (Place (SetTree ℕ)) ℕ P set_steps (λ p s. false) (subset_growth start count low high) high
    union : {T I E : Type 0} (table : ℕ → Steps T I) (start : ℕ → T → T) (short : E → ℕ → T → Bool) (g : TableGrowth E T) (wait : TableWait E T) (stated : E → ℕ → ℕ) (Q : Type 0) (options : Q → E) (weights : Q → List ℕ)
        → ((q : Q) → (0 < sum (weights q)) × (sum (weights q) < 2 ^ 64)) → OptionPile T I E table start short g wait stated
        → Pile (Place (UnionTree T)) I Q (union_steps table start) (union_short options weights short) (union_growth options weights stated short g wait) (union_stated options weights stated)
    flatten : {M J N S I P : Type 0} (source : Steps M J) (source_short : N → M → Bool) (source_growth : Growth N M) (source_stated : N → ℕ) (t : Steps S I) (short : P → S → Bool) (g : Growth P S) (stated : P → ℕ) (Q : Type 0) (under : Q → N) (chooser : Chooser Q J P S)
        → ChooserKeeps chooser short stated → Pile M J N source source_short source_growth source_stated → Pile S I P t short g stated
        → Pile (Place (FlatTree M S J)) I Q (flat_steps source t) (flat_short under chooser source_short) (flat_growth source under chooser source_short source_growth g) chooser.longest

  pub data TablePile : (T I E : Type 0) → (ℕ → Steps T I) → (E → ℕ → T → Bool) → TableGrowth E T → (E → ℕ → ℕ) → Type 1 where
    slice : {S I P : Type 0} (t : Steps S I) (short : P → S → Bool) (g : Growth P S) (stated : P → ℕ) (E : Type 0) (element : E → P)
        → Pile S I P t short g stated → TablePile (List S) I E (slice_table t) (slice_short element short) (slice_growth element g) (slice_stated element stated)
    end : {I : Type 0} (E : Type 0) → TablePile (Unit {0}) I E no_trees end_short end_growth end_stated
    pair : {S T I P R : Type 0} (t : Steps S I) (short : P → S → Bool) (g : Growth P S) (stated : P → ℕ) (table : ℕ → Steps T I) (shorts : R → ℕ → T → Bool) (gs : TableGrowth R T) (stateds : R → ℕ → ℕ) (E : Type 0) (first : E → P) (rest : E → R)
        → Pile S I P t short g stated → TablePile T I R table shorts gs stateds
        → TablePile (Pair S T) I E (pair_table t table) (pair_short first rest short shorts) (pair_growth first rest g gs) (pair_stated first rest stated stateds)

  pub data OptionPile : (T I E : Type 0) → (ℕ → Steps T I) → (ℕ → T → T) → (E → ℕ → T → Bool) → TableGrowth E T → TableWait E T → (E → ℕ → ℕ) → Type 1 where
    slice_options : {S I P : Type 0} (t : Steps S I) (short : P → S → Bool) (g : Growth P S) (stated : P → ℕ) (E : Type 0) (number : E → ℕ → P) → Pile S I P t short g stated
        → OptionPile (List (Lazy S)) I E (slice_table (lazy_steps t)) slice_start (slice_options_short number short) (slice_options_growth number short g) (slice_options_wait number g) (slice_options_stated number stated)
    no_options : {I : Type 0} (E : Type 0) → OptionPile (Unit {0}) I E no_trees end_start end_short end_growth end_wait end_options_stated
    pair_options : {S T I P R : Type 0} (t : Steps S I) (short : P → S → Bool) (g : Growth P S) (stated : P → ℕ) (table : ℕ → Steps T I) (start : ℕ → T → T) (shorts : R → ℕ → T → Bool) (gs : TableGrowth R T) (waits : TableWait R T) (stateds : R → ℕ → ℕ) (E : Type 0) (first : E → P) (rest : E → R)
        → Pile S I P t short g stated → OptionPile T I R table start shorts gs waits stateds
        → OptionPile (Pair (Lazy S) T) I E (pair_table (lazy_steps t) table) (pair_start start) (pair_short first rest (lazy_short short) shorts) (pair_growth first rest (lazy_growth short g) gs) (pair_wait first rest g waits) (pair_options_stated first rest stated stateds)

-- what holds of a tree where it is grown
abbrev pub IfGrown : {S I : Type 0} → Steps S I → S → Type 0 → Type 0
IfGrown t s A = t.grown s ≡ true → A

-- the one item that a map gives is shown
abbrev pub ShowsGiven : {J : Type 0} → Option J → List J → Type 0
ShowsGiven None shown = ⊥
ShowsGiven (Some item) shown = shown ≡ item ∷ []

-- a vector that has at least its minimum of members, and of each element what it is to show
abbrev pub VecShown : {T : Type 0} → (ℕ → T → Type 0) → VecTree T → Type 0
VecShown each v = (v.min_size ≤ members v.included) × ((i : ℕ) → i < length v.included → each i v.elements)

-- a set that shows at least its minimum of members
abbrev pub SetShown : Place (SetTree ℕ) → Type 0
SetShown s = IfGrown set_steps s (s.tree.min_count ≤ length (set_steps.candidate s))

-- an option that was grown shows what it is to show
abbrev pub LazyShown : {S : Type 0} → (S → Type 0) → Lazy S → Type 0
LazyShown shown (uninitialized s later) = Unit {0}
LazyShown shown (initialized s) = shown s
LazyShown shown (failed s) = Unit {0}

-- the options up to the one to which the union can go back
abbrev pub UnionShown : {T : Type 0} → (ℕ → T → Type 0) → UnionTree T → Type 0
UnionShown each u = (i : ℕ) → i ≤ home_pick u.pick u.prev_pick → each i u.options

abbrev pub KeptShown : {S : Type 0} → (S → Type 0) → Option (FuseTree S) → Type 0
KeptShown shown None = Unit {0}
KeptShown shown (Some final) = shown final.inner

-- the source, the tree that is shown, and the one that is kept for the last
abbrev pub FlatShown : {M S J : Type 0} → (M → Type 0) → (S → Type 0) → FlatTree M S J → Type 0
FlatShown source shown x = source x.meta.inner × shown x.current.inner × KeptShown shown x.final_complication

abbrev mutual
  pub Shown : {S I P : Type 0} {t : Steps S I} {short : P → S → Bool} {g : Growth P S} {stated : P → ℕ} → Pile S I P t short g stated → S → Type 0
  Shown (leaf t short g stated sound total keeps roots) s = Unit {0}
  Shown (fuse t short g stated Q under pile) s = Shown pile s.inner
  Shown (no_shrink t short g stated Q under pile) s = Shown pile s
  Shown (filter t short g stated Q under rule pile) s = IfGrown t s.source (s.fun (t.candidate s.source) ≡ true) × Shown pile s.source
  Shown (filter_map t short g stated Q under map pile) s = IfGrown t s.source (ShowsGiven (s.fun (t.candidate s.source)) ((filter_map_steps t).candidate s)) × Shown pile s.source
  Shown (vec table short g stated Q elements low high sizes pile) s = WhereGrown (VecShown (ShownAt pile)) s
  Shown (array table short g stated Q elements size pile) s = WhereGrown (λ a. VecShown (ShownAt pile) (as_vector a)) s
  Shown (bit_sets min max size) s = Unit {0}
  Shown (sampled_sets min max size low high can) s = SetShown s
  Shown (range_subsets start count low high can) s = SetShown s
  Shown (union table start short g wait stated Q options weights weighed pile) s = WhereGrown (UnionShown (OptionShown pile)) s
  Shown (flatten source source_short source_growth source_stated t short g stated Q under chooser keeps source_pile pile) s = WhereGrown (FlatShown (Shown source_pile) (Shown pile)) s

  pub ShownAt : {T I E : Type 0} {table : ℕ → Steps T I} {short : E → ℕ → T → Bool} {g : TableGrowth E T} {stated : E → ℕ → ℕ} → TablePile T I E table short g stated → ℕ → T → Type 0
  ShownAt (slice t short g stated E element pile) i xs = Slot (Shown pile) i xs
  ShownAt (end E) i s = ⊥
  ShownAt (pair t short g stated table shorts gs stateds E first rest pile piles) i s = pair_sound (Shown pile) (ShownAt piles) i s

  pub OptionShown : {T I E : Type 0} {table : ℕ → Steps T I} {start : ℕ → T → T} {short : E → ℕ → T → Bool} {g : TableGrowth E T} {wait : TableWait E T} {stated : E → ℕ → ℕ} → OptionPile T I E table start short g wait stated → ℕ → T → Type 0
  OptionShown (slice_options t short g stated E number pile) i xs = Slot (LazyShown (Shown pile)) i xs
  OptionShown (no_options E) i s = ⊥
  OptionShown (pair_options t short g stated table start shorts gs waits stateds E first rest pile piles) i s = pair_sound (LazyShown (Shown pile)) (OptionShown piles) i s

abbrev pub Promise : {S I P : Type 0} {t : Steps S I} {short : P → S → Bool} {g : Growth P S} {stated : P → ℕ} → Pile S I P t short g stated → P → (X : Type 0) → Words X → RunnerState X → S → Type 0
Promise {I = I} {t = t} {g = g} pile p X w r s = (g p X w r s).answer ≡ Ok tt → (calls : List (Call I)) → Promised t (Shown pile) (g p X w r s).place (history t calls (g p X w r s).place)
