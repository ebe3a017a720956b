-- Every pile keeps its meaning, and so the promise.

use Rattle.std.proofs.Common.{◌≡◌, ℕ, zero, suc, Bool, true, List, is_some, Some, None, Option}
use Rattle.std.proofs.lemmas.Bool.{false≢true}
use Rattle.draws.specs.Sources.{Words}
use Rattle.draws.specs.Runners.{RunnerState}
use Rattle.meaning.specs.Trees.{Steps, Total, Keeps}
use Rattle.meaning.specs.Places.{Place}
use Rattle.meaning.specs.PlaceLaws.{WhereGrown}
use Rattle.meaning.specs.Growths.{Growth, Roots}
use Rattle.meaning.specs.Tables.{TableGrowth}
use Rattle.meaning.specs.TableLaws.{TableTotal, TableKeeps, TableRoots, Standing, Slot, Limited}
use Rattle.meaning.specs.Vectors.{VecTree}
use Rattle.meaning.specs.VectorLaws.{VecSound, vec_sound}
use Rattle.meaning.specs.Fuses.{fuse_sound}
use Rattle.meaning.specs.Filters.{filter_sound}
use Rattle.meaning.specs.FilterMaps.{given, filter_map_sound}
use Rattle.meaning.specs.Pairs.{Pair, end_sound, pair_sound}
use Rattle.meaning.specs.Arrays.{as_vector, array_sound}
use Rattle.meaning.specs.Fuses.{FuseTree}
use Rattle.meaning.specs.SetLaws.{set_sound}
use Rattle.meaning.specs.Lazies.{Lazy, TableWait}
use Rattle.meaning.specs.LazyLaws.{lazy_sound, OptionsKeep, OptionsRoot}
use Rattle.meaning.specs.SliceOptions.{slice_options_sound}
use Rattle.meaning.specs.PairOptions.{end_options_sound, pair_options_sound}
use Rattle.meaning.specs.Unions.{UnionTree}
use Rattle.meaning.specs.UnionLaws.{UnionSound, union_sound}
use Rattle.meaning.specs.Flattens.{FlatTree}
use Rattle.meaning.specs.FlattenLaws.{LastBack, FlatSound, flat_sound}
use Rattle.meaning.specs.Piles.{Pile, TablePile, OptionPile, ShowsGiven, VecShown, LazyShown, UnionShown, KeptShown, FlatShown, Shown, ShownAt, OptionShown, Promise}
use Rattle.meaning.specs.Piles.Pile.{leaf, fuse, no_shrink, filter, filter_map, vec, array, bit_sets, sampled_sets, range_subsets, union, flatten}
use Rattle.meaning.specs.Piles.TablePile.{slice, end, pair}
use Rattle.meaning.specs.Piles.OptionPile.{slice_options, no_options, pair_options}
use Rattle.meaning.proofs.SliceLaws.{along_slot, slice_total, slice_keeps, slice_roots}
use Rattle.meaning.proofs.VectorSteps.{vec_total, vec_keeps}
use Rattle.meaning.proofs.VectorGrowth.{vec_roots}
use Rattle.meaning.proofs.FuseLaws.{fuse_total, fuse_keeps, fuse_roots}
use Rattle.meaning.proofs.NoShrinkLaws.{no_shrink_total, no_shrink_keeps, no_shrink_roots}
use Rattle.meaning.proofs.FilterLaws.{filter_total, filter_keeps, filter_roots}
use Rattle.meaning.proofs.FilterMapLaws.{filter_map_total, filter_map_keeps, filter_map_roots, filter_map_shows}
use Rattle.meaning.proofs.PairLaws.{end_total, end_keeps, end_roots, pair_total, pair_keeps, pair_roots}
use Rattle.meaning.proofs.ArrayLaws.{array_total, array_keeps, array_roots}
use Rattle.meaning.proofs.SetSteps.{set_total, set_keeps}
use Rattle.meaning.proofs.SetShown.{by_place, set_shows_enough}
use Rattle.meaning.proofs.BitSetGrowth.{bits_roots, sampled_roots}
use Rattle.meaning.proofs.RangeSubsetGrowth.{subset_roots}
use Rattle.meaning.proofs.LazyOptions.{by_lazy, lazy_total}
use Rattle.meaning.proofs.SliceOptionLaws.{slice_options_keep, slice_options_root}
use Rattle.meaning.proofs.PairOptionLaws.{end_options_keep, end_options_root, pair_options_keep, pair_options_root}
use Rattle.meaning.proofs.UnionSteps.{union_total, union_keeps}
use Rattle.meaning.proofs.UnionGrowth.{union_roots}
use Rattle.meaning.proofs.FlattenEnds.{flat_total}
use Rattle.meaning.proofs.FlattenSteps.{flat_keeps}
use Rattle.meaning.proofs.FlattenGrowth.{flat_roots}
use Rattle.meaning.proofs.Promising.{promised}

-- when a state of a pile is sound
abbrev mutual
  pub Sound : {S I P : Type 0} {t : Steps S I} {short : P → S → Bool} {g : Growth P S} {stated : P → ℕ} → Pile S I P t short g stated → S → Type 0
  Sound (leaf t short g stated sound total keeps roots) s = sound s
  Sound (fuse t short g stated Q under pile) s = fuse_sound (Sound pile) s
  Sound (no_shrink t short g stated Q under pile) s = Sound pile s
  Sound (filter t short g stated Q under rule pile) s = filter_sound t (Sound pile) s
  Sound (filter_map t short g stated Q under map pile) s = filter_map_sound t (Sound pile) s
  Sound (vec table short g stated Q elements low high sizes pile) s = vec_sound table (SoundAt pile) s
  Sound (array table short g stated Q elements size pile) s = array_sound table (SoundAt pile) s
  Sound (bit_sets min max size) s = set_sound s
  Sound (sampled_sets min max size low high can) s = set_sound s
  Sound (range_subsets start count low high can) s = set_sound s
  Sound (union table start short g wait stated Q options weights weighed pile) s = union_sound table (OptionSound pile) s
  Sound (flatten source source_short source_growth source_stated t short g stated Q under chooser keeps source_pile pile) s = flat_sound source t (Sound source_pile) (Sound pile) s

  pub SoundAt : {T I E : Type 0} {table : ℕ → Steps T I} {short : E → ℕ → T → Bool} {g : TableGrowth E T} {stated : E → ℕ → ℕ} → TablePile T I E table short g stated → ℕ → T → Type 0
  SoundAt (slice t short g stated E element pile) i xs = Slot (Sound pile) i xs
  SoundAt (end E) i s = end_sound i s
  SoundAt (pair t short g stated table shorts gs stateds E first rest pile piles) i s = pair_sound (Sound pile) (SoundAt piles) i s

  pub OptionSound : {T I E : Type 0} {table : ℕ → Steps T I} {start : ℕ → T → T} {short : E → ℕ → T → Bool} {g : TableGrowth E T} {wait : TableWait E T} {stated : E → ℕ → ℕ} → OptionPile T I E table start short g wait stated → (limit i : ℕ) → T → Type 0
  OptionSound (slice_options t short g stated E number pile) limit i xs = slice_options_sound t (Sound pile) limit i xs
  OptionSound (no_options E) limit i s = end_options_sound limit i s
  OptionSound (pair_options t short g stated table start shorts gs waits stateds E first rest pile piles) limit i s = pair_options_sound t (Sound pile) (OptionSound piles) limit i s

mutual
  pub pile_total : {S I P : Type 0} {t : Steps S I} {short : P → S → Bool} {g : Growth P S} {stated : P → ℕ} → Pile S I P t short g stated → Total t
  pile_total (leaf t short g stated sound total keeps roots) = total
  pile_total (fuse t short g stated Q under pile) = fuse_total (pile_total pile)
  pile_total (no_shrink t short g stated Q under pile) = no_shrink_total (pile_total pile)
  pile_total (filter t short g stated Q under rule pile) = filter_total (pile_total pile)
  pile_total (filter_map t short g stated Q under map pile) = filter_map_total (pile_total pile)
  pile_total (vec table short g stated Q elements low high sizes pile) = vec_total (table_total pile)
  pile_total (array table short g stated Q elements size pile) = array_total (table_total pile)
  pile_total (bit_sets min max size) = set_total
  pile_total (sampled_sets min max size low high can) = set_total
  pile_total (range_subsets start count low high can) = set_total
  pile_total (union table start short g wait stated Q options weights weighed pile) = union_total start (options_total pile)
  pile_total (flatten source source_short source_growth source_stated t short g stated Q under chooser keeps source_pile pile) = flat_total (pile_total source_pile) (pile_total pile)

  table_total : {T I E : Type 0} {table : ℕ → Steps T I} {short : E → ℕ → T → Bool} {g : TableGrowth E T} {stated : E → ℕ → ℕ} → TablePile T I E table short g stated → TableTotal table
  table_total (slice t short g stated E element pile) = slice_total (pile_total pile)
  table_total (end E) = end_total
  table_total (pair t short g stated table shorts gs stateds E first rest pile piles) = pair_total (pile_total pile) (table_total piles)

  options_total : {T I E : Type 0} {table : ℕ → Steps T I} {start : ℕ → T → T} {short : E → ℕ → T → Bool} {g : TableGrowth E T} {wait : TableWait E T} {stated : E → ℕ → ℕ} → OptionPile T I E table start short g wait stated → TableTotal table
  options_total (slice_options t short g stated E number pile) = slice_total (lazy_total (pile_total pile))
  options_total (no_options E) = end_total
  options_total (pair_options t short g stated table start shorts gs waits stateds E first rest pile piles) = pair_total (lazy_total (pile_total pile)) (options_total piles)

mutual
  pub pile_keeps : {S I P : Type 0} {t : Steps S I} {short : P → S → Bool} {g : Growth P S} {stated : P → ℕ} (pile : Pile S I P t short g stated) → Keeps t (Sound pile)
  pile_keeps (leaf t short g stated sound total keeps roots) = keeps
  pile_keeps (fuse t short g stated Q under pile) = fuse_keeps (pile_keeps pile)
  pile_keeps (no_shrink t short g stated Q under pile) = no_shrink_keeps (pile_keeps pile)
  pile_keeps (filter t short g stated Q under rule pile) = filter_keeps (pile_keeps pile)
  pile_keeps (filter_map t short g stated Q under map pile) = filter_map_keeps (pile_total pile) (pile_keeps pile)
  pile_keeps (vec table short g stated Q elements low high sizes pile) = vec_keeps (table_total pile) (table_keeps pile)
  pile_keeps (array table short g stated Q elements size pile) = array_keeps (table_total pile) (table_keeps pile)
  pile_keeps (bit_sets min max size) = set_keeps
  pile_keeps (sampled_sets min max size low high can) = set_keeps
  pile_keeps (range_subsets start count low high can) = set_keeps
  pile_keeps (union table start short g wait stated Q options weights weighed pile) = union_keeps (options_total pile) (options_keep pile)
  pile_keeps (flatten source source_short source_growth source_stated t short g stated Q under chooser keeps source_pile pile) = flat_keeps (pile_total source_pile) (pile_total pile) (pile_keeps source_pile) (pile_keeps pile)

  table_keeps : {T I E : Type 0} {table : ℕ → Steps T I} {short : E → ℕ → T → Bool} {g : TableGrowth E T} {stated : E → ℕ → ℕ} (pile : TablePile T I E table short g stated) → TableKeeps table (SoundAt pile)
  table_keeps (slice t short g stated E element pile) = slice_keeps (pile_keeps pile)
  table_keeps (end E) = end_keeps
  table_keeps (pair t short g stated table shorts gs stateds E first rest pile piles) = pair_keeps (pile_keeps pile) (table_keeps piles)

  options_keep : {T I E : Type 0} {table : ℕ → Steps T I} {start : ℕ → T → T} {short : E → ℕ → T → Bool} {g : TableGrowth E T} {wait : TableWait E T} {stated : E → ℕ → ℕ} (pile : OptionPile T I E table start short g wait stated) → OptionsKeep table start (OptionSound pile)
  options_keep (slice_options t short g stated E number pile) = slice_options_keep (pile_keeps pile)
  options_keep (no_options E) = end_options_keep
  options_keep (pair_options t short g stated table start shorts gs waits stateds E first rest pile piles) = pair_options_keep (pile_keeps pile) (options_keep piles)

mutual
  pub pile_roots : {S I P : Type 0} {t : Steps S I} {short : P → S → Bool} {g : Growth P S} {stated : P → ℕ} (pile : Pile S I P t short g stated) → Roots t (Sound pile) short g stated
  pile_roots (leaf t short g stated sound total keeps roots) = roots
  pile_roots (fuse t short g stated Q under pile) = fuse_roots under (pile_roots pile)
  pile_roots (no_shrink t short g stated Q under pile) = no_shrink_roots under (pile_roots pile)
  pile_roots (filter t short g stated Q under rule pile) = filter_roots under rule (pile_total pile) (pile_roots pile)
  pile_roots (filter_map t short g stated Q under map pile) = filter_map_roots under map (pile_total pile) (pile_roots pile)
  pile_roots (vec table short g stated Q elements low high sizes pile) = vec_roots elements low high sizes (table_roots pile)
  pile_roots (array table short g stated Q elements size pile) = array_roots elements size (table_roots pile)
  pile_roots (bit_sets min max size) = bits_roots min max size
  pile_roots (sampled_sets min max size low high can) = sampled_roots min max size low high can
  pile_roots (range_subsets start count low high can) = subset_roots start count low high can
  pile_roots (union table start short g wait stated Q options weights weighed pile) = union_roots start options weights weighed (options_root pile)
  pile_roots (flatten source source_short source_growth source_stated t short g stated Q under chooser keeps source_pile pile) = flat_roots under chooser keeps (pile_roots source_pile) (pile_roots pile)

  table_roots : {T I E : Type 0} {table : ℕ → Steps T I} {short : E → ℕ → T → Bool} {g : TableGrowth E T} {stated : E → ℕ → ℕ} (pile : TablePile T I E table short g stated) → TableRoots table (SoundAt pile) short g stated
  table_roots (slice t short g stated E element pile) = slice_roots element (pile_roots pile)
  table_roots (end E) = end_roots
  table_roots (pair t short g stated table shorts gs stateds E first rest pile piles) = pair_roots first rest (pile_roots pile) (table_roots piles)

  options_root : {T I E : Type 0} {table : ℕ → Steps T I} {start : ℕ → T → T} {short : E → ℕ → T → Bool} {g : TableGrowth E T} {wait : TableWait E T} {stated : E → ℕ → ℕ} (pile : OptionPile T I E table start short g wait stated) → OptionsRoot table (OptionSound pile) short g wait stated
  options_root (slice_options t short g stated E number pile) = slice_options_root number (pile_roots pile)
  options_root (no_options E) = end_options_root
  options_root (pair_options t short g stated table start shorts gs waits stateds E first rest pile piles) = pair_options_root first rest (pile_roots pile) (options_root piles)

-- a sound state shows what each layer is to show
grown_tells : {B : Type 0} (P Q : B → Type 0) → ((b : B) → P b → Q b) → (p : Place B) → WhereGrown P p → WhereGrown Q p
grown_tells P Q f = by_place (λ p. WhereGrown P p → WhereGrown Q p) f (λ b h. tt)

slot_tells : {S : Type 0} {P Q : S → Type 0} → ((s : S) → P s → Q s) → (i : ℕ) (xs : List S) → Slot P i xs → Slot Q i xs
slot_tells {P = P} {Q = Q} f = along_slot P (Slot Q) (λ x xs. f x) (λ i x xs held. held)

pair_tells : {S T : Type 0} {P Q : S → Type 0} {Ps Qs : ℕ → T → Type 0} → ((s : S) → P s → Q s) → ((i : ℕ) (t : T) → Ps i t → Qs i t) → (i : ℕ) (s : Pair S T) → pair_sound P Ps i s → pair_sound Q Qs i s
pair_tells f fs zero s h = f s.first h
pair_tells f fs (suc i) s h = fs i s.rest h

vec_tells : {T I : Type 0} {table : ℕ → Steps T I} {sounds shows : ℕ → T → Type 0} → ((i : ℕ) (s : T) → sounds i s → shows i s) → (v : VecTree T) → VecSound table (λ i. Standing (table i) (sounds i)) v → VecShown shows v
vec_tells f v q = (q.enough, λ i l. f i v.elements (q.each i l).0)

map_tells : {J : Type 0} (o : Option J) (shown : List J) → is_some o ≡ true → shown ≡ given o → ShowsGiven o shown
map_tells None shown some e = absurd (false≢true some)
map_tells (Some item) shown some e = e

lazy_tells : {S I : Type 0} (t : Steps S I) {P Q : S → Type 0} → ((s : S) → P s → Q s) → (limit : ℕ) (x : Lazy S) → lazy_sound (Limited t P limit) x → LazyShown Q x
lazy_tells t {P} {Q} f limit = by_lazy (λ x. lazy_sound (Limited t P limit) x → LazyShown Q x) (λ s later h. tt) (λ s h. f s h.0) (λ s h. tt)

union_tells : {T I : Type 0} {table : ℕ → Steps T I} {sounds : ℕ → ℕ → T → Type 0} {shows : ℕ → T → Type 0} → ((limit i : ℕ) (s : T) → sounds limit i s → shows i s) → (u : UnionTree T) → UnionSound table sounds u → UnionShown shows u
union_tells f u h = λ i l. f u.longest i u.options (h.each i l)

kept_tells : {M S J I : Type 0} (t : Steps S I) {P Q : S → Type 0} → ((s : S) → P s → Q s) → (x : FlatTree M S J) (final : Option (FuseTree S)) → LastBack t (Standing t P) x final → KeptShown Q final
kept_tells t f x None h = tt
kept_tells t f x (Some final) h = f final.inner h.0.0.0

flat_tells : {M S J I : Type 0} (source : Steps M J) (t : Steps S I) {P Q : S → Type 0} {source_sound source-shows : M → Type 0} → ((s : M) → source_sound s → source-shows s) → ((s : S) → P s → Q s) → (x : FlatTree M S J) → FlatSound t (Standing t P) (Standing source source_sound) x → FlatShown source-shows Q x
flat_tells source t source-tells tells x h = (source-tells x.meta.inner h.source.0, tells x.current.inner h.current.0.0, kept_tells t tells x x.final_complication h.way_back)

-- as records: told as functions of a state, their clauses take more steps to compile than the check has
record Shows {S I P : Type 0} {t : Steps S I} {short : P → S → Bool} {g : Growth P S} {stated : P → ℕ} (pile : Pile S I P t short g stated) : Type 0 where
  tells : (s : S) → Sound pile s → Shown pile s

record ShowsAt {T I E : Type 0} {table : ℕ → Steps T I} {short : E → ℕ → T → Bool} {g : TableGrowth E T} {stated : E → ℕ → ℕ} (pile : TablePile T I E table short g stated) : Type 0 where
  tells : (i : ℕ) (s : T) → SoundAt pile i s → ShownAt pile i s

record OptionsShow {T I E : Type 0} {table : ℕ → Steps T I} {start : ℕ → T → T} {short : E → ℕ → T → Bool} {g : TableGrowth E T} {wait : TableWait E T} {stated : E → ℕ → ℕ} (pile : OptionPile T I E table start short g wait stated) : Type 0 where
  tells : (limit i : ℕ) (s : T) → OptionSound pile limit i s → OptionShown pile i s

mutual
  sound_shows : {S I P : Type 0} {t : Steps S I} {short : P → S → Bool} {g : Growth P S} {stated : P → ℕ} (pile : Pile S I P t short g stated) → Shows pile
  sound_shows (leaf t short g stated sound total keeps roots) = record { tells = λ s h. tt }
  sound_shows (fuse t short g stated Q under pile) = record { tells = λ s h. (sound_shows pile).tells s.inner h }
  sound_shows (no_shrink t short g stated Q under pile) = record { tells = λ s h. (sound_shows pile).tells s h }
  sound_shows (filter t short g stated Q under rule pile) = record { tells = λ s h. (λ grown. h.candidate, (sound_shows pile).tells s.source h.is_sound) }
  sound_shows (filter_map t short g stated Q under map pile) = record { tells = λ s h. (λ grown. map_tells (s.fun (t.candidate s.source)) _ h.candidate (filter_map_shows t (Sound pile) s h grown).0, (sound_shows pile).tells s.source h.is_sound) }
  sound_shows (vec table short g stated Q elements low high sizes pile) = record { tells = λ s h. grown_tells (VecSound table (λ i. Standing (table i) (SoundAt pile i))) (VecShown (ShownAt pile)) (vec_tells (sound_shows_at pile).tells) s h }
  sound_shows (array table short g stated Q elements size pile) = record { tells = λ s h. grown_tells (λ a. VecSound table (λ i. Standing (table i) (SoundAt pile i)) (as_vector a)) (λ a. VecShown (ShownAt pile) (as_vector a)) (λ a. vec_tells (sound_shows_at pile).tells (as_vector a)) s h }
  sound_shows (bit_sets min max size) = record { tells = λ s h. tt }
  sound_shows (sampled_sets min max size low high can) = record { tells = λ s h. λ grown. set_shows_enough s grown h }
  sound_shows (range_subsets start count low high can) = record { tells = λ s h. λ grown. set_shows_enough s grown h }
  sound_shows (union table start short g wait stated Q options weights weighed pile) = record { tells = λ s h. grown_tells (UnionSound table (OptionSound pile)) (UnionShown (OptionShown pile)) (union_tells (options_show pile).tells) s h }
  sound_shows (flatten source source_short source_growth source_stated t short g stated Q under chooser keeps source_pile pile) = record { tells = λ s h. grown_tells (FlatSound t (Standing t (Sound pile)) (Standing source (Sound source_pile))) (FlatShown (Shown source_pile) (Shown pile)) (flat_tells source t (sound_shows source_pile).tells (sound_shows pile).tells) s h }

  sound_shows_at : {T I E : Type 0} {table : ℕ → Steps T I} {short : E → ℕ → T → Bool} {g : TableGrowth E T} {stated : E → ℕ → ℕ} (pile : TablePile T I E table short g stated) → ShowsAt pile
  sound_shows_at (slice t short g stated E element pile) = record { tells = λ i xs h. slot_tells (sound_shows pile).tells i xs h }
  sound_shows_at (end E) = record { tells = λ i s h. h }
  sound_shows_at (pair t short g stated table shorts gs stateds E first rest pile piles) = record { tells = λ i s h. pair_tells (sound_shows pile).tells (sound_shows_at piles).tells i s h }

  options_show : {T I E : Type 0} {table : ℕ → Steps T I} {start : ℕ → T → T} {short : E → ℕ → T → Bool} {g : TableGrowth E T} {wait : TableWait E T} {stated : E → ℕ → ℕ} (pile : OptionPile T I E table start short g wait stated) → OptionsShow pile
  options_show (slice_options t short g stated E number pile) = record { tells = λ limit i xs h. slot_tells (lazy_tells t (sound_shows pile).tells limit) i xs h }
  options_show (no_options E) = record { tells = λ limit i s h. h }
  options_show (pair_options t short g stated table start shorts gs waits stateds E first rest pile piles) = record { tells = λ limit i s h. pair_tells (lazy_tells t (sound_shows pile).tells limit) ((options_show piles).tells limit) i s h }

-- the promise, of every pile
pub promise : {S I P : Type 0} {t : Steps S I} {short : P → S → Bool} {g : Growth P S} {stated : P → ℕ} (pile : Pile S I P t short g stated) (p : P) (X : Type 0) (w : Words X) (r : RunnerState X) (s : S) → Promise pile p X w r s
promise {g = g} pile p X w r s accepted calls = promised (pile_keeps pile) (sound_shows pile).tells (g p X w r s).place ((pile_roots pile).accepted p X w r s accepted).0.is_sound calls
