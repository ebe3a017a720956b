-- Worked examples of a union over nested pairs, with options of two kinds: a stair with the limit 9, and a vector of one or two
-- stairs with the limit 5. Its laws are those of any union.

use Rattle.std.proofs.Common.{◌≡◌, ℕ, Bool, true, false, List, [], ◌∷◌, replicate, refl, arith}
use Rattle.draws.specs.Sources.{TapeState, tape_words}
use Rattle.meaning.specs.Trees.{Steps, Total, Keeps}
use Rattle.meaning.specs.Places.{Place}
use Rattle.meaning.specs.Growths.{Outcome, Roots}
use Rattle.meaning.specs.Stairs.{StairTree, stair_steps, stair_growth}
use Rattle.meaning.specs.StairLaws.{stair_total, stair_keeps, stair_roots}
use Rattle.meaning.specs.Tables.{slice_table, TableGrowth}
use Rattle.meaning.specs.TableLaws.{Slot}
use Rattle.meaning.specs.Vectors.{vec_blank}
use Rattle.meaning.specs.VectorLaws.{vec_sound}
use Rattle.meaning.specs.Pairs.{Pair, no_trees, pair_table, end_growth, pair_growth, end_short, pair_short}
use Rattle.meaning.specs.Lazies.{Lazy, lazy_steps, lazy_short, lazy_growth, TableWait}
use Rattle.meaning.specs.Lazies.Lazy.{failed}
use Rattle.meaning.specs.PairOptions.{end_start, pair_start, end_wait, pair_wait, end_options_stated, pair_options_stated, end_options_sound, pair_options_sound}
use Rattle.meaning.specs.Unions.{UnionTree, union_blank, union_steps, union_short, union_growth, union_stated}
use Rattle.meaning.specs.UnionLaws.{union_sound}
use Rattle.meaning.proofs.PairLaws.{end_total, pair_total}
use Rattle.meaning.proofs.SliceVector.{slice_vec_total, slice_vec_keeps, slice_vec_roots}
use Rattle.meaning.proofs.LazyOptions.{lazy_total}
use Rattle.meaning.proofs.PairOptionLaws.{end_options_keep, end_options_root, pair_options_keep, pair_options_root}
use Rattle.meaning.proofs.UnionSteps.{union_total, union_keeps}
use Rattle.meaning.proofs.UnionGrowth.{union_roots}
use Rattle.meaning.proofs.Examples.{on_tape, blank}
use Rattle.meaning.proofs.PairExamples.{One, Stairs, stairs_steps, stairs_short, stairs_growth, stairs_stated}
use Rattle.meaning.proofs.UnionExamples.{Told, told_after, tells}

abbrev stairs_sound : Stairs → Type 0
stairs_sound = vec_sound (slice_table stair_steps) (Slot (λ s. Unit {0}))

-- the two options
abbrev Options : Type 0
Options = Pair (Lazy (Place StairTree)) (Pair (Lazy Stairs) (Unit {0}))

abbrev table : ℕ → Steps Options ℕ
table = pair_table (lazy_steps stair_steps) (pair_table (lazy_steps stairs_steps) no_trees)

abbrev start : ℕ → Options → Options
start = pair_start (pair_start end_start)

abbrev short : One → ℕ → Options → Bool
short = pair_short (λ q. q) (λ q. q) (lazy_short (λ p s. false)) (pair_short (λ q. q) (λ q. q) (lazy_short stairs_short) end_short)

abbrev growth : TableGrowth One Options
growth = pair_growth (λ q. q) (λ q. q) (lazy_growth (λ p s. false) (stair_growth (λ p. 9))) (pair_growth (λ q. q) (λ q. q) (lazy_growth stairs_short stairs_growth) end_growth)

abbrev wait : TableWait One Options
wait = pair_wait (λ q. q) (λ q. q) (stair_growth (λ p. 9)) (pair_wait (λ q. q) (λ q. q) stairs_growth end_wait)

abbrev stated : One → ℕ → ℕ
stated = pair_options_stated {P = One} (λ q. q) (λ q. q) (λ p. 1) (pair_options_stated (λ q. q) (λ q. q) stairs_stated end_options_stated)

abbrev sound : ℕ → ℕ → Options → Type 0
sound = pair_options_sound stair_steps (λ s. Unit {0}) (pair_options_sound stairs_steps stairs_sound end_options_sound)

-- the union of both, of weight 1 each
abbrev weights : One → List ℕ
weights q = 1 ∷ 1 ∷ []

abbrev union : Steps (Place (UnionTree Options)) ℕ
union = union_steps table start

abbrev grown : Outcome TapeState (Place (UnionTree Options))
grown = union_growth {P = One} (λ q. q) weights stated short growth wait tt TapeState tape_words (on_tape (1 ∷ 1 ∷ 4 ∷ 2 ∷ [])) (union_blank (record { first = failed blank; rest = record { first = failed (vec_blank (replicate 2 blank)); rest = tt } }))

abbrev told : List Bool → Told
told steps = told_after union steps true grown.place

-- the vector is picked; it simplifies as far as it goes, and then the stair, whose runner was split off before it, is shown
vector_picked : (told [] ≡ tells true (4 ∷ 2 ∷ []) (4 ∷ 2 ∷ []) 0) × (union.longest grown.place ≡ 2)
vector_picked = (refl, refl)

vector_deletes : told (true ∷ []) ≡ tells true (2 ∷ []) (4 ∷ 2 ∷ []) 1
vector_deletes = refl

vector_simplifies : told (true ∷ true ∷ true ∷ []) ≡ tells true (0 ∷ []) (1 ∷ []) 1
vector_simplifies = refl

then_the_stair : told (true ∷ true ∷ true ∷ true ∷ []) ≡ tells true (1 ∷ []) (0 ∷ []) 1
then_the_stair = refl

back_to_vector : told (true ∷ true ∷ true ∷ true ∷ false ∷ []) ≡ tells true (0 ∷ []) (0 ∷ []) 0
back_to_vector = refl

-- its laws
total : Total union
total = union_total start (pair_total (lazy_total stair_total) (pair_total (lazy_total (slice_vec_total stair_total)) end_total))

keeps : Keeps union (union_sound table sound)
keeps = union_keeps (pair_total (lazy_total stair_total) (pair_total (lazy_total (slice_vec_total stair_total)) end_total)) (pair_options_keep stair_keeps (pair_options_keep (slice_vec_keeps stair_total stair_keeps) end_options_keep))

roots : Roots union (union_sound table sound) (union_short (λ q. q) weights short) (union_growth (λ q. q) weights stated short growth wait) (union_stated (λ q. q) weights stated)
roots = union_roots start (λ q. q) weights (λ q. (omega arith, omega arith))
    (pair_options_root (λ q. q) (λ q. q) (stair_roots (λ p. 9)) (pair_options_root (λ q. q) (λ q. q) (slice_vec_roots (λ q. q) (λ q. q) (λ q. 1) (λ q. 2) (λ q. (omega arith, omega arith)) (stair_roots (λ p. 5))) end_options_root))
