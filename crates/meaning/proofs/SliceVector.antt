-- The laws of a vector over a slice of trees of one kind, from those of the kind.

use Rattle.std.proofs.Common.{ℕ, ◌≤◌, Bool}
use Rattle.meaning.specs.Trees.{Steps, Total, Keeps}
use Rattle.meaning.specs.Growths.{Growth, Roots}
use Rattle.meaning.specs.Tables.{slice_table, slice_growth, slice_short, slice_stated}
use Rattle.meaning.specs.TableLaws.{Slot}
use Rattle.meaning.specs.Vectors.{vec_steps, vec_short, vec_growth, vec_stated}
use Rattle.meaning.specs.VectorLaws.{vec_sound}
use Rattle.meaning.proofs.SliceLaws.{slice_total, slice_keeps, slice_roots}
use Rattle.meaning.proofs.VectorSteps.{vec_total, vec_keeps}
use Rattle.meaning.proofs.VectorGrowth.{vec_roots}

pub slice_vec_total : {S I : Type 0} {t : Steps S I} → Total t → Total (vec_steps (slice_table t))
slice_vec_total total = vec_total (slice_total total)

pub slice_vec_keeps : {S I : Type 0} {t : Steps S I} {sound : S → Type 0} → Total t → Keeps t sound → Keeps (vec_steps (slice_table t)) (vec_sound (slice_table t) (Slot sound))
slice_vec_keeps total keeps = vec_keeps (slice_total total) (slice_keeps keeps)

-- a vector's strategy has one for its table, which has one for each of its elements
pub slice_vec_roots : {S I P E Q : Type 0} {t : Steps S I} {sound : S → Type 0} {short : P → S → Bool} {g : Growth P S} {stated : P → ℕ}
    (elements : Q → E) (element : E → P) (low high : Q → ℕ) → ((q : Q) → (low q ≤ high q) × (high q ≤ 256)) → Roots t sound short g stated →
    Roots (vec_steps (slice_table t)) (vec_sound (slice_table t) (Slot sound)) (λ q. vec_short (slice_short element short (elements q)) (slice_stated element stated (elements q)) (high q))
    (vec_growth elements low high (slice_stated element stated) (slice_short element short) (slice_growth element g)) (λ q. vec_stated (slice_stated element stated (elements q)) (high q))
slice_vec_roots elements element low high sizes roots = vec_roots elements low high sizes (slice_roots element roots)
