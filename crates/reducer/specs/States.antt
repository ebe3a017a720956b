-- What the code's vector of stairs and the entries of its script mean.
--   vector_state   the state of the vector
--   entry          the entry of a script that a step of a plan asks for

use Rattle.std.specs.Prelude.{map}
use Rattle.meaning.specs.Places.{Place}
use Rattle.meaning.specs.Stairs.{StairTree}
use Rattle.leaves.specs.declared.stair.Stair.{Stair}
use Rattle.tables.specs.declared.slice_table.SliceTable.{SliceTable}
use Rattle.vectors.specs.declared.collection.VecValueTree.{VecValueTree}
use Rattle.vectors.specs.Members.{vec_state}
use Rattle.plan.specs.declared.step.Step.{Step}
use Rattle.plan.specs.declared.step.Step.TheVariants.{View, Simplify, Complicate}
use Rattle.reduction.specs.declared.trial.Call.{Call}
use Rattle.reduction.specs.declared.trial.Call.TheVariants.{Look, Simplify as StepDown, Complicate as StepUp}
use Rattle.reducer.specs.Sessions.{Vector}

abbrev pub stair_state : Stair → Place StairTree
stair_state s = record { grown = s.grown; tree = record { value = s.value; floor = s.floor; note = s.note } }

abbrev pub vector_state : VecValueTree (SliceTable Stair) → Vector
vector_state v = vec_state (λ t. map stair_state t.slots.now) v

abbrev pub entry : {V : Type 0} → Step → Call V
entry View = Look
entry Simplify = StepDown
entry Complicate = StepUp
