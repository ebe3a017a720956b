-- What a vector in its place means.
--   vec_state   the state of a vector, given what its table's state is

use Rattle.meaning.specs.Places.{Place}
use Rattle.meaning.specs.Vectors.{VecTree}
use Rattle.vectors.specs.declared.collection.VecValueTree.{VecValueTree}

abbrev pub vec_state : {B T : Type 0} → (B → T) → VecValueTree B → Place (VecTree T)
vec_state state v = record { grown = v.grown; tree = record { elements = state v.elements; included = v.included_elements; min_size = v.min_size; shrink = v.shrink; prev_shrink = v.prev_shrink; longest = v.longest } }
