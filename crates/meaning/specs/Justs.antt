-- Just: a leaf that shows one item and never changes.
--   bare_just     its state is its item, which is candidate and home; both steps answer false
--   just_steps    the steps of its place
--   just_growth   growth draws nothing, is never refused, and takes the strategy's item
--   just_sound    every state is sound

use Rattle.std.specs.Prelude.{true, [], ◌∷◌, Ok}
use Rattle.meaning.specs.Trees.{stays, Steps}
use Rattle.meaning.specs.Places.{Bare, Place, placed}
use Rattle.meaning.specs.Growths.{Growth}

abbrev pub bare_just : {I : Type 0} → Bare I I
bare_just = record {
  candidate = λ item. item ∷ [];
  home = λ item. item ∷ [];
  back = λ item. 0;
  longest = λ item. 1;
  simplify = λ item. stays item;
  complicate = λ item. stays item;
}

abbrev pub just_steps : {I : Type 0} → Steps (Place I) I
just_steps = placed bare_just

abbrev pub just_growth : {I P : Type 0} → (P → I) → Growth P (Place I)
just_growth item p X w r s = record { answer = Ok tt; runner = r; place = record { grown = true; tree = item p } }

abbrev pub just_sound : {I : Type 0} → Place I → Type 0
just_sound s = Unit {0}
