-- Worked examples of the stair and of the vector, computed from the definitions alone.

use Rattle.std.proofs.Common.{◌≡◌, ℕ, Bool, true, false, List, [], ◌∷◌, replicate, Some, None, Err, refl}
use Rattle.draws.specs.Sources.{TapeState, tape_words}
use Rattle.draws.specs.Runners.{RunnerState}
use Rattle.draws.specs.declared.faults.Cause.TheVariants.{Slots, Draw}
use Rattle.draws.specs.declared.faults.DrawFault.TheVariants.{Spent}
use Rattle.meaning.specs.Trees.{Steps}
use Rattle.meaning.specs.Places.{Place}
use Rattle.meaning.specs.Growths.{Outcome}
use Rattle.meaning.specs.Stairs.{StairTree, stair_steps, stair_growth}
use Rattle.meaning.specs.Tables.{slice_table, slice_growth, slice_short, slice_stated}
use Rattle.meaning.specs.Vectors.{VecTree, vec_blank, vec_steps, vec_growth}

-- what is seen of a tree: its candidate, its home and its steps back
pub record Seen : Type 0 where
  pub shows : List ℕ
  pub home : List ℕ
  pub back : ℕ

abbrev pub seen : {S : Type 0} → Steps S ℕ → S → Seen
seen t s = record { shows = t.candidate s; home = t.home s; back = t.back s }

-- a tree after some steps: true for simplify, false for complicate
abbrev pub after : {S : Type 0} → Steps S ℕ → List Bool → S → S
after t [] s = s
after t (true ∷ more) s = after t more (t.simplify s).tree
after t (false ∷ more) s = after t more (t.complicate s).tree

-- a runner on a tape, with no regeneration and no rejection
abbrev pub on_tape : List ℕ → RunnerState TapeState
on_tape words = record { source = record { words = words; place = 0 }; cases = 0; regenerations = 0; rejections = 0 }

-- a stair, and one of its steps
abbrev pub stair_at : ℕ → Place StairTree
stair_at v = record { grown = true; tree = record { value = v; floor = 0; note = None } }

abbrev down : Place StairTree → Place StairTree
down s = (stair_steps.simplify s).tree

abbrev up : Place StairTree → Place StairTree
up s = (stair_steps.complicate s).tree

stair_down : seen stair_steps (down (stair_at 3)) ≡ record { shows = 2 ∷ []; home = 3 ∷ []; back = 1 }
stair_down = refl

stair_twice : seen stair_steps (down (down (stair_at 3))) ≡ record { shows = 1 ∷ []; home = 2 ∷ []; back = 1 }
stair_twice = refl

stair_back : seen stair_steps (up (down (down (stair_at 3)))) ≡ record { shows = 2 ∷ []; home = 2 ∷ []; back = 0 }
stair_back = refl

-- back at 2, which is its floor now, it goes neither up nor down
stair_rests : (stair_steps.simplify (up (down (down (stair_at 3))))).answer ≡ false
stair_rests = refl

-- a vector of stairs with the limit 9, grown into three slots from a tape
abbrev pub blank : Place StairTree
blank = record { grown = false; tree = record { value = 0; floor = 0; note = None } }

abbrev grown : (low high : ℕ) → List ℕ → Outcome TapeState (Place (VecTree (List (Place StairTree))))
grown low high words = vec_growth {P = Unit {0}} (λ p. p) (λ p. low) (λ p. high) (slice_stated (λ p. p) (λ p. 1)) (slice_short (λ p. p) (λ p s. false)) (slice_growth (λ p. p) (stair_growth (λ p. 9))) tt TapeState tape_words (on_tape words) (vec_blank (replicate 3 blank))

abbrev vector : Steps (Place (VecTree (List (Place StairTree)))) ℕ
vector = vec_steps (slice_table stair_steps)

abbrev steps : List Bool → Place (VecTree (List (Place StairTree))) → Place (VecTree (List (Place StairTree)))
steps = after vector

vector_grown : seen vector (grown 1 3 (2 ∷ 5 ∷ 7 ∷ 4 ∷ [])).place ≡ record { shows = 5 ∷ 7 ∷ 4 ∷ []; home = 5 ∷ 7 ∷ 4 ∷ []; back = 0 }
vector_grown = refl

vector_deletes : seen vector (steps (true ∷ []) (grown 1 3 (2 ∷ 5 ∷ 7 ∷ 4 ∷ [])).place) ≡ record { shows = 7 ∷ 4 ∷ []; home = 5 ∷ 7 ∷ 4 ∷ []; back = 1 }
vector_deletes = refl

-- the noted element comes back, and the cursor goes on
vector_puts_back : seen vector (steps (true ∷ false ∷ true ∷ []) (grown 1 3 (2 ∷ 5 ∷ 7 ∷ 4 ∷ [])).place) ≡ record { shows = 5 ∷ 4 ∷ []; home = 5 ∷ 7 ∷ 4 ∷ []; back = 1 }
vector_puts_back = refl

-- at the minimum it simplifies its member instead
vector_simplifies : seen vector (steps (true ∷ false ∷ true ∷ true ∷ true ∷ []) (grown 1 3 (2 ∷ 5 ∷ 7 ∷ 4 ∷ [])).place) ≡ record { shows = 4 ∷ []; home = 5 ∷ []; back = 1 }
vector_simplifies = refl

-- a tape that is spent at element 1: element 0 is new, element 1 blank, element 2 untouched, the place blank
spent_at_one : ((grown 1 3 (2 ∷ 5 ∷ [])).place.tree.elements ≡ stair_at 5 ∷ blank ∷ blank ∷ []) × ((grown 1 3 (2 ∷ 5 ∷ [])).place.grown ≡ false) × ((grown 1 3 (2 ∷ 5 ∷ [])).runner.source.place ≡ 2)
spent_at_one = (refl, refl, refl)

spent_fault : (grown 1 3 (2 ∷ 5 ∷ [])).answer ≡ Err (record { cause = Draw Spent; element = Some 1 })
spent_fault = refl

-- the size draw takes a word even where there is one size, and its fault names no element
spent_size : (grown 0 0 []).answer ≡ Err (record { cause = Draw Spent; element = None })
spent_size = refl

-- four elements do not fit three slots, whatever would be drawn: no word is taken
too_few : ((grown 0 4 (0 ∷ [])).answer ≡ Err (record { cause = Slots; element = None })) × ((grown 0 4 (0 ∷ [])).runner.source.place ≡ 0)
too_few = (refl, refl)
