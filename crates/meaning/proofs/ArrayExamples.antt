-- Worked examples of the array over nested pairs, computed from the definitions alone: two stairs with the limits 9 and 5; and
-- a stair with a vector of stairs.

use Rattle.std.proofs.Common.{◌≡◌, ℕ, Bool, true, false, List, [], ◌∷◌, Some, None, Ok, Err, Option, refl}
use Rattle.draws.specs.Sources.{TapeState, tape_words}
use Rattle.draws.specs.declared.faults.Cause.TheVariants.{Slots, Draw}
use Rattle.draws.specs.declared.faults.DrawFault.TheVariants.{Spent}
use Rattle.meaning.specs.Trees.{Steps, Total, Keeps}
use Rattle.meaning.specs.Places.{Place}
use Rattle.meaning.specs.Growths.{Outcome, Roots}
use Rattle.meaning.specs.Stairs.{StairTree, stair_steps, stair_growth}
use Rattle.meaning.specs.Pairs.{Pair, no_trees, pair_table, end_growth, pair_growth, end_short, pair_short, end_stated, pair_stated}
use Rattle.meaning.specs.Arrays.{ArrayTree, array_blank, array_steps, array_short, array_stated, array_growth, array_sound}
use Rattle.meaning.proofs.ArrayLaws.{array_total, array_keeps, array_roots}
use Rattle.meaning.proofs.Examples.{seen, after, on_tape, stair_at, blank}
use Rattle.meaning.proofs.PairExamples.{Both, both, both_short, both_growth, both_stated, blank_both, both_sound, both_total, both_keeps, both_roots}

abbrev Two : Type 0
Two = Pair (Place StairTree) (Pair (Place StairTree) (Unit {0}))

abbrev two : Place StairTree → Place StairTree → Two
two a b = record { first = a; rest = record { first = b; rest = tt } }

abbrev array : Steps (Place (ArrayTree Two)) ℕ
array = array_steps (pair_table stair_steps (pair_table stair_steps no_trees))

-- an array of so many elements, grown into two places from a tape
abbrev grown : ℕ → List ℕ → Outcome TapeState (Place (ArrayTree Two))
grown size words = array_growth {P = Unit {0}} {Q = Unit {0}} (λ q. q) (λ q. size)
    (pair_stated {P = Unit {0}} (λ q. q) (λ q. q) (λ p. 1) (pair_stated {P = Unit {0}} (λ q. q) (λ q. q) (λ p. 1) end_stated))
    (pair_short {P = Unit {0}} (λ q. q) (λ q. q) (λ p s. false) (pair_short {P = Unit {0}} (λ q. q) (λ q. q) (λ p s. false) end_short))
    (pair_growth (λ q. q) (λ q. q) (stair_growth (λ p. 9)) (pair_growth (λ q. q) (λ q. q) (stair_growth (λ p. 5)) end_growth))
    tt TapeState tape_words (on_tape words) (array_blank (two blank blank))

-- what is seen of it after some steps, and where it then stands
abbrev stepped : List Bool → Place (ArrayTree Two)
stepped letters = after array letters (grown 2 (1 ∷ 1 ∷ [])).place

abbrev standing : Place (ArrayTree Two) → ℕ × Option ℕ
standing a = (a.tree.shrinker, a.tree.last_shrinker)

-- no size is drawn: two elements take two words
grown_two : (seen array (grown 2 (12 ∷ 2 ∷ 7 ∷ [])).place ≡ record { shows = 2 ∷ 2 ∷ []; home = 2 ∷ 2 ∷ []; back = 0 }) × ((grown 2 (12 ∷ 2 ∷ 7 ∷ [])).runner.source.place ≡ 2) × (array.longest (grown 2 (12 ∷ 2 ∷ 7 ∷ [])).place ≡ 2)
grown_two = (refl, refl, refl)

first_down : (seen array (stepped (true ∷ [])) ≡ record { shows = 0 ∷ 1 ∷ []; home = 1 ∷ 1 ∷ []; back = 1 }) × (standing (stepped (true ∷ [])) ≡ (0, Some 0))
first_down = (refl, refl)

-- an element that answers false is left behind
second_down : (seen array (stepped (true ∷ true ∷ [])) ≡ record { shows = 0 ∷ 0 ∷ []; home = 0 ∷ 1 ∷ []; back = 1 }) × (standing (stepped (true ∷ true ∷ [])) ≡ (1, Some 1))
second_down = (refl, refl)

-- past the last element simplify is false, and the note stays
none_down : ((array.simplify (stepped (true ∷ true ∷ []))).answer ≡ false) × (seen array (stepped (true ∷ true ∷ true ∷ [])) ≡ record { shows = 0 ∷ 0 ∷ []; home = 0 ∷ 1 ∷ []; back = 1 }) × (standing (stepped (true ∷ true ∷ true ∷ [])) ≡ (2, Some 1))
none_down = (refl, refl, refl)

-- complicate sets the shrinker back to the noted element, and keeps the note while it answers true
second_back : (seen array (stepped (true ∷ true ∷ true ∷ false ∷ [])) ≡ record { shows = 0 ∷ 1 ∷ []; home = 0 ∷ 1 ∷ []; back = 0 }) × (standing (stepped (true ∷ true ∷ true ∷ false ∷ [])) ≡ (1, Some 1))
second_back = (refl, refl)

at_home : ((array.complicate (stepped (true ∷ true ∷ true ∷ false ∷ []))).answer ≡ false) × (standing (stepped (true ∷ true ∷ true ∷ false ∷ false ∷ [])) ≡ (1, None))
at_home = (refl, refl)

-- without a note complicate changes nothing
no_note : array.complicate (stepped []) ≡ record { answer = false; tree = stepped [] }
no_note = refl

-- an array of no elements takes no word, shows nothing and has no step
grown_none : ((grown 0 []).answer ≡ Ok tt) × (array.candidate (grown 0 []).place ≡ []) × ((array.simplify (grown 0 []).place).answer ≡ false)
grown_none = (refl, refl, refl)

-- a tape that is spent at element 1: element 0 is new, element 1 blank, the place blank
spent_at_one : ((grown 2 (4 ∷ [])).place.tree.elements ≡ two (stair_at 4) blank) × ((grown 2 (4 ∷ [])).place.grown ≡ false) × ((grown 2 (4 ∷ [])).answer ≡ Err (record { cause = Draw Spent; element = Some 1 }))
spent_at_one = (refl, refl, refl)

-- three elements do not fit two places: no word is taken, and nothing changes
too_few : grown 3 (4 ∷ []) ≡ record { answer = Err (record { cause = Slots; element = None }); runner = on_tape (4 ∷ []); place = array_blank (two blank blank) }
too_few = refl

-- trees of differing kinds: a fault keeps the number of the innermost element, and a size draw's gets that of its vector
abbrev both_grown : List ℕ → Outcome TapeState (Place (ArrayTree Both))
both_grown words = array_growth {P = Unit {0}} (λ q. q) (λ q. 2) both_stated both_short both_growth tt TapeState tape_words (on_tape words) (array_blank (blank_both 2))

abbrev both_array : Steps (Place (ArrayTree Both)) ℕ
both_array = array_steps both

both_shown : (seen both_array (both_grown (3 ∷ 1 ∷ 4 ∷ 2 ∷ [])).place ≡ record { shows = 3 ∷ 4 ∷ 2 ∷ []; home = 3 ∷ 4 ∷ 2 ∷ []; back = 0 }) × (both_array.longest (both_grown (3 ∷ 1 ∷ 4 ∷ 2 ∷ [])).place ≡ 3)
both_shown = (refl, refl)

-- a stair at 0 answers false, so the vector deletes
both_down : seen both_array (after both_array (true ∷ []) (both_grown (0 ∷ 1 ∷ 4 ∷ 2 ∷ [])).place) ≡ record { shows = 0 ∷ 2 ∷ []; home = 0 ∷ 4 ∷ 2 ∷ []; back = 1 }
both_down = refl

both_spent : ((both_grown (3 ∷ 1 ∷ [])).answer ≡ Err (record { cause = Draw Spent; element = Some 0 })) × ((both_grown (3 ∷ [])).answer ≡ Err (record { cause = Draw Spent; element = Some 1 }))
both_spent = (refl, refl)

-- the laws of this array are those of any array
both_array_total : Total both_array
both_array_total = array_total both_total

both_array_keeps : Keeps both_array (array_sound both both_sound)
both_array_keeps = array_keeps both_total both_keeps

both_array_roots : Roots both_array (array_sound both both_sound) (λ q. array_short (both_short q) (both_stated q) 2) (array_growth (λ q. q) (λ q. 2) both_stated both_short both_growth) (λ q. array_stated (both_stated q) 2)
both_array_roots = array_roots (λ q. q) (λ q. 2) both_roots
