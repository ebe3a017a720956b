-- Worked examples of bit sets and range subsets, computed from the definitions alone.

use Rattle.std.proofs.Common.{◌≡◌, ℕ, ◌-◌, ◌^◌, Bool, true, false, List, [], ◌∷◌, Ok, Err, refl, arith}
use Rattle.draws.specs.Sources.{TapeState, tape_words}
use Rattle.draws.specs.declared.faults.DrawFault.TheVariants.{Spent}
use Rattle.meaning.specs.Trees.{meant}
use Rattle.meaning.specs.Places.{Place}
use Rattle.meaning.specs.Growths.{Outcome, Growth, spent}
use Rattle.meaning.specs.Sets.{SetTree, fresh, set_steps}
use Rattle.meaning.specs.SetLaws.{Sampleable, Choosable}
use Rattle.meaning.specs.BitSets.{own_number, bits_growth, sampled_growth}
use Rattle.meaning.specs.RangeSubsets.{subset_growth}

abbrev SetGrowth : Type 1
SetGrowth = Growth (Unit {0}) (Place (SetTree ℕ))

-- growing into a place from a tape of words
abbrev grown_in : Place (SetTree ℕ) → SetGrowth → List ℕ → Outcome TapeState (Place (SetTree ℕ))
grown_in place growth words = growth tt TapeState tape_words (record { source = record { words = words; place = 0 }; cases = 0; regenerations = 0; rejections = 0 }) place

abbrev grown : SetGrowth → List ℕ → Outcome TapeState (Place (SetTree ℕ))
grown = grown_in (record { grown = false; tree = fresh [] own_number 0 0 0 })

-- the tree after some steps: true for simplify, false for complicate
abbrev steps : List Bool → Place (SetTree ℕ) → Place (SetTree ℕ)
steps [] s = s
steps (true ∷ more) s = steps more (set_steps.simplify s).tree
steps (false ∷ more) s = steps more (set_steps.complicate s).tree

abbrev after : SetGrowth → List ℕ → List Bool → Place (SetTree ℕ)
after growth words script = steps script (grown growth words).place

-- what a set means that grew and then made some steps: it shows a candidate, at home or one step from home
abbrev at_home : SetGrowth → List ℕ → List Bool → List ℕ → Type 0
at_home growth words script shows = meant set_steps (after growth words script) ≡ record { candidate = shows; home = shows; back = 0 }

abbrev one_from_home : SetGrowth → List ℕ → List Bool → List ℕ → List ℕ → Type 0
one_from_home growth words script shows home = meant set_steps (after growth words script) ≡ record { candidate = shows; home = home; back = 1 }

-- a plain bit set of bits 2 to 5 of eight: a yes/no draw for each, by the word's lowest bit; the fifth word is not taken
abbrev plain : SetGrowth
plain = bits_growth (λ p. 2) (λ p. 6) (λ p. 8)

abbrev plain_words : List ℕ
plain_words = 1 ∷ 0 ∷ 3 ∷ 5 ∷ 1 ∷ []

plain_grows : ((grown plain plain_words).answer ≡ Ok tt) × ((grown plain plain_words).runner.source.place ≡ 4) × (set_steps.longest (grown plain plain_words).place ≡ 4)
plain_grows = (refl, refl, refl)

plain_shows : at_home plain plain_words [] (2 ∷ 4 ∷ 5 ∷ [])
plain_shows = refl

plain_clears : one_from_home plain plain_words (true ∷ []) (4 ∷ 5 ∷ []) (2 ∷ 4 ∷ 5 ∷ [])
plain_clears = refl

plain_comes_back : at_home plain plain_words (true ∷ false ∷ []) (2 ∷ 4 ∷ 5 ∷ [])
plain_comes_back = refl

-- the bit that came back is not cleared again: the cursor went on
plain_goes_on : one_from_home plain plain_words (true ∷ false ∷ true ∷ []) (2 ∷ 5 ∷ []) (2 ∷ 4 ∷ 5 ∷ [])
plain_goes_on = refl

-- past its last bit simplify answers false, though a member is left, and drops its note: complicate answers false too
plain_runs_past : ((set_steps.simplify (after plain plain_words (true ∷ false ∷ true ∷ true ∷ []))).answer ≡ false) × at_home plain plain_words (true ∷ false ∷ true ∷ true ∷ true ∷ []) (2 ∷ [])
plain_runs_past = (refl, refl)

-- with no member left simplify answers false too, but changes nothing: complicate still puts the last bit back
plain_empty : ((set_steps.simplify (after plain (1 ∷ 0 ∷ 0 ∷ 0 ∷ []) (true ∷ []))).answer ≡ false) × one_from_home plain (1 ∷ 0 ∷ 0 ∷ 0 ∷ []) (true ∷ true ∷ []) [] (2 ∷ [])
plain_empty = (refl, refl)

-- a spent tape: the fault names no element, the place is blank, and the words before were taken
plain_spent : ((grown plain (1 ∷ 0 ∷ [])).answer ≡ Err (spent Spent)) × ((grown plain (1 ∷ 0 ∷ [])).place.grown ≡ false) × ((grown plain (1 ∷ 0 ∷ [])).runner.source.place ≡ 2)
plain_spent = (refl, refl, refl)

-- growing into a used place resets its note and its cursor
plain_again : grown_in (after plain plain_words (true ∷ true ∷ [])) plain plain_words ≡ grown plain plain_words
plain_again = refl

-- a sampled bit set of one to three of bits 2 to 5. The size 2 is drawn; then 3 of 4 passes bit 2, 1 of 3 takes bit 3, 0 of 2
-- takes bit 4, and it stops
abbrev sampled : SetGrowth
sampled = sampled_growth (λ p. 2) (λ p. 6) (λ p. 8) (λ p. 1) (λ p. 3)

abbrev sampled_words : List ℕ
sampled_words = 1 ∷ 7 ∷ 4 ∷ 2 ∷ 0 ∷ []

sampled_grows : ((grown sampled sampled_words).answer ≡ Ok tt) × ((grown sampled sampled_words).runner.source.place ≡ 4) × (set_steps.longest (grown sampled sampled_words).place ≡ 3)
sampled_grows = (refl, refl, refl)

sampled_shows : at_home sampled sampled_words [] (3 ∷ 4 ∷ [])
sampled_shows = refl

-- where all the bits that are left are wanted, it still draws for each
sampled_rest : at_home sampled (2 ∷ 3 ∷ 0 ∷ 1 ∷ 0 ∷ []) [] (3 ∷ 4 ∷ 5 ∷ []) × ((grown sampled (2 ∷ 3 ∷ 0 ∷ 1 ∷ [])).answer ≡ Err (spent Spent))
sampled_rest = (refl, refl)

-- it keeps one member, and at its minimum its note
sampled_keeps_one : one_from_home sampled sampled_words (true ∷ true ∷ []) (4 ∷ []) (3 ∷ 4 ∷ []) × at_home sampled sampled_words (true ∷ true ∷ false ∷ []) (3 ∷ 4 ∷ [])
sampled_keeps_one = (refl, refl)

-- a range subset of two or three of the numbers 10 to 14. The size 3 is drawn; at place 2 stands 12, which changes places
-- with 10; at place 2 stands 10, which changes places with 11; at place 2 stands 11
abbrev subset : SetGrowth
subset = subset_growth (λ p. 10) (λ p. 5) (λ p. 2) (λ p. 3)

abbrev subset_words : List ℕ
subset_words = 1 ∷ 7 ∷ 5 ∷ 3 ∷ []

subset_grows : ((grown subset subset_words).answer ≡ Ok tt) × ((grown subset subset_words).runner.source.place ≡ 4) × (set_steps.longest (grown subset subset_words).place ≡ 3)
subset_grows = (refl, refl, refl)

subset_shows : at_home subset subset_words [] (12 ∷ 10 ∷ 11 ∷ [])
subset_shows = refl

subset_clears : one_from_home subset subset_words (true ∷ []) (10 ∷ 11 ∷ []) (12 ∷ 10 ∷ 11 ∷ [])
subset_clears = refl

-- the size takes a word, and each number one
subset_spent : ((grown subset []).answer ≡ Err (spent Spent)) × ((grown subset (0 ∷ 2 ∷ [])).answer ≡ Err (spent Spent)) × ((grown subset (0 ∷ 2 ∷ [])).place.grown ≡ false)
subset_spent = (refl, refl, refl)

-- what the laws of growth ask for is met by these strategies, and by 256 numbers of the widest range
sampled_can : Sampleable 2 6 8 1 3
sampled_can = record { sizes = omega arith; bits = omega arith; enough = omega arith; inside = omega arith; few = omega arith }

widest_can : Choosable (2 ^ 64 - 1) 0 256
widest_can = record { sizes = omega arith; enough = omega arith; few = omega arith; narrow = omega arith }

-- one or two of the numbers 0 and 1: the minimum counts members, so the last one stays
abbrev pair : SetGrowth
pair = subset_growth (λ p. 0) (λ p. 2) (λ p. 1) (λ p. 2)

pair_keeps_one : one_from_home pair (1 ∷ 0 ∷ 0 ∷ []) (true ∷ []) (1 ∷ []) (0 ∷ 1 ∷ []) × one_from_home pair (1 ∷ 0 ∷ 0 ∷ []) (true ∷ true ∷ []) (1 ∷ []) (0 ∷ 1 ∷ [])
pair_keeps_one = (refl, refl)

-- none or one of the number 0: with no member left simplify keeps its note, and complicate puts 0 back
abbrev single : SetGrowth
single = subset_growth (λ p. 0) (λ p. 1) (λ p. 0) (λ p. 1)

single_comes_back : one_from_home single (1 ∷ 0 ∷ []) (true ∷ true ∷ []) [] (0 ∷ []) × at_home single (1 ∷ 0 ∷ []) (true ∷ true ∷ false ∷ []) (0 ∷ [])
single_comes_back = (refl, refl)
