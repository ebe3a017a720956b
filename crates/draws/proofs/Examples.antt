-- Worked examples of the definitions, each computed.

use Rattle.std.proofs.Common.{◌≡◌, ℕ, zero, suc, ◌-◌, ◌^◌, true, false, List, [], ◌∷◌, Some, None, Ok, Err, Option, refl}
use Rattle.draws.specs.declared.faults.DrawFault.TheVariants.{Spent}
use Rattle.draws.specs.declared.faults.Cause.TheVariants.{Slots}
use Rattle.draws.specs.declared.faults.GrowFault.{GrowFault}
use Rattle.draws.specs.Draws.{drawn, answered}
use Rattle.draws.specs.Faults.{in_element}
use Rattle.draws.specs.Sources.{Words, word, after, TapeState, tape_words, seeded, generator_words}

-- ---- draws

-- from 1 to 3 with the word 2: 1 + 2 mod 3
draw_of_three : drawn 1 3 (Some 2) ≡ Ok 3
draw_of_three = refl

-- from 0 to 9, a word below 10 is drawn as it is
draw_of_ten : drawn 0 9 (Some 5) ≡ Ok 5
draw_of_ten = refl

-- and of a larger word its last digit
draw_last_digit : drawn 0 9 (Some 1082269761) ≡ Ok 1
draw_last_digit = refl

-- from 4 to 4 there is only 4
draw_of_one : drawn 4 4 (Some 7) ≡ Ok 4
draw_of_one = refl

-- over all 64 bits the word itself is drawn
draw_of_all : (w : ℕ) → drawn 0 (2 ^ 64 - 1) (Some w) ≡ Ok w
draw_of_all w = refl

-- with no word left a draw is refused
draw_of_none : drawn 0 9 None ≡ Err Spent
draw_of_none = refl

-- an odd word is a yes
odd_is_yes : answered (Some 5) ≡ Ok true
odd_is_yes = refl

-- and an even one a no
even_is_no : answered (Some 6) ≡ Ok false
even_is_no = refl

-- ---- sources

-- what so many calls give, one after another
abbrev calls : {S : Type 0} → ℕ → Words S → S → List (Option ℕ)
calls zero w s = []
calls (suc n) w s = word w s ∷ calls n w (after w s)

abbrev three_words : List (Option ℕ)
three_words = Some 1082269761 ∷ Some 1152992998833853505 ∷ Some 11177516664432764457 ∷ []

-- the first words of a generator that is seeded with 1
generator_from_one : calls 3 generator_words (seeded 1) ≡ three_words
generator_from_one = refl

-- the seed 0 counts as 1
generator_from_zero : calls 3 generator_words (seeded 0) ≡ three_words
generator_from_zero = refl

-- a split takes one word, which seeds the child
generator_split : generator_words.split 1 ≡ record { child = 1082269761; rest = 1082269761 }
generator_split = refl

-- a tape of two words, of which so many were given
abbrev tape_at : ℕ → TapeState
tape_at place = record { words = 7 ∷ 9 ∷ []; place = place }

-- it gives them in order, and then none
tape_in_order : calls 3 tape_words (tape_at 0) ≡ Some 7 ∷ Some 9 ∷ None ∷ []
tape_in_order = refl

-- a word moves it by one place
tape_moves : after tape_words (tape_at 0) ≡ tape_at 1
tape_moves = refl

-- spent, it stays as it is
tape_stays : after tape_words (tape_at 2) ≡ tape_at 2
tape_stays = refl

-- a split copies it at its place, and leaves it there
tape_split : tape_words.split (tape_at 1) ≡ record { child = tape_at 1; rest = tape_at 1 }
tape_split = refl

-- ---- faults

-- too few slots, with no element around the place
abbrev no_slots : GrowFault
no_slots = record { cause = Slots; element = None }

-- the innermost element's number stays
inner_stays : in_element 5 (in_element 2 no_slots) ≡ record { cause = Slots; element = Some 2 }
inner_stays = refl
