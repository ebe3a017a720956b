-- Worked examples of the flatten, computed from the definitions alone.

use Rattle.std.proofs.Common.{◌≡◌, ℕ, ◌*◌, ◌%◌, Bool, true, false, cond, eqb, List, [], ◌∷◌, None, Ok, Err, refl, le_refl}
use Rattle.draws.specs.Runners.{RunnerState}
use Rattle.draws.specs.Sources.{TapeState, tape_words}
use Rattle.draws.specs.declared.faults.DrawFault.TheVariants.{Spent}
use Rattle.meaning.specs.Trees.{Stepped, stays, Steps, Total, Keeps}
use Rattle.meaning.specs.Places.{Place, placed}
use Rattle.meaning.specs.Growths.{Outcome, Growth, too_few_slots, spent, Roots}
use Rattle.meaning.specs.Stairs.{StairTree, stair_steps, stair_growth}
use Rattle.meaning.specs.StairLaws.{stair_total, stair_keeps, stair_roots}
use Rattle.meaning.specs.Fuses.{FuseTree}
use Rattle.meaning.specs.Flattens.{FlatTree, flat_steps, Chooser, flat_short, flat_growth}
use Rattle.meaning.specs.FlattenLaws.{flat_sound}
use Rattle.meaning.proofs.FlattenEnds.{flat_total}
use Rattle.meaning.proofs.FlattenSteps.{flat_keeps}
use Rattle.meaning.proofs.FlattenGrowth.{flat_roots}

-- what is seen of a tree: the answer of its latest step, its candidate, its home and its steps back
record Seen : Type 0 where
  answer : Bool
  shows : List ℕ
  home : List ℕ
  back : ℕ

-- after steps by their letters: true for simplify, false for complicate
abbrev after : {S : Type 0} → Steps S ℕ → Stepped S → List Bool → Seen
after t s [] = record { answer = s.answer; shows = t.candidate s.tree; home = t.home s.tree; back = t.back s.tree }
after t s (true ∷ more) = after t (t.simplify s.tree) more
after t s (false ∷ more) = after t (t.complicate s.tree) more

-- the source is a stair with the limit 9; what is chosen grows for its number. Slots are lacking where few says so
abbrev first : List ℕ → ℕ
first [] = 0
first (m ∷ more) = m

abbrev tape : (words : List ℕ) (cases regenerations : ℕ) → RunnerState TapeState
tape words cases regenerations = record { source = record { words = words; place = 0 }; cases = cases; regenerations = regenerations; rejections = 0 }

abbrev shut : {S : Type 0} → S → FuseTree S
shut s = record { inner = s; may_simplify = false; may_complicate = false }

abbrev blank_stair : Place StairTree
blank_stair = record { grown = false; tree = record { value = 0; floor = 0; note = None } }

abbrev blank_over : {S : Type 0} → S → Place (FlatTree (Place StairTree) S ℕ)
blank_over s = record { grown = false; tree = record { meta = shut blank_stair; current = shut s; final_complication = None; runner = λ later. record { grows = λ l place. None; regenerates = false }; remaining = 0; cases = 0; longest = 0 } }

abbrev grown : {S : Type 0} → Growth ℕ S → S → (few : Bool) → RunnerState TapeState → Outcome TapeState (Place (FlatTree (Place StairTree) S ℕ))
grown g s few r = flat_growth {Q = Unit {0}} stair_steps (λ q. q) (record { choose = λ q. first; lacks_slots = λ q place. few; longest = λ q. 1 }) (λ q place. false) (stair_growth (λ q. 9)) g tt TapeState tape_words r (blank_over s)

-- a leaf that shows one fixed number, ten times that of the source
abbrev fixed_steps : Steps (Place ℕ) ℕ
fixed_steps = placed (record { candidate = λ n. n ∷ []; home = λ n. n ∷ []; back = λ n. 0; longest = λ n. 1; simplify = stays; complicate = stays })

abbrev tenfold : Growth ℕ (Place ℕ)
tenfold m X w r s = record { answer = Ok tt; runner = r; place = record { grown = true; tree = 10 * m } }

abbrev tens : (cases regenerations : ℕ) → List Bool → Seen
tens cases regenerations = after (flat_steps stair_steps fixed_steps) (stays (grown tenfold (record { grown = false; tree = 0 }) false (tape (2 ∷ []) cases regenerations)).place)

tens_grown : tens 1 5 [] ≡ record { answer = false; shows = 20 ∷ []; home = 20 ∷ []; back = 0 }
tens_grown = refl

tens_simplify : tens 1 5 (true ∷ []) ≡ record { answer = true; shows = 10 ∷ []; home = 20 ∷ []; back = 4 }
tens_simplify = refl

-- the one regeneration that cases allows
tens_regenerates : tens 1 5 (true ∷ false ∷ []) ≡ record { answer = true; shows = 10 ∷ []; home = 20 ∷ []; back = 3 }
tens_regenerates = refl

-- the source is back at 2, with a regeneration of its own
tens_returns : tens 1 5 (true ∷ false ∷ false ∷ []) ≡ record { answer = true; shows = 20 ∷ []; home = 20 ∷ []; back = 2 }
tens_returns = refl

tens_regenerates_again : tens 1 5 (true ∷ false ∷ false ∷ false ∷ []) ≡ record { answer = true; shows = 20 ∷ []; home = 20 ∷ []; back = 1 }
tens_regenerates_again = refl

-- what was kept for the last, and then no more
tens_last : tens 1 5 (true ∷ false ∷ false ∷ false ∷ false ∷ []) ≡ record { answer = true; shows = 20 ∷ []; home = 20 ∷ []; back = 0 }
tens_last = refl

tens_ends : tens 1 5 (true ∷ false ∷ false ∷ false ∷ false ∷ false ∷ []) ≡ record { answer = false; shows = 20 ∷ []; home = 20 ∷ []; back = 0 }
tens_ends = refl

-- with no regeneration left, the source is complicated at once
tens_spent : tens 1 0 (true ∷ false ∷ []) ≡ record { answer = true; shows = 20 ∷ []; home = 20 ∷ []; back = 2 }
tens_spent = refl

tens_spent_last : tens 1 0 (true ∷ false ∷ false ∷ []) ≡ record { answer = true; shows = 20 ∷ []; home = 20 ∷ []; back = 0 }
tens_spent_last = refl

-- a stair with the limit 9 for any number
abbrev any : Growth ℕ (Place StairTree)
any = stair_growth (λ m. 9)

-- for an even number, or for an odd one, where growth for another is refused
abbrev only : ℕ → Growth ℕ (Place StairTree)
only rest m X w r s = cond (eqb (m % 2) rest) (any m X w r s) (record { answer = Err (spent Spent); runner = r; place = stair_steps.blank s })

abbrev evens : Growth ℕ (Place StairTree)
evens = only 0

-- for any number, where growth by an odd word is refused
abbrev even_words : Growth ℕ (Place StairTree)
even_words m X w r s = by_word (any m X w r s)
  where
    by_word : Outcome X (Place StairTree) → Outcome X (Place StairTree)
    by_word o = cond (eqb (first (stair_steps.candidate o.place) % 2) 0) o (record { answer = Err (spent Spent); runner = o.runner; place = stair_steps.blank o.place })

abbrev stairs_grown : Growth ℕ (Place StairTree) → (few : Bool) → List ℕ → Outcome TapeState (Place (FlatTree (Place StairTree) (Place StairTree) ℕ))
stairs_grown g few words = grown g blank_stair few (tape words 2 5)

abbrev stairs : Growth ℕ (Place StairTree) → List ℕ → List Bool → Seen
stairs g words = after (flat_steps stair_steps stair_steps) (stays (stairs_grown g false words).place)

-- regrowth for 1 is refused: the source is led home, so that complicate has no way to go, and the source stays at its floor
refused_simplify : stairs evens (2 ∷ 0 ∷ 0 ∷ 5 ∷ []) (true ∷ []) ≡ record { answer = false; shows = 0 ∷ []; home = 0 ∷ []; back = 0 }
refused_simplify = refl

refused_complicate : stairs evens (2 ∷ 0 ∷ 0 ∷ 5 ∷ []) (true ∷ false ∷ []) ≡ record { answer = false; shows = 0 ∷ []; home = 0 ∷ []; back = 0 }
refused_complicate = refl

-- the smallest: a source at 1, and regrowth for 0 is refused
smallest_simplify : stairs (only 1) (1 ∷ 0 ∷ 5 ∷ []) (true ∷ []) ≡ record { answer = false; shows = 0 ∷ []; home = 0 ∷ []; back = 0 }
smallest_simplify = refl

smallest_complicate : stairs (only 1) (1 ∷ 0 ∷ 5 ∷ []) (true ∷ false ∷ []) ≡ record { answer = false; shows = 0 ∷ []; home = 0 ∷ []; back = 0 }
smallest_complicate = refl

-- two regrowths are refused by odd words, and what was kept is taken; the word 4 is not drawn any more
kept_simplify : stairs even_words (1 ∷ 0 ∷ 2 ∷ 1 ∷ 1 ∷ 4 ∷ []) (true ∷ []) ≡ record { answer = true; shows = 2 ∷ []; home = 0 ∷ []; back = 6 }
kept_simplify = refl

kept_taken : stairs even_words (1 ∷ 0 ∷ 2 ∷ 1 ∷ 1 ∷ 4 ∷ []) (true ∷ false ∷ []) ≡ record { answer = true; shows = 0 ∷ []; home = 0 ∷ []; back = 0 }
kept_taken = refl

kept_ends : stairs even_words (1 ∷ 0 ∷ 2 ∷ 1 ∷ 1 ∷ 4 ∷ []) (true ∷ false ∷ false ∷ []) ≡ record { answer = false; shows = 0 ∷ []; home = 0 ∷ []; back = 0 }
kept_ends = refl

-- regrowth for 1 takes the tape's last word: the regeneration and the source's way back are refused, and what was kept is taken
last_word : stairs any (2 ∷ 0 ∷ 7 ∷ []) (true ∷ []) ≡ record { answer = true; shows = 7 ∷ []; home = 0 ∷ []; back = 6 }
last_word = refl

last_word_back : stairs any (2 ∷ 0 ∷ 7 ∷ []) (true ∷ false ∷ []) ≡ record { answer = true; shows = 0 ∷ []; home = 0 ∷ []; back = 0 }
last_word_back = refl

last_word_ends : stairs any (2 ∷ 0 ∷ 7 ∷ []) (true ∷ false ∷ false ∷ []) ≡ record { answer = false; shows = 0 ∷ []; home = 0 ∷ []; back = 0 }
last_word_ends = refl

-- a tape that is spent after the source: the source is new, current and the place are blank
spent_at_current : ((stairs_grown any false (2 ∷ [])).answer ≡ Err (spent Spent)) × ((stairs_grown any false (2 ∷ [])).place.grown ≡ false) × ((stairs_grown any false (2 ∷ [])).runner.source.place ≡ 1)
spent_at_current = (refl, refl, refl)

-- too few slots for what is chosen: no word is taken, and the place is as it was
too_few : stairs_grown any true (2 ∷ 0 ∷ []) ≡ record { answer = Err too_few_slots; runner = tape (2 ∷ 0 ∷ []) 2 5; place = blank_over blank_stair }
too_few = refl

-- the laws of this flatten, from those of the stair
stairs_total : Total (flat_steps {J = ℕ} stair_steps stair_steps)
stairs_total = flat_total stair_total stair_total

stairs_keeps : Keeps (flat_steps stair_steps stair_steps) (flat_sound stair_steps stair_steps (λ s. Unit {0}) (λ s. Unit {0}))
stairs_keeps = flat_keeps stair_total stair_total stair_keeps stair_keeps

abbrev numbered : Chooser (Unit {0}) ℕ ℕ (Place StairTree)
numbered = record { choose = λ q. first; lacks_slots = λ q place. false; longest = λ q. 1 }

stairs_roots : Roots (flat_steps stair_steps stair_steps) (flat_sound stair_steps stair_steps (λ s. Unit {0}) (λ s. Unit {0})) (flat_short (λ q. q) numbered (λ q place. false)) (flat_growth stair_steps (λ q. q) numbered (λ q place. false) (stair_growth (λ q. 9)) any) (λ q. 1)
stairs_roots = flat_roots (λ q. q) numbered (record { agrees = λ q l s. refl; fits = λ q l. le_refl 1 }) (stair_roots (λ q. 9)) (stair_roots (λ m. 9))
