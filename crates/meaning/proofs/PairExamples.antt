-- Worked examples of nested pairs and of the vector over them, computed from the definitions alone: a stair with the limit 9,
-- and a vector of one or two stairs with the limit 5.

use Rattle.std.proofs.Common.{◌≡◌, ℕ, Bool, true, false, List, [], ◌∷◌, replicate, Some, None, Err, refl, arith}
use Rattle.draws.specs.Sources.{TapeState, tape_words}
use Rattle.draws.specs.declared.faults.Cause.TheVariants.{Slots, Draw}
use Rattle.draws.specs.declared.faults.DrawFault.TheVariants.{Spent}
use Rattle.meaning.specs.Trees.{Steps, Total, Keeps}
use Rattle.meaning.specs.Places.{Place}
use Rattle.meaning.specs.Growths.{Outcome, Growth, Roots}
use Rattle.meaning.specs.Stairs.{StairTree, stair_steps, stair_growth}
use Rattle.meaning.specs.StairLaws.{stair_total, stair_keeps, stair_roots}
use Rattle.meaning.specs.Tables.{slice_table, TableGrowth, slice_growth, slice_short, slice_stated}
use Rattle.meaning.specs.TableLaws.{TableTotal, TableKeeps, TableRoots, Slot}
use Rattle.meaning.specs.Vectors.{VecTree, vec_blank, vec_steps, vec_short, vec_stated, vec_growth}
use Rattle.meaning.specs.VectorLaws.{vec_sound}
use Rattle.meaning.specs.Pairs.{Pair, no_trees, pair_table, end_growth, pair_growth, end_short, pair_short, end_stated, pair_stated, end_sound, pair_sound}
use Rattle.meaning.proofs.PairLaws.{end_total, end_keeps, end_roots, pair_total, pair_keeps, pair_roots}
use Rattle.meaning.proofs.SliceVector.{slice_vec_total, slice_vec_keeps, slice_vec_roots}
use Rattle.meaning.proofs.VectorSteps.{vec_total, vec_keeps}
use Rattle.meaning.proofs.VectorGrowth.{vec_roots}
use Rattle.meaning.proofs.Examples.{seen, after, on_tape, blank}

-- the vector of one or two stairs, by a strategy of which there is one
abbrev pub Stairs : Type 0
Stairs = Place (VecTree (List (Place StairTree)))

abbrev pub One : Type 0
One = Unit {0}

abbrev pub stairs_steps : Steps Stairs ℕ
stairs_steps = vec_steps (slice_table stair_steps)

abbrev pub stairs_short : One → Stairs → Bool
stairs_short q = vec_short (slice_short (λ q. q) (λ p s. false) q) (slice_stated (λ q. q) (λ p. 1) q) 2

abbrev pub stairs_growth : Growth One Stairs
stairs_growth = vec_growth {P = One} (λ q. q) (λ q. 1) (λ q. 2) (slice_stated (λ q. q) (λ p. 1)) (slice_short (λ q. q) (λ p s. false)) (slice_growth (λ q. q) (stair_growth (λ p. 5)))

abbrev pub stairs_stated : One → ℕ
stairs_stated q = vec_stated (slice_stated (λ q. q) (λ p. 1) q) 2

-- the pairs
abbrev pub Both : Type 0
Both = Pair (Place StairTree) (Pair Stairs (Unit {0}))

abbrev pub both : ℕ → Steps Both ℕ
both = pair_table stair_steps (pair_table stairs_steps no_trees)

abbrev pub both_short : One → ℕ → Both → Bool
both_short = pair_short (λ q. q) (λ q. q) (λ p s. false) (pair_short (λ q. q) (λ q. q) stairs_short end_short)

abbrev pub both_growth : TableGrowth One Both
both_growth = pair_growth (λ q. q) (λ q. q) (stair_growth (λ p. 9)) (pair_growth (λ q. q) (λ q. q) stairs_growth end_growth)

abbrev pub both_stated : One → ℕ → ℕ
both_stated = pair_stated {P = One} (λ q. q) (λ q. q) (λ p. 1) (pair_stated (λ q. q) (λ q. q) stairs_stated end_stated)

-- before any growth, with so many slots for the vector of stairs
abbrev pub blank_both : ℕ → Both
blank_both slots = record { first = blank; rest = record { first = vec_blank (replicate slots blank); rest = tt } }

abbrev first_grown : Outcome TapeState Both
first_grown = both_growth tt TapeState tape_words 0 (on_tape (3 ∷ 1 ∷ 4 ∷ 2 ∷ [])) (blank_both 2)

abbrev both_grown : Outcome TapeState Both
both_grown = both_growth tt TapeState tape_words 1 first_grown.runner first_grown.place

number_0 : seen (both 0) both_grown.place ≡ record { shows = 3 ∷ []; home = 3 ∷ []; back = 0 }
number_0 = refl

number_1 : seen (both 1) both_grown.place ≡ record { shows = 4 ∷ 2 ∷ []; home = 4 ∷ 2 ∷ []; back = 0 }
number_1 = refl

-- a step of one changes no other
number_0_down : (seen (both 0) ((both 0).simplify both_grown.place).tree ≡ record { shows = 2 ∷ []; home = 3 ∷ []; back = 1 }) × (((both 0).simplify both_grown.place).tree.rest ≡ both_grown.place.rest)
number_0_down = (refl, refl)

number_1_down : (seen (both 1) ((both 1).simplify both_grown.place).tree ≡ record { shows = 2 ∷ []; home = 4 ∷ 2 ∷ []; back = 1 }) × (((both 1).simplify both_grown.place).tree.first ≡ both_grown.place.first)
number_1_down = (refl, refl)

-- there is no number 2: it is blank, its steps answer false, and it has no slot to grow in
number_2 : (seen (both 2) both_grown.place ≡ record { shows = []; home = []; back = 0 }) × ((both 2).grown both_grown.place ≡ false) × (((both 2).simplify both_grown.place).answer ≡ false)
number_2 = (refl, refl, refl)

number_2_grows : both_growth tt TapeState tape_words 2 (on_tape (3 ∷ [])) (blank_both 2) ≡ record { answer = Err (record { cause = Slots; element = None }); runner = on_tape (3 ∷ []); place = blank_both 2 }
number_2_grows = refl

-- the vector of stairs wants two slots; a third tree is one too many
shorts : (both_short tt 2 (blank_both 2) ≡ false) × (both_short tt 2 (blank_both 1) ≡ true) × (both_short tt 1 (blank_both 1) ≡ false) × (both_short tt 3 (blank_both 2) ≡ true)
shorts = (refl, refl, refl, refl)

stated_together : (both_stated tt 0 ≡ 0) × (both_stated tt 1 ≡ 1) × (both_stated tt 2 ≡ 3)
stated_together = (refl, refl, refl)

-- a vector of one or two of these trees, in order
abbrev vector : Steps (Place (VecTree Both)) ℕ
vector = vec_steps both

abbrev grown : List ℕ → Outcome TapeState (Place (VecTree Both))
grown words = vec_growth {P = One} (λ q. q) (λ q. 1) (λ q. 2) both_stated both_short both_growth tt TapeState tape_words (on_tape words) (vec_blank (blank_both 2))

vector_grown : seen vector (grown (1 ∷ 3 ∷ 1 ∷ 4 ∷ 2 ∷ [])).place ≡ record { shows = 3 ∷ 4 ∷ 2 ∷ []; home = 3 ∷ 4 ∷ 2 ∷ []; back = 0 }
vector_grown = refl

vector_deletes : seen vector (after vector (true ∷ []) (grown (1 ∷ 3 ∷ 1 ∷ 4 ∷ 2 ∷ [])).place) ≡ record { shows = 4 ∷ 2 ∷ []; home = 3 ∷ 4 ∷ 2 ∷ []; back = 1 }
vector_deletes = refl

vector_longest : vector.longest (grown (0 ∷ 3 ∷ [])).place ≡ 3
vector_longest = refl

-- a fault keeps the number of the innermost element; that of a size draw gets the number of the vector that drew it
spent_inside : (grown (1 ∷ 3 ∷ 1 ∷ [])).answer ≡ Err (record { cause = Draw Spent; element = Some 0 })
spent_inside = refl

spent_size : (grown (1 ∷ 3 ∷ [])).answer ≡ Err (record { cause = Draw Spent; element = Some 1 })
spent_size = refl

-- the laws of these pairs, from those of their trees; the vector's are those of any vector
abbrev pub both_sound : ℕ → Both → Type 0
both_sound = pair_sound (λ s. Unit {0}) (pair_sound (vec_sound (slice_table stair_steps) (Slot (λ s. Unit {0}))) end_sound)

pub both_total : TableTotal both
both_total = pair_total stair_total (pair_total (slice_vec_total stair_total) end_total)

pub both_keeps : TableKeeps both both_sound
both_keeps = pair_keeps stair_keeps (pair_keeps (slice_vec_keeps stair_total stair_keeps) end_keeps)

pub both_roots : TableRoots both both_sound both_short both_growth both_stated
both_roots = pair_roots (λ q. q) (λ q. q) (stair_roots (λ p. 9)) (pair_roots (λ q. q) (λ q. q) (slice_vec_roots (λ q. q) (λ q. q) (λ q. 1) (λ q. 2) (λ q. (omega arith, omega arith)) (stair_roots (λ p. 5))) end_roots)

vector_total : Total vector
vector_total = vec_total both_total

vector_keeps : Keeps vector (vec_sound both both_sound)
vector_keeps = vec_keeps both_total both_keeps

vector_roots : Roots vector (vec_sound both both_sound) (λ q. vec_short (both_short q) (both_stated q) 2) (vec_growth (λ q. q) (λ q. 1) (λ q. 2) both_stated both_short both_growth) (λ q. vec_stated (both_stated q) 2)
vector_roots = vec_roots (λ q. q) (λ q. 1) (λ q. 2) (λ q. (omega arith, omega arith)) both_roots
