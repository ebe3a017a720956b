-- Worked examples of Just, Fuse, NoShrink, Filter and FilterMap, computed from the definitions alone; and a pile of them.

use Rattle.std.proofs.Common.{◌≡◌, ℕ, ◌+◌, ◌/◌, ◌%◌, Bool, true, false, cond, eqb, List, [], ◌∷◌, Some, None, Ok, Err, Option, refl}
use Rattle.draws.specs.Runners.{RunnerState}
use Rattle.draws.specs.Sources.{TapeState, tape_words}
use Rattle.draws.specs.declared.faults.DrawFault.TheVariants.{Spent}
use Rattle.draws.specs.declared.faults.RejectFault.TheVariants.{NoneLeft}
use Rattle.meaning.specs.Trees.{Steps, meant, Total, Keeps}
use Rattle.meaning.specs.Places.{Place}
use Rattle.meaning.specs.Growths.{Outcome, Growth, Roots, too_few_slots, spent, none_left}
use Rattle.meaning.specs.Stairs.{StairTree, stair_steps, stair_growth}
use Rattle.meaning.specs.StairLaws.{stair_total, stair_keeps, stair_roots}
use Rattle.meaning.specs.Tables.{slice_table, slice_growth, slice_short, slice_stated}
use Rattle.meaning.specs.Vectors.{VecTree, vec_blank, vec_steps, vec_growth}
use Rattle.meaning.specs.Justs.{just_steps, just_growth}
use Rattle.meaning.specs.Fuses.{FuseTree, fuse_steps, disallow_simplify, disallow_complicate, freeze, fuse_growth, fuse_short, fuse_sound}
use Rattle.meaning.specs.NoShrinks.{no_shrink_steps}
use Rattle.meaning.specs.Sifters.{settled}
use Rattle.meaning.specs.Filters.{FilterTree, filter_steps, filter_growth, filter_short, filter_sound}
use Rattle.meaning.specs.FilterMaps.{FilterMapTree, filter_map_steps, filter_map_growth, filter_map_short, filter_map_sound}
use Rattle.meaning.proofs.FuseLaws.{fuse_total, fuse_keeps, fuse_roots}
use Rattle.meaning.proofs.FilterLaws.{filter_total, filter_keeps, filter_roots}
use Rattle.meaning.proofs.FilterMapLaws.{filter_map_total, filter_map_keeps, filter_map_roots}

-- a tape from its first word, with so many rejections
abbrev runner : List ℕ → ℕ → RunnerState TapeState
runner words rejections = record { source = record { words = words; place = 0 }; cases = 0; regenerations = 0; rejections = rejections }

-- growing by the one strategy there is
abbrev grow : {S : Type 0} → Growth (Unit {0}) S → List ℕ → ℕ → S → Outcome TapeState S
grow g words rejections place = g tt TapeState tape_words (runner words rejections) place

-- steps by their letters: true for simplify, false for complicate
abbrev steps : {S I : Type 0} → Steps S I → List Bool → S → S
steps t [] s = s
steps t (true ∷ more) s = steps t more (t.simplify s).tree
steps t (false ∷ more) s = steps t more (t.complicate s).tree

abbrev stair : ℕ → Place StairTree
stair v = record { grown = true; tree = record { value = v; floor = 0; note = None } }

abbrev blank : Place StairTree
blank = record { grown = false; tree = record { value = 0; floor = 0; note = None } }

-- Just
abbrev seven : Outcome TapeState (Place ℕ)
seven = grow (just_growth (λ p. 7)) [] 0 (record { grown = false; tree = 1 })

just_grown : (seven.answer ≡ Ok tt) × (meant just_steps seven.place ≡ record { candidate = 7 ∷ []; home = 7 ∷ []; back = 0 }) × (just_steps.longest seven.place ≡ 1)
just_grown = (refl, refl, refl)

just_rests : ((just_steps.simplify seven.place).answer ≡ false) × ((just_steps.complicate seven.place).answer ≡ false)
just_rests = (refl, refl)

just_blank : (just_steps {I = ℕ}).candidate (record { grown = false; tree = 1 }) ≡ []
just_blank = refl

-- Fuse, over a stair
abbrev fuse : Steps (FuseTree (Place StairTree)) ℕ
fuse = fuse_steps stair_steps

abbrev fused : ℕ → FuseTree (Place StairTree)
fused v = record { inner = stair v; may_simplify = true; may_complicate = false }

fuse_grown : (grow (fuse_growth (λ p. p) (stair_growth (λ p. 9))) (3 ∷ []) 0 (record { inner = blank; may_simplify = false; may_complicate = true })).place ≡ fused 3
fuse_grown = refl

fuse_down : meant fuse (steps fuse (true ∷ []) (fused 3)) ≡ record { candidate = 2 ∷ []; home = 3 ∷ []; back = 1 }
fuse_down = refl

-- a false is not asked for again
fuse_spent : steps fuse (true ∷ true ∷ []) (fused 1) ≡ record { inner = record { grown = true; tree = record { value = 0; floor = 0; note = Some 1 } }; may_simplify = false; may_complicate = true }
fuse_spent = refl

-- nor is complicate, once it is back; simplify may be asked again from there
fuse_back : steps fuse (true ∷ false ∷ false ∷ []) (fused 3) ≡ record { inner = record { grown = true; tree = record { value = 3; floor = 3; note = None } }; may_simplify = true; may_complicate = false }
fuse_back = refl

-- the candidate is made the home, and simplify opens the way back again
fuse_settles : (meant fuse (disallow_complicate (steps fuse (true ∷ []) (fused 3))) ≡ record { candidate = 2 ∷ []; home = 2 ∷ []; back = 0 })
    × (meant fuse (steps fuse (true ∷ []) (disallow_complicate (steps fuse (true ∷ []) (fused 3)))) ≡ record { candidate = 1 ∷ []; home = 2 ∷ []; back = 1 })
fuse_settles = (refl, refl)

-- no simplify, until complicate answers true
fuse_waits : ((fuse.simplify (disallow_simplify (steps fuse (true ∷ []) (fused 3)))).answer ≡ false)
    × ((steps fuse (false ∷ []) (disallow_simplify (steps fuse (true ∷ []) (fused 3)))).may_simplify ≡ true)
fuse_waits = (refl, refl)

fuse_frozen : ((fuse.simplify (freeze (steps fuse (true ∷ []) (fused 3)))).answer ≡ false) × ((fuse.complicate (freeze (steps fuse (true ∷ []) (fused 3)))).answer ≡ false)
fuse_frozen = (refl, refl)

-- NoShrink, over a stair that has gone down
no_shrink_rests : (meant (no_shrink_steps stair_steps) (steps stair_steps (true ∷ []) (stair 3)) ≡ record { candidate = 2 ∷ []; home = 2 ∷ []; back = 0 })
    × (((no_shrink_steps stair_steps).complicate (steps stair_steps (true ∷ []) (stair 3))).answer ≡ false)
no_shrink_rests = (refl, refl)

-- Filter: stairs and vectors of stairs whose numbers have an even sum
abbrev sum : List ℕ → ℕ
sum [] = 0
sum (n ∷ ns) = n + sum ns

abbrev even : List ℕ → Bool
even ns = eqb (sum ns % 2) 0

abbrev anything : List ℕ → Bool
anything ns = true

abbrev even_stair : List ℕ → ℕ → Outcome TapeState (FilterTree (Place StairTree) ℕ)
even_stair words rejections = grow (filter_growth stair_steps (λ p. p) (λ p. even) (stair_growth (λ p. 9))) words rejections (record { source = blank; fun = anything })

-- the second try is accepted, and used the one rejection
filter_grown : even_stair (3 ∷ 4 ∷ []) 1 ≡ record { answer = Ok tt; runner = record { source = record { words = 3 ∷ 4 ∷ []; place = 2 }; cases = 0; regenerations = 0; rejections = 0 }; place = record { source = stair 4; fun = even } }
filter_grown = refl

-- with none left the first rejection is refused, and the place is blank
filter_gives_up : ((even_stair (3 ∷ 4 ∷ []) 0).answer ≡ Err (none_left NoneLeft)) × ((even_stair (3 ∷ 4 ∷ []) 0).runner.source.place ≡ 1) × ((filter_steps stair_steps).grown (even_stair (3 ∷ 4 ∷ []) 0).place ≡ false)
filter_gives_up = (refl, refl, refl)

-- the tape is spent at the second try, and its rejection stays used
filter_spent : ((even_stair (3 ∷ []) 5).answer ≡ Err (spent Spent)) × ((even_stair (3 ∷ []) 5).runner.rejections ≡ 4)
filter_spent = (refl, refl)

-- a step that came all the way back answers true; the stair, whose floor is now there, then rests
filter_comes_back : (((filter_steps stair_steps).simplify (record { source = stair 4; fun = even })).answer ≡ true)
    × (meant (filter_steps stair_steps) (steps (filter_steps stair_steps) (true ∷ []) (record { source = stair 4; fun = even })) ≡ record { candidate = 4 ∷ []; home = 4 ∷ []; back = 0 })
    × (((filter_steps stair_steps).simplify (steps (filter_steps stair_steps) (true ∷ []) (record { source = stair 4; fun = even }))).answer ≡ false)
filter_comes_back = (refl, refl, refl)

-- with no step back left, settling still asks the rule and complicate once
settles_last : settled fuse (λ ns. false) (record { inner = stair 3; may_simplify = true; may_complicate = true }) ≡ fused 3
settles_last = refl

abbrev Vector : Type 0
Vector = Place (VecTree (List (Place StairTree)))

abbrev vector : Steps Vector ℕ
vector = vec_steps (slice_table stair_steps)

abbrev even_vector : ℕ → List ℕ → Outcome TapeState (FilterTree Vector ℕ)
even_vector high words = grow
    (filter_growth vector (λ p. p) (λ p. even) (vec_growth {P = Unit {0}} (λ p. p) (λ p. 1) (λ p. high) (slice_stated (λ p. p) (λ p. 1)) (slice_short (λ p. p) (λ p s. false)) (slice_growth (λ p. p) (stair_growth (λ p. 9)))))
    words 0 (record { source = vec_blank (blank ∷ blank ∷ blank ∷ []); fun = anything })

-- deleting 5 or 7 leaves an odd sum, so both come back; deleting 4 does not
filter_deletes : meant (filter_steps vector) (steps (filter_steps vector) (true ∷ true ∷ true ∷ []) (even_vector 3 (2 ∷ 5 ∷ 7 ∷ 4 ∷ [])).place) ≡ record { candidate = 5 ∷ 7 ∷ []; home = 5 ∷ 7 ∷ 4 ∷ []; back = 1 }
filter_deletes = refl

-- too few slots: neither the rule nor the source nor the tape changes
filter_too_few : even_vector 4 (2 ∷ 5 ∷ 7 ∷ 4 ∷ []) ≡ record { answer = Err too_few_slots; runner = runner (2 ∷ 5 ∷ 7 ∷ 4 ∷ []) 0; place = record { source = vec_blank (blank ∷ blank ∷ blank ∷ []); fun = anything } }
filter_too_few = refl

-- FilterMap: whether half of an even number is even; none for an odd one
abbrev half_is_even : List ℕ → Option Bool
half_is_even [] = None
half_is_even (n ∷ ns) = cond (eqb (n % 2) 0) (Some (eqb ((n / 2) % 2) 0)) None

abbrev halved : List ℕ → ℕ → Outcome TapeState (FilterMapTree (Place StairTree) ℕ Bool)
halved words rejections = grow (filter_map_growth stair_steps (λ p. p) (λ p. half_is_even) (stair_growth (λ p. 9))) words rejections (record { source = blank; fun = λ ns. Some true })

filter_map_grown : (meant (filter_map_steps stair_steps) (halved (7 ∷ 6 ∷ []) 1).place ≡ record { candidate = false ∷ []; home = false ∷ []; back = 0 }) × ((filter_map_steps stair_steps).longest (halved (7 ∷ 6 ∷ []) 1).place ≡ 1)
filter_map_grown = (refl, refl)

filter_map_comes_back : (((filter_map_steps stair_steps).simplify (halved (6 ∷ []) 0).place).answer ≡ true) × ((filter_map_steps stair_steps).candidate (steps (filter_map_steps stair_steps) (true ∷ []) (halved (6 ∷ []) 0).place) ≡ false ∷ [])
filter_map_comes_back = (refl, refl)

-- a blank one shows nothing, whatever its map gives for the empty list
filter_map_blank : ((filter_map_steps stair_steps).candidate (halved [] 0).place ≡ []) × ((filter_map_steps stair_steps).longest (halved [] 0).place ≡ 0) × ((halved [] 0).place.fun [] ≡ Some true)
filter_map_blank = (refl, refl, refl)

-- the laws of a pile, one upon the other: the half of a number of a fused stair that a rule accepts
pile_total : Total (filter_map_steps {J = Bool} (filter_steps fuse))
pile_total = filter_map_total (filter_total (fuse_total stair_total))

pile_keeps : Keeps (filter_map_steps {J = Bool} (filter_steps fuse)) (filter_map_sound (filter_steps fuse) (filter_sound fuse (fuse_sound (λ s. Unit {0}))))
pile_keeps = filter_map_keeps (filter_total (fuse_total stair_total)) (filter_keeps (fuse_keeps stair_keeps))

pile_roots : {P : Type 0} (limit : P → ℕ) → Roots (filter_map_steps (filter_steps fuse)) (filter_map_sound (filter_steps fuse) (filter_sound fuse (fuse_sound (λ s. Unit {0}))))
    (filter_map_short (λ p. p) (filter_short (λ p. p) (fuse_short (λ p. p) (λ p s. false))))
    (filter_map_growth (filter_steps fuse) (λ p. p) (λ p. half_is_even) (filter_growth fuse (λ p. p) (λ p. even) (fuse_growth (λ p. p) (stair_growth limit)))) (λ p. 1)
pile_roots limit = filter_map_roots (λ p. p) (λ p. half_is_even) (filter_total (fuse_total stair_total)) (filter_roots (λ p. p) (λ p. even) (fuse_total stair_total) (fuse_roots (λ p. p) (stair_roots limit)))
