-- What sets show, each told of a grown place and of a blank one.
--   by_place           what holds of both holds of every place
--   set_shows_enough   a sound set that is grown shows its fewest members, or more
--   simplify_minimum, complicate_minimum   no step changes how many those are
--   set_shows_once     a sound set shows no item twice
--   set_shows_fitting  a set shows items that fit, where its numbers name such items
--   simplify_names, complicate_names   they go on to do so

use Rattle.std.proofs.Common.{◌≡◌, ℕ, suc, ◌+◌, ◌<◌, ◌≤◌, Bool, true, false, List, [], ◌∷◌, length, set, Some, None, Option, refl, le_refl, arith, length-set}
use Rattle.std.proofs.lemmas.Bool.{false≢true}
use Rattle.std.specs.List.{AllByRecursion}
use Rattle.meaning.specs.Trees.{Stepped}
use Rattle.meaning.specs.Places.{Place}
use Rattle.meaning.specs.PlaceLaws.{holding}
use Rattle.meaning.specs.Sets.{SetTree, set_complicate, set_steps}
use Rattle.meaning.specs.SetLaws.{Distinct, set_sound, Naming, Once}
use Rattle.meaning.specs.Vectors.{joined}
use Rattle.meaning.proofs.SetSteps.{named_length, simplified}

-- the items of the included numbers from i on
module _ {I : Type 0} (item : ℕ → I) where
  abbrev shown : ℕ → List Bool → List I
  shown = joined (λ i. item i ∷ [])

  shown_fit : (Fit : I → Type 0) (i : ℕ) (bs : List Bool) → ((j : ℕ) → i ≤ j → j < i + length bs → Fit (item j)) → AllByRecursion Fit (shown i bs)
  shown_fit Fit i [] fits = tt
  shown_fit Fit i (true ∷ bs) fits = (fits i (le_refl i) (omega arith), shown_fit Fit (suc i) bs (λ j from below. fits j (omega arith) (omega arith)))
  shown_fit Fit i (false ∷ bs) fits = shown_fit Fit (suc i) bs (λ j from below. fits j (omega arith) (omega arith))

  shown_once : (n i : ℕ) (bs : List Bool) → Distinct item n → i + length bs ≤ n → Once (shown i bs)
  shown_once n i [] distinct within = tt
  shown_once n i (true ∷ bs) distinct within = (
    shown_fit (λ y. y ≡ item i → ⊥) (suc i) bs (λ j from below same. let clash = distinct j i (omega arith) (omega arith) same in omega arith),
    shown_once n (suc i) bs distinct (omega arith),
  )
  shown_once n i (false ∷ bs) distinct within = shown_once n (suc i) bs distinct (omega arith)

pub by_place : {B : Type 0} (Holds : Place B → Type 0) → ((b : B) → Holds (holding b)) → ((b : B) → Holds (record { grown = false; tree = b })) → (p : Place B) → Holds p
by_place {B} Holds grown blank p = by p.grown p.tree
  where
    by : (is_grown : Bool) (b : B) → Holds (record { grown = is_grown; tree = b })
    by true b = grown b
    by false b = blank b

module _ {I : Type 0} where
  pub set_shows_enough : (s : Place (SetTree I)) → s.grown ≡ true → set_sound s → s.tree.min_count ≤ length (set_steps.candidate s)
  set_shows_enough = by_place (λ s. s.grown ≡ true → set_sound s → s.tree.min_count ≤ length (set_steps.candidate s))
      (λ s is_grown is_sound. let all = named_length s.item 0 s.included in omega arith)
      (λ s is_grown. absurd (false≢true is_grown))

  pub set_shows_once : (s : Place (SetTree I)) → set_sound s → Once (set_steps.candidate s)
  set_shows_once = by_place (λ s. set_sound s → Once (set_steps.candidate s)) (λ s is_sound. shown_once s.item (length s.included) 0 s.included is_sound.distinct (omega arith)) (λ s is_sound. tt)

  -- a step: the fewest members stay as they are
  complicated_minimum : (s : SetTree I) (last : Option ℕ) → (set_complicate s last).tree.min_count ≡ s.min_count
  complicated_minimum s None = refl
  complicated_minimum s (Some i) = refl

  pub simplify_minimum : (s : Place (SetTree I)) → (set_steps.simplify s).tree.tree.min_count ≡ s.tree.min_count
  simplify_minimum = by_place (λ s. (set_steps.simplify s).tree.tree.min_count ≡ s.tree.min_count)
      (λ s. simplified (λ (stepped : Stepped (SetTree I)). stepped.tree.min_count ≡ s.min_count) s (λ i more member. refl) (λ i. refl) refl)
      (λ s. refl)

  pub complicate_minimum : (s : Place (SetTree I)) → (set_steps.complicate s).tree.tree.min_count ≡ s.tree.min_count
  complicate_minimum = by_place (λ s. (set_steps.complicate s).tree.tree.min_count ≡ s.tree.min_count) (λ s. complicated_minimum s s.prev_shrink) (λ s. refl)

  module _ (Fit : I → Type 0) where
    -- a grown set
    abbrev Names : SetTree I → Type 0
    Names s = Naming Fit (holding s)

    pub set_shows_fitting : (s : Place (SetTree I)) → Naming Fit s → AllByRecursion Fit (set_steps.candidate s)
    set_shows_fitting = by_place (λ s. Naming Fit s → AllByRecursion Fit (set_steps.candidate s)) (λ s names. shown_fit s.item Fit 0 s.included (λ j from below. names j (omega arith))) (λ s names. tt)

    -- one number is included or not
    names_set : (s : SetTree I) (i : ℕ) (member : Bool) → Names s → (j : ℕ) → j < length (set s.included i member) → Fit (s.item j)
    names_set s i member names j below = names j (rw length-set at below)

    complicated_names : (s : SetTree I) (last : Option ℕ) → Names s → Names (set_complicate s last).tree
    complicated_names s None names = names
    complicated_names s (Some i) names = names_set s i true names

    pub simplify_names : (s : Place (SetTree I)) → Naming Fit s → Naming Fit (set_steps.simplify s).tree
    simplify_names = by_place (λ s. Naming Fit s → Naming Fit (set_steps.simplify s).tree)
        (λ s names. simplified (λ (stepped : Stepped (SetTree I)). Names stepped.tree) s (λ i more member. names_set s i false names) (λ i. names) names)
        (λ s names. tt)

    pub complicate_names : (s : Place (SetTree I)) → Naming Fit s → Naming Fit (set_steps.complicate s).tree
    complicate_names = by_place (λ s. Naming Fit s → Naming Fit (set_steps.complicate s).tree) (λ s. complicated_names s s.prev_shrink) (λ s names. tt)
