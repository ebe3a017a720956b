use Rattle.std.proofs.Common.{◌≡◌, ℕ, zero, suc, ◌<◌, ◌≤◌, Bool, true, false, cond, ◌||◌, List, [], ◌∷◌, map, length, take, refl, ◌∙◌, arith, rules}
use borrow.Author.Tests.{tests}
use Rattle.std.specs.List.{list_any}
use Rattle.std.proofs.lemmas.Iterator.{YieldsList-from_slice}
use Rattle.std.proofs.lemmas.Iterator.Search.{any_from_yields_List}
use Rattle.std.proofs.lemmas.Slice.{between_from_start}
use Rattle.meaning.specs.Tables.{lacking}
use Rattle.tables.proofs.slice_table.SliceStrategyTableStrategy.lacks_slots.Goals as goal

or_else : (b : Bool) {l m : Bool} → l ≡ m → (b || l) ≡ cond b true m
or_else true e = refl
or_else false e = e

lacks_else : (b : Bool) {l : Bool} → true ≡ l → true ≡ cond b true l
lacks_else true e = refl
lacks_else false e = e

-- there are fewer slots than n, or one of the first n says so
module _ {Y S : Type 0} (state : Y → S) (short : S → Bool) where
  lacking_few : (n : ℕ) (xs : List Y) → length xs < n → true ≡ lacking short n (map state xs)
  lacking_few zero xs h = absurd (omega (arith, h))
  lacking_few (suc n) [] h = refl
  lacking_few (suc n) (x ∷ xs) h = lacks_else (short (state x)) (lacking_few n xs (omega (arith, h)))

  lacking_among : (n : ℕ) (xs : List Y) → n ≤ length xs → list_any (λ x. short (state x)) (take n xs) ≡ lacking short n (map state xs)
  lacking_among zero xs h = refl
  lacking_among (suc n) [] h = absurd (omega (arith, h))
  lacking_among (suc n) (x ∷ xs) h = or_else (short (state x)) (lacking_among n xs (omega (arith, h)))

pub returns-in_default : goal.returns-in_default
returns-in_default g c =
    let none = c.in_default.ensures.lookup.0 in
    lacking_few g.S.Tree.ValueTree.state (g.S.Tree.ValueTree.short c.args.self.now.element) c.args.n c.args.table.now.slots.now (omega (arith, none))

pub returns : goal.returns
returns g c =
    let slots = c.args.table.now.slots.now in
    let first = c.in-Some.ensures.lookup.0.2 ∙ between_from_start slots c.args.n in
    any_from_yields_List (λ x. g.S.Tree.ValueTree.short c.args.self.now.element (g.S.Tree.ValueTree.state x)) _ _ c.any.result c.any.ensures.ran (YieldsList-from_slice (take c.args.n slots) (search (rules, first))) (λ x b q k. search (rules, tests))
    ∙ lacking_among g.S.Tree.ValueTree.state (g.S.Tree.ValueTree.short c.args.self.now.element) c.args.n slots c.in-Some.ensures.lookup.0.1
