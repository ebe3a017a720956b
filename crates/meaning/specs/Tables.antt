-- A table of trees: a numbered list of trees. It is given by its trees' numbers, each as the steps of the whole table.
--   at            what f says of tree number i, or a default past the end
--   step_at       a step of tree number i, which changes no other; past the end it answers false
--   slice_table   the table of a slice that holds trees of one kind: its states are lists of theirs
--   TableGrowth   what a table's strategy P means: how tree number i grows, in its place in the table
--   slice_growth  the trees of a slice all grow by one strategy, each in its slot
--   slice_short   whether there are fewer than n slots, or one of the first n has too few slots of its own
--   slice_stated  the longest of n trees together

use Rattle.std.specs.Prelude.{ℕ, zero, suc, ◌*◌, Bool, true, false, cond, List, [], ◌∷◌, Err}
use Rattle.meaning.specs.Trees.{Stepped, Steps}
use Rattle.draws.specs.Sources.{Words}
use Rattle.meaning.specs.Growths.{Outcome, Grows, Growth, too_few_slots}

abbrev pub at : {S A : Type 0} → (S → A) → A → List S → ℕ → A
at f d [] i = d
at f d (x ∷ xs) zero = f x
at f d (x ∷ xs) (suc i) = at f d xs i

abbrev pub change_at : {S : Type 0} → (S → S) → List S → ℕ → List S
change_at f [] i = []
change_at f (x ∷ xs) zero = f x ∷ xs
change_at f (x ∷ xs) (suc i) = x ∷ change_at f xs i

abbrev pub step_at : {S : Type 0} → (S → Stepped S) → List S → ℕ → Stepped (List S)
step_at f xs i = record { answer = at (λ x. (f x).answer) false xs i; tree = change_at (λ x. (f x).tree) xs i }

abbrev pub slice_table : {S I : Type 0} → Steps S I → ℕ → Steps (List S) I
slice_table t i = record {
  grown = λ xs. at t.grown false xs i;
  candidate = λ xs. at t.candidate [] xs i;
  home = λ xs. at t.home [] xs i;
  back = λ xs. at t.back 0 xs i;
  longest = λ xs. at t.longest 0 xs i;
  blank = λ xs. change_at t.blank xs i;
  simplify = λ xs. step_at t.simplify xs i;
  complicate = λ xs. step_at t.complicate xs i;
}

abbrev pub beside : {X S : Type 0} → S → Outcome X (List S) → Outcome X (List S)
beside x o = record { answer = o.answer; runner = o.runner; place = x ∷ o.place }

abbrev pub in_front : {X S : Type 0} → Outcome X S → List S → Outcome X (List S)
in_front o xs = record { answer = o.answer; runner = o.runner; place = o.place ∷ xs }

abbrev pub grow_at : {X S : Type 0} → Grows X S → ℕ → Grows X (List S)
grow_at g i r [] = record { answer = Err too_few_slots; runner = r; place = [] }
grow_at g zero r (x ∷ xs) = in_front (g r x) xs
grow_at g (suc i) r (x ∷ xs) = beside x (grow_at g i r xs)

abbrev pub TableGrowth : Type 0 → Type 0 → Type 1
TableGrowth P T = P → (X : Type 0) → Words X → ℕ → Grows X T

abbrev pub slice_growth : {S P Q : Type 0} → (Q → P) → Growth P S → TableGrowth Q (List S)
slice_growth under g q X w i = grow_at (g (under q) X w) i

abbrev pub lacking : {S : Type 0} → (S → Bool) → ℕ → List S → Bool
lacking short zero xs = false
lacking short (suc n) [] = true
lacking short (suc n) (x ∷ xs) = cond (short x) true (lacking short n xs)

abbrev pub slice_short : {S P Q : Type 0} → (Q → P) → (P → S → Bool) → Q → ℕ → List S → Bool
slice_short under short q n xs = lacking (short (under q)) n xs

abbrev pub slice_stated : {P Q : Type 0} → (Q → P) → (P → ℕ) → Q → ℕ → ℕ
slice_stated under stated q n = n * stated (under q)
