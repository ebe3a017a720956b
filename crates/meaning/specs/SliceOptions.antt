-- A slice of lazy options of one kind, each with a strategy of its own: strategies are given by number.
--   slice_start             option number i started
--   slice_options_short     whether there are fewer than n slots, or one of the first n has too few for its strategy
--   slice_options_growth    option number i grows by strategy number i, in its slot
--   slice_options_wait      it waits likewise
--   slice_options_stated    what strategy number i states
--   slice_options_sound     the option in slot number i is sound, with a limit on what it states

use Rattle.std.specs.Prelude.{ℕ, zero, suc, Bool, true, false, cond, List, [], ◌∷◌}
use Rattle.meaning.specs.Trees.{Steps}
use Rattle.meaning.specs.Growths.{Growth}
use Rattle.meaning.specs.Tables.{change_at, grow_at, TableGrowth}
use Rattle.meaning.specs.TableLaws.{Slot, Limited}
use Rattle.meaning.specs.Lazies.{Lazy, lazy_start, lazy_short, lazy_growth, lazy_wait, TableWait}
use Rattle.meaning.specs.LazyLaws.{lazy_sound}

abbrev pub slice_start : {S : Type 0} → ℕ → List (Lazy S) → List (Lazy S)
slice_start i xs = change_at lazy_start xs i

abbrev pub lacking_by_number : {S : Type 0} → (ℕ → S → Bool) → ℕ → List S → Bool
lacking_by_number short zero xs = false
lacking_by_number short (suc n) [] = true
lacking_by_number short (suc n) (x ∷ xs) = cond (short 0 x) true (lacking_by_number (λ i. short (suc i)) n xs)

abbrev pub slice_options_short : {S P Q : Type 0} → (Q → ℕ → P) → (P → S → Bool) → Q → ℕ → List (Lazy S) → Bool
slice_options_short number short q n xs = lacking_by_number (λ i. lazy_short short (number q i)) n xs

abbrev pub slice_options_growth : {S P Q : Type 0} → (Q → ℕ → P) → (P → S → Bool) → Growth P S → TableGrowth Q (List (Lazy S))
slice_options_growth number short g q X w i = grow_at (lazy_growth short g (number q i) X w) i

abbrev pub slice_options_wait : {S P Q : Type 0} → (Q → ℕ → P) → Growth P S → TableWait Q (List (Lazy S))
slice_options_wait number g q X w i r xs = change_at (lazy_wait g (number q i) X w r) xs i

abbrev pub slice_options_stated : {P Q : Type 0} → (Q → ℕ → P) → (P → ℕ) → Q → ℕ → ℕ
slice_options_stated number stated q i = stated (number q i)

abbrev pub slice_options_sound : {S I : Type 0} → Steps S I → (S → Type 0) → ℕ → ℕ → List (Lazy S) → Type 0
slice_options_sound t sound limit = Slot (lazy_sound (Limited t sound limit))
