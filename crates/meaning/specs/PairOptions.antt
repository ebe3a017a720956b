-- Nested pairs of lazy options, of kinds that may differ. Their table, growth and slots are those of nested pairs of trees.
--   pair_start            the first option started, or number i of the rest
--   pair_wait             it waits likewise, each by a strategy of its own
--   pair_options_stated   what the strategy of option number i states
--   pair_options_sound    option number i is sound, with a limit on what it states
--   end_start, end_wait, end_options_stated, end_options_sound   the same for the end, which has no option

use Rattle.std.specs.Prelude.{ℕ, zero, suc}
use Rattle.meaning.specs.Trees.{Steps}
use Rattle.meaning.specs.Growths.{Growth}
use Rattle.meaning.specs.Lazies.{Lazy, lazy_start, lazy_wait, TableWait}
use Rattle.meaning.specs.TableLaws.{Limited}
use Rattle.meaning.specs.LazyLaws.{lazy_sound}
use Rattle.meaning.specs.Pairs.{Pair, first_part, rest_part, end_sound, pair_sound}

abbrev pub end_start : ℕ → Unit {0} → Unit {0}
end_start i s = s

abbrev pub pair_start : {S T : Type 0} → (ℕ → T → T) → ℕ → Pair (Lazy S) T → Pair (Lazy S) T
pair_start start zero p = first_part.put p (lazy_start p.first)
pair_start start (suc i) p = rest_part.put p (start i p.rest)

abbrev pub end_wait : {P : Type 0} → TableWait P (Unit {0})
end_wait p X w i r s = s

abbrev pub pair_wait : {S T P R Q : Type 0} → (first : Q → P) (rest : Q → R) → Growth P S → TableWait R T → TableWait Q (Pair (Lazy S) T)
pair_wait first rest g waits q X w zero r p = first_part.put p (lazy_wait g (first q) X w r p.first)
pair_wait first rest g waits q X w (suc i) r p = rest_part.put p (waits (rest q) X w i r p.rest)

abbrev pub end_options_stated : {P : Type 0} → P → ℕ → ℕ
end_options_stated p i = 0

abbrev pub pair_options_stated : {P R Q : Type 0} → (first : Q → P) (rest : Q → R) → (P → ℕ) → (R → ℕ → ℕ) → Q → ℕ → ℕ
pair_options_stated first rest stated stateds q zero = stated (first q)
pair_options_stated first rest stated stateds q (suc i) = stateds (rest q) i

abbrev pub end_options_sound : ℕ → ℕ → Unit {0} → Type 0
end_options_sound limit = end_sound

abbrev pub pair_options_sound : {S T I : Type 0} → Steps S I → (S → Type 0) → (ℕ → ℕ → T → Type 0) → ℕ → ℕ → Pair (Lazy S) T → Type 0
pair_options_sound t sound sounds limit = pair_sound (lazy_sound (Limited t sound limit)) (sounds limit)
