-- A table of nested pairs: trees of kinds that may differ, with one type of items.
--   Pair         a first tree, and the table of the rest
--   Part         a part of a whole: how it is read off, and how another is put in its place
--   part_steps   the steps of a part, as steps of the whole
--   no_trees     the table with no tree, in which nested pairs end: every number is blank
--   pair_table   number 0 is the first tree, and number i + 1 is number i of the rest
--   pair_growth  every tree grows by a strategy of its own, in its place in the pairs
--   pair_short   whether there are fewer than n trees, or one of the first n has too few slots of its own
--   pair_stated  the longest of the first n trees together
--   pair_sound   what holds of tree number i where it is sound
--   end_growth, end_short, end_stated, end_sound   the same for the end: it has no slot, states nothing, and nothing is sound

use Rattle.std.specs.Prelude.{ℕ, zero, suc, ◌+◌, Bool, true, false, cond, []}
use Rattle.meaning.specs.Trees.{Stepped, stays, Steps}
use Rattle.meaning.specs.Growths.{Outcome, Growth}
use Rattle.meaning.specs.GrowthLaws.{no_slots}
use Rattle.meaning.specs.Tables.{TableGrowth}

pub record Pair (S T : Type 0) : Type 0 where
  pub first : S
  pub rest : T

pub record Part (W S : Type 0) : Type 0 where
  pub get : W → S
  pub put : W → S → W

abbrev pub first_part : {S T : Type 0} → Part (Pair S T) S
first_part = record { get = λ p. p.first; put = λ p s. record { first = s; rest = p.rest } }

abbrev pub rest_part : {S T : Type 0} → Part (Pair S T) T
rest_part = record { get = λ p. p.rest; put = λ p t. record { first = p.first; rest = t } }

-- a step of a part changes nothing else of the whole
abbrev pub part_step : {W S : Type 0} → Part W S → W → Stepped S → Stepped W
part_step part w s = record { answer = s.answer; tree = part.put w s.tree }

abbrev pub part_steps : {W S I : Type 0} → Part W S → Steps S I → Steps W I
part_steps part t = record {
  grown = λ w. t.grown (part.get w);
  candidate = λ w. t.candidate (part.get w);
  home = λ w. t.home (part.get w);
  back = λ w. t.back (part.get w);
  longest = λ w. t.longest (part.get w);
  blank = λ w. part.put w (t.blank (part.get w));
  simplify = λ w. part_step part w (t.simplify (part.get w));
  complicate = λ w. part_step part w (t.complicate (part.get w));
}

abbrev pub no_trees : {I : Type 0} → ℕ → Steps (Unit {0}) I
no_trees i = record {
  grown = λ s. false;
  candidate = λ s. [];
  home = λ s. [];
  back = λ s. 0;
  longest = λ s. 0;
  blank = λ s. s;
  simplify = stays;
  complicate = stays;
}

abbrev pub pair_table : {S T I : Type 0} → Steps S I → (ℕ → Steps T I) → ℕ → Steps (Pair S T) I
pair_table t table zero = part_steps first_part t
pair_table t table (suc i) = part_steps rest_part (table i)

-- growing a part changes nothing else of the whole
abbrev pub part_outcome : {X W S : Type 0} → Part W S → W → Outcome X S → Outcome X W
part_outcome part w o = record { answer = o.answer; runner = o.runner; place = part.put w o.place }

abbrev pub end_growth : {P : Type 0} → TableGrowth P (Unit {0})
end_growth p X w i r s = no_slots r s

abbrev pub pair_growth : {S T P R Q : Type 0} → (first : Q → P) (rest : Q → R) → Growth P S → TableGrowth R T → TableGrowth Q (Pair S T)
pair_growth first rest g growths q X w zero r p = part_outcome first_part p (g (first q) X w r p.first)
pair_growth first rest g growths q X w (suc i) r p = part_outcome rest_part p (growths (rest q) X w i r p.rest)

abbrev pub end_short : {P : Type 0} → P → ℕ → Unit {0} → Bool
end_short p zero s = false
end_short p (suc n) s = true

abbrev pub pair_short : {S T P R Q : Type 0} → (first : Q → P) (rest : Q → R) → (P → S → Bool) → (R → ℕ → T → Bool) → Q → ℕ → Pair S T → Bool
pair_short first rest short shorts q zero p = false
pair_short first rest short shorts q (suc n) p = cond (short (first q) p.first) true (shorts (rest q) n p.rest)

abbrev pub end_stated : {P : Type 0} → P → ℕ → ℕ
end_stated p n = 0

abbrev pub pair_stated : {P R Q : Type 0} → (first : Q → P) (rest : Q → R) → (P → ℕ) → (R → ℕ → ℕ) → Q → ℕ → ℕ
pair_stated first rest stated stateds q zero = 0
pair_stated first rest stated stateds q (suc n) = stated (first q) + stateds (rest q) n

abbrev pub end_sound : ℕ → Unit {0} → Type 0
end_sound i s = ⊥

abbrev pub pair_sound : {S T : Type 0} → (S → Type 0) → (ℕ → T → Type 0) → ℕ → Pair S T → Type 0
pair_sound sound sounds zero p = sound p.first
pair_sound sound sounds (suc i) p = sounds i p.rest
