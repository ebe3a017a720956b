-- Filter: a tree that shows only candidates that its rule accepts.
--   FilterTree     a source and a rule
--   filter_steps   the steps of the source, each settled by the rule where it answered true
--   filter_growth  growing until the rule accepts a candidate; an accepted growth takes the strategy's rule
--   filter_short   whether the source has too few slots
--   filter_sound   the source is sound, and the rule accepts its candidate and its home

use Rattle.std.specs.Prelude.{Bool, List}
use Rattle.meaning.specs.Trees.{Steps}
use Rattle.meaning.specs.Growths.{Growth}
use Rattle.meaning.specs.Sifters.{Sifter, sifter_steps, sifter_growth, sifter_short, sifter_sound}

abbrev pub FilterTree : Type 0 → Type 0 → Type 0
FilterTree S I = Sifter S (List I → Bool)

abbrev pub filter_steps : {S I : Type 0} → Steps S I → Steps (FilterTree S I) I
filter_steps t = sifter_steps t (λ rule. rule)

abbrev pub filter_growth : {S I P Q : Type 0} → Steps S I → (Q → P) → (Q → List I → Bool) → Growth P S → Growth Q (FilterTree S I)
filter_growth t under rule g = sifter_growth t (λ rule. rule) under rule g

abbrev pub filter_short : {S I P Q : Type 0} → (Q → P) → (P → S → Bool) → Q → FilterTree S I → Bool
filter_short under short = sifter_short under short

abbrev pub filter_sound : {S I : Type 0} → Steps S I → (S → Type 0) → FilterTree S I → Type 0
filter_sound t sound = sifter_sound t (λ rule. rule) sound
