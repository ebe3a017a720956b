-- FilterMap: a tree that shows the one item that its map gives for the candidate of its source.
--   FilterMapTree      a source and a map from lists to an item or none
--   given              the list of the item that a map gave, empty where it gave none
--   has_item           the rule that it settles by: the map gives an item
--   mapped             what is shown for a list of the source: what the map gives; nothing where the tree is blank
--   filter_map_steps   the steps of the source, each settled by that rule where it answered true
--   filter_map_growth  growing until the map gives an item; an accepted growth takes the strategy's map
--   filter_map_short   whether the source has too few slots
--   filter_map_sound   the source is sound, and the map gives an item for its candidate and for its home

use Rattle.std.specs.Prelude.{Bool, cond, List, [], ◌∷◌, is_some, Some, None, Option}
use Rattle.meaning.specs.Trees.{Steps}
use Rattle.meaning.specs.Growths.{Growth}
use Rattle.meaning.specs.Sifters.{Sifter, sifter_steps, sifter_growth, sifter_short, sifter_sound}

abbrev pub FilterMapTree : Type 0 → Type 0 → Type 0 → Type 0
FilterMapTree S I J = Sifter S (List I → Option J)

abbrev pub given : {J : Type 0} → Option J → List J
given None = []
given (Some item) = item ∷ []

abbrev pub has_item : {I J : Type 0} → (List I → Option J) → List I → Bool
has_item map items = is_some (map items)

abbrev pub mapped : {I J : Type 0} → Bool → (List I → Option J) → List I → List J
mapped grown map items = cond grown (given (map items)) []

abbrev pub filter_map_steps : {S I J : Type 0} → Steps S I → Steps (FilterMapTree S I J) J
filter_map_steps t = record {
  grown = λ s. t.grown s.source;
  candidate = λ s. mapped (t.grown s.source) s.fun (t.candidate s.source);
  home = λ s. mapped (t.grown s.source) s.fun (t.home s.source);
  back = λ s. t.back s.source;
  longest = λ s. cond (t.grown s.source) 1 0;
  blank = (sifter_steps t has_item).blank;
  simplify = (sifter_steps t has_item).simplify;
  complicate = (sifter_steps t has_item).complicate;
}

abbrev pub filter_map_growth : {S I J P Q : Type 0} → Steps S I → (Q → P) → (Q → List I → Option J) → Growth P S → Growth Q (FilterMapTree S I J)
filter_map_growth t under map g = sifter_growth t has_item under map g

abbrev pub filter_map_short : {S I J P Q : Type 0} → (Q → P) → (P → S → Bool) → Q → FilterMapTree S I J → Bool
filter_map_short under short = sifter_short under short

abbrev pub filter_map_sound : {S I J : Type 0} → Steps S I → (S → Type 0) → FilterMapTree S I J → Type 0
filter_map_sound t sound = sifter_sound t has_item sound
