-- The laws of FilterMap, from those of its source.
--   filter_map_total   at every state
--   filter_map_keeps   where its map gives an item for its source's candidate and home, which its steps keep so
--   filter_map_roots   growth gives a tree that shows an item that the strategy's map gives, and states the longest 1
--   filter_map_shows   a grown tree that is sound shows one item, the one that its map gives

use Rattle.std.proofs.Common.{◌≡◌, ℕ, ◌≤◌, Bool, true, false, cond, List, length, is_some, Some, None, Option, sym, refl, ap, subst, true≢false, le_refl, arith}
use Rattle.std.proofs.Math.Logic.{⊎_map}
use Rattle.meaning.specs.Trees.{Steps, Meant, meant, Simplifies, Complicates, Total, Keeps}
use Rattle.meaning.specs.Growths.{Growth, Roots}
use Rattle.meaning.specs.Sifters.{sifter_steps}
use Rattle.meaning.specs.FilterMaps.{FilterMapTree, given, has_item, mapped, filter_map_steps, filter_map_growth, filter_map_short, filter_map_sound}
use Rattle.meaning.proofs.SifterLaws.{sifter_total, sifter_keeps, sifter_roots}

pub filter_map_total : {S I J : Type 0} {t : Steps S I} → Total t → Total (filter_map_steps {J = J} t)
filter_map_total {t} total = let sifter = sifter_total has_item total in record {
  ends = sifter.ends;
  simplify_grown = sifter.simplify_grown;
  complicate_grown = sifter.complicate_grown;
  blank = λ s e. let blank = sifter.blank s e in record {
    shows_none = rw e;
    home_none = rw e;
    no_back = blank.no_back;
    no_longest = rw e;
    no_simplify = blank.no_simplify;
    no_complicate = blank.no_complicate;
  };
  blanks = sifter.blanks;
}

given_fits : {J : Type 0} (item : Option J) → length (given item) ≤ 1
given_fits None = omega arith
given_fits (Some item) = le_refl 1

mapped_fits : {I J : Type 0} (grown : Bool) (map : List I → Option J) (items : List I) → length (mapped grown map items) ≤ cond grown 1 0
mapped_fits true map items = given_fits (map items)
mapped_fits false map items = le_refl 0

-- a step keeps its meaning where every list is seen through a function
module _ {I J : Type 0} (view : List I → List J) where
  abbrev viewed : Meant I → Meant J
  viewed m = record { candidate = view m.candidate; home = view m.home; back = m.back }

  viewed_simplifies : (before now : Meant I) (answer : Bool) → Simplifies before answer now → Simplifies (viewed before) answer (viewed now)
  viewed_simplifies before now true home = ap view home
  viewed_simplifies before now false (shown, home) = (ap view shown, ⊎_map (ap view) (ap view) home)

  viewed_complicates : (before now : Meant I) (answer : Bool) → Complicates before answer now → Complicates (viewed before) answer (viewed now)
  viewed_complicates before now true (home, falls) = (ap view home, falls)
  viewed_complicates before now false (shown, home, at_home, falls) = (ap view shown, ap view home, ap view at_home, falls)

pub filter_map_keeps : {S I J : Type 0} {t : Steps S I} {sound : S → Type 0} → Total t → Keeps t sound → Keeps (filter_map_steps {J = J} t) (filter_map_sound t sound)
filter_map_keeps {S} {I} {J} {t} total keeps = record {
  fits = λ s is_sound. mapped_fits (t.grown s.source) s.fun (t.candidate s.source);
  simplify = λ s is_sound.
      let step = sifter.simplify s in
      let (now-sound, means, longest) = (sifter_keeps has_item keeps).simplify s is_sound in
      let same = (sifter_total has_item total).simplify_grown s in
      (now-sound, subst (λ grown. Simplifies (meant shown s) step.answer (seen grown step.tree)) (sym same) (viewed_simplifies (view s) (meant sifter s) (meant sifter step.tree) step.answer means), ap (λ grown. cond grown 1 0) same);
  complicate = λ s is_sound.
      let step = sifter.complicate s in
      let (now-sound, means, longest) = (sifter_keeps has_item keeps).complicate s is_sound in
      let same = (sifter_total has_item total).complicate_grown s in
      (now-sound, subst (λ grown. Complicates (meant shown s) step.answer (seen grown step.tree)) (sym same) (viewed_complicates (view s) (meant sifter s) (meant sifter step.tree) step.answer means), ap (λ grown. cond grown 1 0) same);
}
  where
    sifter : Steps (FilterMapTree S I J) I
    sifter = sifter_steps t has_item

    shown : Steps (FilterMapTree S I J) J
    shown = filter_map_steps t

    view : FilterMapTree S I J → List I → List J
    view s = mapped (t.grown s.source) s.fun

    seen : Bool → FilterMapTree S I J → Meant J
    seen grown s = viewed (mapped grown s.fun) (meant sifter s)

pub filter_map_roots : {S I J P Q : Type 0} {t : Steps S I} {sound : S → Type 0} {short : P → S → Bool} {g : Growth P S} {stated : P → ℕ} (under : Q → P) (map : Q → List I → Option J) → Total t →
    Roots t sound short g stated → Roots (filter_map_steps t) (filter_map_sound t sound) (filter_map_short under short) (filter_map_growth t under map g) (λ q. 1)
filter_map_roots {t} under map total roots = sifter_roots (filter_map_steps t) (λ s. refl) (λ s. refl) map has_item under (λ q. 1) total roots
    (λ q x rooted states. (
      record { is_sound = rooted.is_sound; is_grown = rooted.is_grown; at_home = ap (mapped (t.grown x) (map q)) rooted.at_home; no_back = rooted.no_back },
      ap (λ grown. cond grown 1 0) rooted.is_grown,
    ))

one_given : {J : Type 0} (item : Option J) → is_some item ≡ true → length (given item) ≡ 1
one_given None e = absurd (true≢false (sym e))
one_given (Some item) e = refl

pub filter_map_shows : {S I J : Type 0} (t : Steps S I) (sound : S → Type 0) (s : FilterMapTree S I J) → filter_map_sound t sound s → t.grown s.source ≡ true →
    (let shown : List J = (filter_map_steps t).candidate s in (shown ≡ given (s.fun (t.candidate s.source))) × (length shown ≡ 1))
filter_map_shows t sound s is_sound is_grown = rw is_grown (refl, one_given (s.fun (t.candidate s.source)) is_sound.candidate)
