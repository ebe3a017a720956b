-- The laws of nested pairs of lazy options, from those of the first option's tree and of the rest.
--   end_options_keep, end_options_root     of the table with no option
--   pair_options_keep, pair_options_root   of a pair

use Rattle.std.proofs.Common.{◌≡◌, ℕ, zero, suc, ◌+◌, ◌<◌, ◌≤◌, Bool, true, false, cond, Ok, sym, refl, ap, true≢false, le_refl, arith}
use Rattle.draws.specs.Sources.{Words}
use Rattle.draws.specs.Runners.{RunnerState}
use Rattle.meaning.specs.Trees.{Steps, Keeps}
use Rattle.meaning.specs.Growths.{Growth, Rooted, Roots}
use Rattle.meaning.specs.GrowthLaws.{accepted_is_no_fault}
use Rattle.meaning.specs.Tables.{TableGrowth}
use Rattle.meaning.specs.TableLaws.{Apart, TableRoots, together, Limited}
use Rattle.meaning.specs.Pairs.{Pair, first_part, rest_part, no_trees, pair_table, end_growth, pair_growth, end_short, pair_short, pair_stated, pair_sound}
use Rattle.meaning.specs.Lazies.{Lazy, lazy_steps, lazy_short, lazy_growth, TableWait}
use Rattle.meaning.specs.LazyLaws.{lazy_sound, OptionsKeep, OptionsRoot}
use Rattle.meaning.specs.PairOptions.{end_start, pair_start, end_wait, pair_wait, end_options_stated, pair_options_stated, end_options_sound, pair_options_sound}
use Rattle.meaning.proofs.Growing.{neither}
use Rattle.meaning.proofs.PairLaws.{part_rooted, end_keeps, end_roots, pair_keeps, Untouched, untouched_apart, pair_roots}
use Rattle.meaning.proofs.LazyOptions.{limited_keeps, lazy_limited, lazy_keeps, started_sound, lazy_roots, lazy_accepted, lazy_waits}

-- the table with no option
pub end_options_keep : {I : Type 0} → OptionsKeep (no_trees {I = I}) end_start end_options_sound
end_options_keep = record { keeps = λ limit. end_keeps; limited = λ limit i s none. absurd none; starts = λ limit i s none. none; starts_apart = λ limit. end_keeps.simplify_apart }

end_waits : {P : Type 0} (p : P) (limit n i : ℕ) → i < n → (s : Unit {0}) → end_short p n s ≡ false → end_options_sound limit i s
end_waits p limit zero i below s enough = omega arith
end_waits p limit (suc n) i below s enough = true≢false enough

pub end_options_root : {I P : Type 0} → OptionsRoot (no_trees {I = I}) end_options_sound (end_short {P = P}) end_growth end_wait end_options_stated
end_options_root {I} = record {
  accepted = λ p X w limit i fits r s e. absurd (accepted_is_no_fault (sym e));
  apart = λ p X w limit. (end_roots {I = I}).apart p X w;
  untold = (end_roots {I = I}).untold;
  lasting = (end_roots {I = I}).lasting;
  calm = (end_roots {I = I}).calm;
  waits = λ p X w limit n i fits below r s enough. end_waits p limit n i below s enough;
  waits_apart = λ p X w limit i j other r. end_keeps.simplify_apart i j other;
  waits_lasting = λ p q X w n i r s. refl;
}

-- options that grow are a table of trees that grow, of whose soundness nothing is said
as_table : {T I P : Type 0} {table : ℕ → Steps T I} {sound : ℕ → ℕ → T → Type 0} {short : P → ℕ → T → Bool} {grow : TableGrowth P T} {wait : TableWait P T} {stated : P → ℕ → ℕ} →
    OptionsRoot table sound short grow wait stated → TableRoots table (λ i s. Unit {0}) short grow (λ p. together (stated p))
as_table {stated = stated} roots = record {
  accepted = λ p X w i r s e.
      let (root, longest) = roots.accepted p X w (stated p i) i (le_refl (stated p i)) r s e in
      (record { is_sound = tt; is_grown = root.is_grown; at_home = root.at_home; no_back = root.no_back }, ap (λ (n : ℕ). together (stated p) i + n) longest);
  apart = λ p X w i j other r s. let apart = roots.apart p X w 0 i j other r s in record { same_meant = apart.same_meant; same_longest = apart.same_longest; same_grown = apart.same_grown; still_sound = λ is_sound. tt };
  untold = roots.untold;
  lasting = roots.lasting;
  calm = roots.calm;
  none = λ p. refl;
  rising = λ p n. omega arith;
}

-- a pair
module _ {S T I : Type 0} (t : Steps S I) (table : ℕ → Steps T I) (sound : S → Type 0) (sounds : ℕ → ℕ → T → Type 0) (limit : ℕ) where
  abbrev First : Lazy S → Type 0
  First = lazy_sound (Limited t sound limit)

  abbrev pairs : ℕ → Steps (Pair (Lazy S) T) I
  pairs = pair_table (lazy_steps t) table

  abbrev Sound : ℕ → Pair (Lazy S) T → Type 0
  Sound = pair_options_sound t sound sounds limit

  -- what a call on option number i leaves as it was, and so every other option
  abbrev Spared : ℕ → Pair (Lazy S) T → Pair (Lazy S) T → Type 0
  Spared = Untouched (lazy_steps t) table First (sounds limit)

  spared_apart : (i j : ℕ) → (j ≡ i → ⊥) → (before now : Pair (Lazy S) T) → Spared i before now → Apart (pairs j) (Sound j) before now
  spared_apart = untouched_apart (lazy_steps t) table First (sounds limit)

  module _ {start : ℕ → T → T} (rest-keep : OptionsKeep table start sounds) where
    pair_limited : (i : ℕ) (p : Pair (Lazy S) T) → Sound i p → (pairs i).longest p ≤ limit
    pair_limited zero p is_sound = lazy_limited t sound limit p.first is_sound
    pair_limited (suc i) p is_sound = rest-keep.limited limit i p.rest is_sound

    pair_starts : (i : ℕ) (p : Pair (Lazy S) T) → Sound i p → Sound i (pair_start start i p)
    pair_starts zero p is_sound = started_sound (Limited t sound limit) p.first is_sound
    pair_starts (suc i) p is_sound = rest-keep.starts limit i p.rest is_sound

    start_spares : (i : ℕ) (p : Pair (Lazy S) T) → Spared i p (pair_start start i p)
    start_spares zero p = refl
    start_spares (suc i) p = (refl, λ j other. rest-keep.starts_apart limit i j other p.rest)

pub pair_options_keep : {S T I : Type 0} {t : Steps S I} {table : ℕ → Steps T I} {start : ℕ → T → T} {sound : S → Type 0} {sounds : ℕ → ℕ → T → Type 0} → Keeps t sound → OptionsKeep table start sounds →
    OptionsKeep (pair_table (lazy_steps t) table) (pair_start start) (pair_options_sound t sound sounds)
pair_options_keep {t = t} {table = table} {start = start} {sound = sound} {sounds = sounds} keeps rest-keep = record {
  keeps = λ limit. pair_keeps (lazy_keeps (limited_keeps keeps limit)) (rest-keep.keeps limit);
  limited = λ limit. pair_limited t table sound sounds limit rest-keep;
  starts = λ limit. pair_starts t table sound sounds limit rest-keep;
  starts_apart = λ limit i j other p. spared_apart t table sound sounds limit i j other p (pair_start start i p) (start_spares t table sound sounds limit rest-keep i p);
}

module _ {S T I P R Q : Type 0} {t : Steps S I} {table : ℕ → Steps T I} {sound : S → Type 0} {sounds : ℕ → ℕ → T → Type 0} {short : P → S → Bool} {shorts : R → ℕ → T → Bool}
    {g : Growth P S} {growths : TableGrowth R T} {rest-waits : TableWait R T} {stated : P → ℕ} {stateds : R → ℕ → ℕ}
    (first : Q → P) (rest : Q → R) (roots : Roots t sound short g stated) (rest-roots : OptionsRoot table sounds shorts growths rest-waits stateds) where
  -- the growth of a pair, its waiting, where it has too few slots, and what it states
  abbrev grows : TableGrowth Q (Pair (Lazy S) T)
  grows = pair_growth first rest (lazy_growth short g) growths

  abbrev waits : TableWait Q (Pair (Lazy S) T)
  waits = pair_wait first rest g rest-waits

  abbrev few : Q → ℕ → Pair (Lazy S) T → Bool
  few = pair_short first rest (lazy_short short) shorts

  abbrev states : Q → ℕ → ℕ
  states = pair_options_stated first rest stated stateds

  pair_accepted : (q : Q) (X : Type 0) (w : Words X) (limit i : ℕ) → states q i ≤ limit → (r : RunnerState X) (p : Pair (Lazy S) T) → (grows q X w i r p).answer ≡ Ok tt →
      Rooted (pair_table (lazy_steps t) table i) (pair_options_sound t sound sounds limit i) (grows q X w i r p).place × ((pair_table (lazy_steps t) table i).longest (grows q X w i r p).place ≡ states q i)
  pair_accepted q X w limit zero fits r p e =
      let (root, longest) = lazy_accepted roots (first q) limit fits X w r p.first e in
      (part_rooted first_part (lazy_steps t) (lazy_sound (Limited t sound limit)) (grows q X w zero r p).place root, longest)
  pair_accepted q X w limit (suc i) fits r p e =
      let (root, longest) = rest-roots.accepted (rest q) X w limit i fits r p.rest e in
      (part_rooted rest_part (table i) (sounds limit i) (grows q X w (suc i) r p).place root, longest)

  grows_spares : (q : Q) (X : Type 0) (w : Words X) (limit i : ℕ) (r : RunnerState X) (p : Pair (Lazy S) T) → Spared t table sound sounds limit i p (grows q X w i r p).place
  grows_spares q X w limit zero r p = refl
  grows_spares q X w limit (suc i) r p = (refl, λ j other. rest-roots.apart (rest q) X w limit i j other r p.rest)

  -- of slots and of rejections, pairs of options keep what pairs of trees do
  table_roots : TableRoots (pair_table (lazy_steps t) table) (pair_sound (lazy_sound sound) (λ i s. Unit {0})) few grows (pair_stated first rest stated (λ p. together (stateds p)))
  table_roots = pair_roots first rest (lazy_roots roots) (as_table rest-roots)

  pair_waits : (q : Q) (X : Type 0) (w : Words X) (limit n i : ℕ) → states q i ≤ limit → i < n → (r : RunnerState X) (p : Pair (Lazy S) T) → few q n p ≡ false → pair_options_sound t sound sounds limit i (waits q X w i r p)
  pair_waits q X w limit zero i fits below r p enough = absurd (omega arith)
  pair_waits q X w limit (suc n) zero fits below r p enough = lazy_waits roots (first q) limit fits X w r p.first
  pair_waits q X w limit (suc n) (suc i) fits below r p enough = rest-roots.waits (rest q) X w limit n i fits (omega arith) r p.rest (neither _ _ enough).1

  waits_spares : (q : Q) (X : Type 0) (w : Words X) (limit i : ℕ) (r : RunnerState X) (p : Pair (Lazy S) T) → Spared t table sound sounds limit i p (waits q X w i r p)
  waits_spares q X w limit zero r p = refl
  waits_spares q X w limit (suc i) r p = (refl, λ j other. rest-roots.waits_apart (rest q) X w limit i j other r p.rest)

  pair_waits_lasting : (q other : Q) (X : Type 0) (w : Words X) (n i : ℕ) (r : RunnerState X) (p : Pair (Lazy S) T) → few other n (waits q X w i r p) ≡ few other n p
  pair_waits_lasting q other X w zero i r p = refl
  pair_waits_lasting q other X w (suc n) zero r p = refl
  pair_waits_lasting q other X w (suc n) (suc i) r p = ap (cond (lazy_short short (first other) p.first) true) (rest-roots.waits_lasting (rest q) (rest other) X w n i r p.rest)

  pub pair_options_root : OptionsRoot (pair_table (lazy_steps t) table) (pair_options_sound t sound sounds) (pair_short first rest (lazy_short short) shorts) (pair_growth first rest (lazy_growth short g) growths) (pair_wait first rest g rest-waits)
      (pair_options_stated first rest stated stateds)
  pair_options_root = record {
    accepted = pair_accepted;
    apart = λ q X w limit i j other r p. spared_apart t table sound sounds limit i j other p (grows q X w i r p).place (grows_spares q X w limit i r p);
    untold = table_roots.untold;
    lasting = table_roots.lasting;
    calm = table_roots.calm;
    waits = pair_waits;
    waits_apart = λ q X w limit i j other r p. spared_apart t table sound sounds limit i j other p (waits q X w i r p) (waits_spares q X w limit i r p);
    waits_lasting = pair_waits_lasting;
  }
