-- The laws of a table of nested pairs, from those of the first tree and of the rest.
--   end_total, end_keeps, end_roots      of the table with no tree
--   pair_total, pair_keeps, pair_roots   of a pair

use Rattle.std.proofs.Common.{◌≡◌, ℕ, zero, suc, ◌+◌, ◌<◌, ◌≤◌, Bool, true, false, cond, Ok, Err, sym, refl, ap, ◌∙◌, true≢false, le_refl, arith}
use Rattle.draws.specs.Sources.{Words}
use Rattle.draws.specs.Runners.{RunnerState}
use Rattle.draws.specs.declared.faults.Cause.TheVariants.{Slots}
use Rattle.draws.specs.declared.faults.GrowFault.{GrowFault}
use Rattle.meaning.specs.Trees.{Steps, Blank, Total, Keeps}
use Rattle.meaning.specs.Growths.{Growth, Rooted, Roots}
use Rattle.meaning.specs.GrowthLaws.{accepted_is_no_fault}
use Rattle.meaning.specs.Tables.{TableGrowth}
use Rattle.meaning.specs.TableLaws.{Apart, TableTotal, TableKeeps, TableRoots}
use Rattle.meaning.specs.Pairs.{Pair, Part, first_part, rest_part, part_steps, no_trees, pair_table, end_growth, pair_growth, end_short, pair_short, end_stated, pair_stated, end_sound, pair_sound}
use Rattle.meaning.proofs.Growing.{neither}
use Rattle.meaning.proofs.Walking.{same_apart}

-- what holds of a part's tree holds of the part
module _ {W S I : Type 0} (part : Part W S) (t : Steps S I) where
  part_blank : (w : W) → Blank t (part.get w) → Blank (part_steps part t) w
  part_blank w blank = record { shows_none = blank.shows_none; home_none = blank.home_none; no_back = blank.no_back; no_longest = blank.no_longest; no_simplify = blank.no_simplify; no_complicate = blank.no_complicate }

  module _ (sound : S → Type 0) where
    abbrev part_sound : W → Type 0
    part_sound w = sound (part.get w)

    pub part_rooted : (w : W) → Rooted t sound (part.get w) → Rooted (part_steps part t) part_sound w
    part_rooted w rooted = record { is_sound = rooted.is_sound; is_grown = rooted.is_grown; at_home = rooted.at_home; no_back = rooted.no_back }

    part_apart : (before now : W) → Apart t sound (part.get before) (part.get now) → Apart (part_steps part t) part_sound before now
    part_apart before now apart = record { same_meant = apart.same_meant; same_longest = apart.same_longest; same_grown = apart.same_grown; still_sound = apart.still_sound }

  -- and so do the laws of its kind, where what is put in is what is then read off
  module _ (put-get : (w : W) (s : S) → part.get (part.put w s) ≡ s) where
    part_total : Total t → Total (part_steps part t)
    part_total total = record {
      ends = λ w. rw (put-get w (t.complicate (part.get w)).tree) (total.ends (part.get w));
      simplify_grown = λ w. ap t.grown (put-get w _) ∙ total.simplify_grown (part.get w);
      complicate_grown = λ w. ap t.grown (put-get w _) ∙ total.complicate_grown (part.get w);
      blank = λ w e. part_blank w (total.blank (part.get w) e);
      blanks = λ w. ap t.grown (put-get w _) ∙ total.blanks (part.get w);
    }

    part_keeps : (sound : S → Type 0) → Keeps t sound → Keeps (part_steps part t) (part_sound sound)
    part_keeps sound keeps = record {
      fits = λ w. keeps.fits (part.get w);
      simplify = λ w is_sound. rw (put-get w (t.simplify (part.get w)).tree) (keeps.simplify (part.get w) is_sound);
      complicate = λ w is_sound. rw (put-get w (t.complicate (part.get w)).tree) (keeps.complicate (part.get w) is_sound);
    }

-- the table with no tree
pub end_total : {I : Type 0} → TableTotal (no_trees {I = I})
end_total i = record {
  ends = λ s. le_refl 0;
  simplify_grown = λ s. refl;
  complicate_grown = λ s. refl;
  blank = λ s e. record { shows_none = refl; home_none = refl; no_back = refl; no_longest = refl; no_simplify = refl; no_complicate = refl };
  blanks = λ s. refl;
}

pub end_keeps : {I : Type 0} → TableKeeps (no_trees {I = I}) end_sound
end_keeps = record {
  each = λ i. record { fits = λ s none. absurd none; simplify = λ s none. absurd none; complicate = λ s none. absurd none };
  simplify_apart = λ i j other s. same_apart (no_trees j) (end_sound j) refl;
  complicate_apart = λ i j other s. same_apart (no_trees j) (end_sound j) refl;
}

end_untold : {P : Type 0} (p : P) (n i : ℕ) → i < n → (s : Unit {0}) → end_short p n s ≡ false → ⊥
end_untold p zero i below s enough = omega arith
end_untold p (suc n) i below s enough = true≢false enough

pub end_roots : {I P : Type 0} → TableRoots (no_trees {I = I}) end_sound (end_short {P = P}) end_growth end_stated
end_roots = record {
  accepted = λ p X w i r s e. absurd (accepted_is_no_fault (sym e));
  apart = λ p X w i j other r s. same_apart (no_trees j) (end_sound j) refl;
  untold = λ p X w n i below r s fault enough. absurd (end_untold p n i below s enough);
  lasting = λ p q X w n i r s. refl;
  calm = λ p X w i r s. le_refl r.rejections;
  none = λ p. refl;
  rising = λ p n. le_refl 0;
}

-- a pair
pub pair_total : {S T I : Type 0} {t : Steps S I} {table : ℕ → Steps T I} → Total t → TableTotal table → TableTotal (pair_table t table)
pair_total {t = t} total totals zero = part_total first_part t (λ p s. refl) total
pair_total {table = table} total totals (suc i) = part_total rest_part (table i) (λ p x. refl) (totals i)

module _ {S T I : Type 0} (t : Steps S I) (table : ℕ → Steps T I) (sound : S → Type 0) (sounds : ℕ → T → Type 0) where
  -- what a call on number i leaves as it was: the rest; or the first, and every other tree of the rest
  abbrev pub Untouched : ℕ → Pair S T → Pair S T → Type 0
  Untouched zero before now = now.rest ≡ before.rest
  Untouched (suc i) before now = (now.first ≡ before.first) × ((j : ℕ) → (j ≡ i → ⊥) → Apart (table j) (sounds j) before.rest now.rest)

  pub untouched_apart : (i j : ℕ) → (j ≡ i → ⊥) → (before now : Pair S T) → Untouched i before now → Apart (pair_table t table j) (pair_sound sound sounds j) before now
  untouched_apart zero zero other before now same = absurd (other refl)
  untouched_apart zero (suc j) other before now same = part_apart rest_part (table j) (sounds j) before now (same_apart (table j) (sounds j) same)
  untouched_apart (suc i) zero other before now same = part_apart first_part t sound before now (same_apart t sound same.0)
  untouched_apart (suc i) (suc j) other before now same = part_apart rest_part (table j) (sounds j) before now (same.1 j (λ e. other (ap suc e)))

  module _ (keeps : Keeps t sound) (rest-keeps : TableKeeps table sounds) where
    each_keeps : (i : ℕ) → Keeps (pair_table t table i) (pair_sound sound sounds i)
    each_keeps zero = part_keeps first_part t (λ p s. refl) sound keeps
    each_keeps (suc i) = part_keeps rest_part (table i) (λ p x. refl) (sounds i) (rest-keeps.each i)

    simplify_untouched : (i : ℕ) (p : Pair S T) → Untouched i p ((pair_table t table i).simplify p).tree
    simplify_untouched zero p = refl
    simplify_untouched (suc i) p = (refl, λ j other. rest-keeps.simplify_apart i j other p.rest)

    complicate_untouched : (i : ℕ) (p : Pair S T) → Untouched i p ((pair_table t table i).complicate p).tree
    complicate_untouched zero p = refl
    complicate_untouched (suc i) p = (refl, λ j other. rest-keeps.complicate_apart i j other p.rest)

pub pair_keeps : {S T I : Type 0} {t : Steps S I} {table : ℕ → Steps T I} {sound : S → Type 0} {sounds : ℕ → T → Type 0} → Keeps t sound → TableKeeps table sounds → TableKeeps (pair_table t table) (pair_sound sound sounds)
pair_keeps {t = t} {table = table} {sound = sound} {sounds = sounds} keeps rest-keeps = record {
  each = each_keeps t table sound sounds keeps rest-keeps;
  simplify_apart = λ i j other p. untouched_apart t table sound sounds i j other p ((pair_table t table i).simplify p).tree (simplify_untouched t table sound sounds keeps rest-keeps i p);
  complicate_apart = λ i j other p. untouched_apart t table sound sounds i j other p ((pair_table t table i).complicate p).tree (complicate_untouched t table sound sounds keeps rest-keeps i p);
}

module _ {S T I P R Q : Type 0} {t : Steps S I} {table : ℕ → Steps T I} {sound : S → Type 0} {sounds : ℕ → T → Type 0} {short : P → S → Bool} {shorts : R → ℕ → T → Bool}
    {g : Growth P S} {growths : TableGrowth R T} {stated : P → ℕ} {stateds : R → ℕ → ℕ}
    (first : Q → P) (rest : Q → R) (roots : Roots t sound short g stated) (rest-roots : TableRoots table sounds shorts growths stateds) where
  -- the growth of a pair, where it has too few slots, and what it states
  abbrev grows : TableGrowth Q (Pair S T)
  grows = pair_growth first rest g growths

  abbrev few : Q → ℕ → Pair S T → Bool
  few = pair_short first rest short shorts

  abbrev states : Q → ℕ → ℕ
  states = pair_stated first rest stated stateds

  pair_accepted : (q : Q) (X : Type 0) (w : Words X) (i : ℕ) (r : RunnerState X) (p : Pair S T) → (grows q X w i r p).answer ≡ Ok tt →
      Rooted (pair_table t table i) (pair_sound sound sounds i) (grows q X w i r p).place × (states q i + (pair_table t table i).longest (grows q X w i r p).place ≡ states q (suc i))
  pair_accepted q X w zero r p e =
      let (rooted, longest) = roots.accepted (first q) X w r p.first e in
      let none = rest-roots.none (rest q) in
      (part_rooted first_part t sound (grows q X w zero r p).place rooted, omega arith)
  pair_accepted q X w (suc i) r p e =
      let (rooted, longest) = rest-roots.accepted (rest q) X w i r p.rest e in
      (part_rooted rest_part (table i) (sounds i) (grows q X w (suc i) r p).place rooted, omega arith)

  grows_untouched : (q : Q) (X : Type 0) (w : Words X) (i : ℕ) (r : RunnerState X) (p : Pair S T) → Untouched t table sound sounds i p (grows q X w i r p).place
  grows_untouched q X w zero r p = refl
  grows_untouched q X w (suc i) r p = (refl, λ j other. rest-roots.apart (rest q) X w i j other r p.rest)

  pair_untold : (q : Q) (X : Type 0) (w : Words X) (n i : ℕ) → i < n → (r : RunnerState X) (p : Pair S T) (fault : GrowFault) → few q n p ≡ false → (grows q X w i r p).answer ≡ Err fault → fault.cause ≡ Slots → ⊥
  pair_untold q X w zero i below r p fault enough e = absurd (omega arith)
  pair_untold q X w (suc n) zero below r p fault enough e = roots.untold (first q) X w r p.first fault (neither _ _ enough).0 e
  pair_untold q X w (suc n) (suc i) below r p fault enough e = rest-roots.untold (rest q) X w n i (omega arith) r p.rest fault (neither _ _ enough).1 e

  pair_lasting : (q other : Q) (X : Type 0) (w : Words X) (n i : ℕ) (r : RunnerState X) (p : Pair S T) → few other n (grows q X w i r p).place ≡ few other n p
  pair_lasting q other X w zero i r p = refl
  pair_lasting q other X w (suc n) zero r p = ap (λ (b : Bool). cond b true (shorts (rest other) n p.rest)) (roots.lasting (first q) (first other) X w r p.first)
  pair_lasting q other X w (suc n) (suc i) r p = ap (cond (short (first other) p.first) true) (rest-roots.lasting (rest q) (rest other) X w n i r p.rest)

  pair_calm : (q : Q) (X : Type 0) (w : Words X) (i : ℕ) (r : RunnerState X) (p : Pair S T) → (grows q X w i r p).runner.rejections ≤ r.rejections
  pair_calm q X w zero r p = roots.calm (first q) X w r p.first
  pair_calm q X w (suc i) r p = rest-roots.calm (rest q) X w i r p.rest

  pair_rising : (q : Q) (n : ℕ) → states q n ≤ states q (suc n)
  pair_rising q zero = omega arith
  pair_rising q (suc n) = let more = rest-roots.rising (rest q) n in omega arith

  pub pair_roots : TableRoots (pair_table t table) (pair_sound sound sounds) (pair_short first rest short shorts) (pair_growth first rest g growths) (pair_stated first rest stated stateds)
  pair_roots = record {
    accepted = pair_accepted;
    apart = λ q X w i j other r p. untouched_apart t table sound sounds i j other p (grows q X w i r p).place (grows_untouched q X w i r p);
    untold = pair_untold;
    lasting = pair_lasting;
    calm = pair_calm;
    none = λ q. refl;
    rising = pair_rising;
  }
