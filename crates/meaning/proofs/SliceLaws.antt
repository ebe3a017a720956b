-- The laws of a slice of trees of one kind, from those of the kind. Each is told at a slot by going along the slice.

use Rattle.std.proofs.Common.{◌≡◌, ℕ, zero, suc, ◌+◌, ◌*◌, ◌<◌, ◌≤◌, Bool, true, false, cond, List, [], ◌∷◌, length, Ok, Err, sym, refl, ap, ◌∙◌, true≢false, le_refl, suc-mul, zero-mul, arith}
use Rattle.draws.specs.Runners.{RunnerState}
use Rattle.draws.specs.declared.faults.Cause.TheVariants.{Slots}
use Rattle.draws.specs.declared.faults.GrowFault.{GrowFault}
use Rattle.meaning.specs.Trees.{Steps, Ends, SimplifyKept, ComplicateKept, Blank, Total, Keeps}
use Rattle.meaning.specs.Growths.{Grows, Growth, Rooted, Roots}
use Rattle.meaning.specs.GrowthLaws.{accepted_is_no_fault}
use Rattle.meaning.specs.Tables.{at, change_at, slice_table, grow_at, slice_growth, lacking, slice_short, slice_stated}
use Rattle.meaning.specs.TableLaws.{Apart, TableTotal, TableKeeps, TableRoots, Slot}
use Rattle.meaning.specs.SliceOptions.{lacking_by_number}
use Rattle.meaning.proofs.Growing.{neither}

-- what holds past the end and at the first slot, and is handed on by one slot more, holds at every slot
pub along : {S : Type 0} (Holds : ℕ → List S → Type 0) → ((i : ℕ) → Holds i []) → ((x : S) (xs : List S) → Holds zero (x ∷ xs)) → ((i : ℕ) (x : S) (xs : List S) → Holds i xs → Holds (suc i) (x ∷ xs)) → (i : ℕ) (xs : List S) → Holds i xs
along Holds past first further i [] = past i
along Holds past first further zero (x ∷ xs) = first x xs
along Holds past first further (suc i) (x ∷ xs) = further i x xs (along Holds past first further i xs)

-- the same where something is known of the slot
pub along_slot : {S : Type 0} (P : S → Type 0) (Holds : ℕ → List S → Type 0) → ((x : S) (xs : List S) → P x → Holds zero (x ∷ xs)) → ((i : ℕ) (x : S) (xs : List S) → Holds i xs → Holds (suc i) (x ∷ xs)) → (i : ℕ) (xs : List S) → Slot P i xs → Holds i xs
along_slot P Holds first further = along (λ i xs. Slot P i xs → Holds i xs) (λ i here. absurd here) first (λ i x xs held here. further i x xs (held here))

-- every tree is total
module _ {S I : Type 0} {t : Steps S I} (total : Total t) where
  slice_grown : (change : S → S) → ((x : S) → t.grown (change x) ≡ t.grown x) → (i : ℕ) (xs : List S) → (slice_table t i).grown (change_at change xs i) ≡ (slice_table t i).grown xs
  slice_grown change same = along (λ i xs. (slice_table t i).grown (change_at change xs i) ≡ (slice_table t i).grown xs) (λ i. refl) (λ x xs. same x) (λ i x xs held. held)

  at_blank : {A : Type 0} (f : S → A) (d : A) → ((x : S) → t.grown x ≡ false → f x ≡ d) → (i : ℕ) (xs : List S) → (slice_table t i).grown xs ≡ false → at f d xs i ≡ d
  at_blank f d blank = along (λ i xs. (slice_table t i).grown xs ≡ false → at f d xs i ≡ d) (λ i e. refl) (λ x xs. blank x) (λ i x xs held. held)

  slice_blank : (i : ℕ) (xs : List S) → (slice_table t i).grown xs ≡ false → Blank (slice_table t i) xs
  slice_blank i xs e = record {
    shows_none = at_blank t.candidate [] (λ x e. (total.blank x e).shows_none) i xs e;
    home_none = at_blank t.home [] (λ x e. (total.blank x e).home_none) i xs e;
    no_back = at_blank t.back 0 (λ x e. (total.blank x e).no_back) i xs e;
    no_longest = at_blank t.longest 0 (λ x e. (total.blank x e).no_longest) i xs e;
    no_simplify = at_blank (λ x. (t.simplify x).answer) false (λ x e. (total.blank x e).no_simplify) i xs e;
    no_complicate = at_blank (λ x. (t.complicate x).answer) false (λ x e. (total.blank x e).no_complicate) i xs e;
  }

  pub slice_total : TableTotal (slice_table t)
  slice_total i = record {
    ends = along (λ j. Ends (slice_table t j)) (λ j. le_refl 0) (λ x xs. total.ends x) (λ j x xs held. held) i;
    simplify_grown = slice_grown (λ x. (t.simplify x).tree) total.simplify_grown i;
    complicate_grown = slice_grown (λ x. (t.complicate x).tree) total.complicate_grown i;
    blank = slice_blank i;
    blanks = along (λ j xs. (slice_table t j).grown ((slice_table t j).blank xs) ≡ false) (λ j. refl) (λ x xs. total.blanks x) (λ j x xs held. held) i;
  }

-- a change of one slot leaves every other apart
module _ {S : Type 0} (change : S → S) where
  at_apart : {A : Type 0} (f : S → A) (d : A) (i j : ℕ) → (j ≡ i → ⊥) → (xs : List S) → at f d (change_at change xs i) j ≡ at f d xs j
  at_apart f d i j other [] = refl
  at_apart f d zero zero other (x ∷ xs) = absurd (other refl)
  at_apart f d zero (suc j) other (x ∷ xs) = refl
  at_apart f d (suc i) zero other (x ∷ xs) = refl
  at_apart f d (suc i) (suc j) other (x ∷ xs) = at_apart f d i j (λ e. other (ap suc e)) xs

  slot_apart : (P : S → Type 0) (i j : ℕ) → (j ≡ i → ⊥) → (xs : List S) → Slot P j xs → Slot P j (change_at change xs i)
  slot_apart P i j other [] here = here
  slot_apart P zero zero other (x ∷ xs) here = absurd (other refl)
  slot_apart P zero (suc j) other (x ∷ xs) here = here
  slot_apart P (suc i) zero other (x ∷ xs) here = here
  slot_apart P (suc i) (suc j) other (x ∷ xs) here = slot_apart P i j (λ e. other (ap suc e)) xs here

  pub slice_apart : {I : Type 0} (t : Steps S I) (sound : S → Type 0) (i j : ℕ) → (j ≡ i → ⊥) → (xs : List S) → Apart (slice_table t j) (Slot sound j) xs (change_at change xs i)
  slice_apart t sound i j other xs = record {
    same_meant = λ k. record { candidate = at_apart t.candidate [] i j other xs k; home = at_apart t.home [] i j other xs k; back = at_apart t.back 0 i j other xs k };
    same_longest = at_apart t.longest 0 i j other xs;
    same_grown = at_apart t.grown false i j other xs;
    still_sound = slot_apart sound i j other xs;
  }

-- every tree keeps its meaning
module _ {S I : Type 0} {t : Steps S I} {sound : S → Type 0} (keeps : Keeps t sound) where
  pub slice_keeps : TableKeeps (slice_table t) (Slot sound)
  slice_keeps = record {
    each = λ i. record {
      fits = along_slot sound (λ j xs. length ((slice_table t j).candidate xs) ≤ (slice_table t j).longest xs) (λ x xs. keeps.fits x) (λ j x xs held. held) i;
      simplify = along_slot sound (λ j xs. SimplifyKept (slice_table t j) (Slot sound j) xs ((slice_table t j).simplify xs)) (λ x xs. keeps.simplify x) (λ j x xs held. held) i;
      complicate = along_slot sound (λ j xs. ComplicateKept (slice_table t j) (Slot sound j) xs ((slice_table t j).complicate xs)) (λ x xs. keeps.complicate x) (λ j x xs held. held) i;
    };
    simplify_apart = slice_apart (λ x. (t.simplify x).tree) t sound;
    complicate_apart = slice_apart (λ x. (t.complicate x).tree) t sound;
  }

-- whether one of the first n slots lacks, or has too few
lacking_each : {S : Type 0} (short : S → Bool) (n : ℕ) (xs : List S) → lacking short n xs ≡ lacking_by_number (λ j. short) n xs
lacking_each short zero xs = refl
lacking_each short (suc n) [] = refl
lacking_each short (suc n) (x ∷ xs) = ap (cond (short x) true) (lacking_each short n xs)

-- where the first n slots are enough, each of them is there and is enough for its strategy
pub slot_enough : {S : Type 0} (short : ℕ → S → Bool) (n i : ℕ) → i < n → (xs : List S) → lacking_by_number short n xs ≡ false → Slot (λ x. short i x ≡ false) i xs
slot_enough short zero i below xs enough = absurd (omega arith)
slot_enough short (suc n) i below [] enough = absurd (true≢false enough)
slot_enough short (suc n) zero below (x ∷ xs) enough = (neither (short 0 x) _ enough).0
slot_enough short (suc n) (suc i) below (x ∷ xs) enough = slot_enough (λ j. short (suc j)) n i (omega arith) xs (neither (short 0 x) _ enough).1

pub lacking_changed : {S : Type 0} (short : ℕ → S → Bool) (change : S → S) → ((j : ℕ) (x : S) → short j (change x) ≡ short j x) → (n i : ℕ) (xs : List S) → lacking_by_number short n (change_at change xs i) ≡ lacking_by_number short n xs
lacking_changed short change same zero i xs = refl
lacking_changed short change same (suc n) i [] = refl
lacking_changed short change same (suc n) zero (x ∷ xs) = ap (λ (b : Bool). cond b true (lacking_by_number (λ j. short (suc j)) n xs)) (same 0 x)
lacking_changed short change same (suc n) (suc i) (x ∷ xs) = ap (cond (short 0 x) true) (lacking_changed (λ j. short (suc j)) change (λ j. same (suc j)) n i xs)

-- growing in one slot
module _ {X S : Type 0} (g : Grows X S) where
  pub grow_at_place : (i : ℕ) (r : RunnerState X) (xs : List S) → (grow_at g i r xs).place ≡ change_at (λ x. (g r x).place) xs i
  grow_at_place i r = along (λ j xs. (grow_at g j r xs).place ≡ change_at (λ x. (g r x).place) xs j) (λ j. refl) (λ x xs. refl) (λ j x xs. ap (λ (ys : List S). x ∷ ys)) i

  pub grow_at_calm : ((r : RunnerState X) (x : S) → (g r x).runner.rejections ≤ r.rejections) → (i : ℕ) (r : RunnerState X) (xs : List S) → (grow_at g i r xs).runner.rejections ≤ r.rejections
  grow_at_calm calm i r = along (λ j xs. (grow_at g j r xs).runner.rejections ≤ r.rejections) (λ j. le_refl r.rejections) (λ x xs. calm r x) (λ j x xs held. held) i

  -- of slots, by a shortage that may differ from slot to slot
  module _ (short : ℕ → S → Bool) where
    pub grow_at_lasting : ((j : ℕ) (r : RunnerState X) (x : S) → short j (g r x).place ≡ short j x) → (n i : ℕ) (r : RunnerState X) (xs : List S) → lacking_by_number short n (grow_at g i r xs).place ≡ lacking_by_number short n xs
    grow_at_lasting lasting n i r xs = rw (grow_at_place i r xs) (lacking_changed short (λ x. (g r x).place) (λ j. lasting j r) n i xs)

    pub grow_at_untold : (i : ℕ) → ((r : RunnerState X) (x : S) (fault : GrowFault) → short i x ≡ false → (g r x).answer ≡ Err fault → fault.cause ≡ Slots → ⊥) →
        (n : ℕ) → i < n → (r : RunnerState X) (xs : List S) (fault : GrowFault) → lacking_by_number short n xs ≡ false → (grow_at g i r xs).answer ≡ Err fault → fault.cause ≡ Slots → ⊥
    grow_at_untold i untold n below r xs fault enough = along_slot (λ x. short i x ≡ false) (λ j ys. (grow_at g j r ys).answer ≡ Err fault → fault.cause ≡ Slots → ⊥) (λ x ys. untold r x fault) (λ j x ys held. held) i xs (slot_enough short n i below xs enough)

  module _ {I : Type 0} (t : Steps S I) (sound : S → Type 0) (longest : ℕ) where
    abbrev pub Accepted : {S : Type 0} → Steps S I → (S → Type 0) → S → Type 0
    Accepted t sound s = Rooted t sound s × (t.longest s ≡ longest)

    pub grow_at_accepted : ((r : RunnerState X) (x : S) → (g r x).answer ≡ Ok tt → Accepted t sound (g r x).place) →
        (i : ℕ) (r : RunnerState X) (xs : List S) → (grow_at g i r xs).answer ≡ Ok tt → Accepted (slice_table t i) (Slot sound i) (grow_at g i r xs).place
    grow_at_accepted accepted i r = along (λ j xs. (grow_at g j r xs).answer ≡ Ok tt → Accepted (slice_table t j) (Slot sound j) (grow_at g j r xs).place)
        (λ j e. absurd (accepted_is_no_fault (sym e)))
        (λ x xs e. let (root, states) = accepted r x e in (record { is_sound = root.is_sound; is_grown = root.is_grown; at_home = root.at_home; no_back = root.no_back }, states))
        (λ j x xs held e. let (root, states) = held e in (record { is_sound = root.is_sound; is_grown = root.is_grown; at_home = root.at_home; no_back = root.no_back }, states))
        i

pub slice_roots : {S I P Q : Type 0} {t : Steps S I} {sound : S → Type 0} {short : P → S → Bool} {g : Growth P S} {stated : P → ℕ} (under : Q → P) → Roots t sound short g stated →
    TableRoots (slice_table t) (Slot sound) (slice_short under short) (slice_growth under g) (slice_stated under stated)
slice_roots {t = t} {sound = sound} {short = short} {g = g} {stated = stated} under roots = record {
  accepted = λ q X w i r xs e. let p = under q in
      let grown = grow_at_accepted (g p X w) t sound (stated p) (roots.accepted p X w) i r xs e in
      (grown.0, ap (λ (n : ℕ). i * stated p + n) grown.1 ∙ sym (suc-mul i (stated p)));
  apart = λ q X w i j other r xs. rw (grow_at_place (g (under q) X w) i r xs) (slice_apart (λ x. (g (under q) X w r x).place) t sound i j other xs);
  untold = λ q X w n i below r xs fault enough. grow_at_untold (g (under q) X w) (λ j. short (under q)) i (roots.untold (under q) X w) n below r xs fault (rw lacking_each at enough);
  lasting = λ q other X w n i r xs. simp lacking_each (grow_at_lasting (g (under q) X w) (λ j. short (under other)) (λ j. roots.lasting (under q) (under other) X w) n i r xs);
  calm = λ q X w. grow_at_calm (g (under q) X w) (roots.calm (under q) X w);
  none = λ q. zero-mul (stated (under q));
  rising = λ q n. let more = suc-mul n (stated (under q)) in omega arith;
}
