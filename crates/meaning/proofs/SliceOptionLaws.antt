-- The laws of a slice of lazy options, from those of their kind.
--   slice_options_keep   they keep their meaning, and so does starting one
--   slice_options_root   their growth and their waiting keep what they should

use Rattle.std.proofs.Common.{◌≡◌, ℕ, ◌≤◌, Bool, false, List, refl}
use Rattle.meaning.specs.Trees.{Steps, Keeps}
use Rattle.meaning.specs.Growths.{Growth, Roots}
use Rattle.meaning.specs.Tables.{change_at, slice_table}
use Rattle.meaning.specs.TableLaws.{Slot, Limited}
use Rattle.meaning.specs.Lazies.{Lazy, lazy_start, lazy_steps, lazy_short, lazy_growth, lazy_wait}
use Rattle.meaning.specs.LazyLaws.{lazy_sound, OptionsKeep, OptionsRoot}
use Rattle.meaning.specs.SliceOptions.{slice_start, slice_options_short, slice_options_growth, slice_options_wait, slice_options_stated, slice_options_sound}
use Rattle.meaning.proofs.SliceLaws.{along_slot, slot_enough, lacking_changed, slice_keeps, slice_apart, grow_at_place, grow_at_calm, grow_at_lasting, grow_at_untold, grow_at_accepted}
use Rattle.meaning.proofs.LazyOptions.{limited_keeps, lazy_limited, lazy_keeps, started_sound, lazy_roots, lazy_accepted, lazy_waits}

-- a slot that is changed
slot_changed : {S : Type 0} (P Q : S → Type 0) (change : S → S) → ((x : S) → P x → Q (change x)) → (i : ℕ) (xs : List S) → Slot P i xs → Slot Q i (change_at change xs i)
slot_changed P Q change changed = along_slot P (λ i xs. Slot Q i (change_at change xs i)) (λ x xs. changed x) (λ i x xs held. held)

pub slice_options_keep : {S I : Type 0} {t : Steps S I} {sound : S → Type 0} → Keeps t sound → OptionsKeep (slice_table (lazy_steps t)) slice_start (slice_options_sound t sound)
slice_options_keep {t = t} {sound = sound} keeps = record {
  keeps = λ limit. slice_keeps (lazy_keeps (limited_keeps keeps limit));
  limited = λ limit. along_slot (lazy_sound (Limited t sound limit)) (λ i xs. (slice_table (lazy_steps t) i).longest xs ≤ limit) (λ x xs. lazy_limited t sound limit x) (λ i x xs held. held);
  starts = λ limit. let limited = Limited t sound limit in slot_changed (lazy_sound limited) (lazy_sound limited) lazy_start (started_sound limited);
  starts_apart = λ limit. slice_apart lazy_start (lazy_steps t) (lazy_sound (Limited t sound limit));
}

module _ {S I P Q : Type 0} {t : Steps S I} {sound : S → Type 0} {short : P → S → Bool} {g : Growth P S} {stated : P → ℕ} (number : Q → ℕ → P) (roots : Roots t sound short g stated) where
  abbrev grows : Growth P (Lazy S)
  grows = lazy_growth short g

  abbrev shorts : Q → ℕ → Lazy S → Bool
  shorts q i = lazy_short short (number q i)

  abbrev Sound : ℕ → Lazy S → Type 0
  Sound limit = lazy_sound (Limited t sound limit)

  pub slice_options_root : OptionsRoot (slice_table (lazy_steps t)) (slice_options_sound t sound) (slice_options_short number short) (slice_options_growth number short g) (slice_options_wait number g) (slice_options_stated number stated)
  slice_options_root = record {
    accepted = λ q X w limit i fits r xs e. let p = number q i in grow_at_accepted (grows p X w) (lazy_steps t) (Sound limit) (stated p) (lazy_accepted roots p limit fits X w) i r xs e;
    apart = λ q X w limit i j other r xs. let p = number q i in rw (grow_at_place (grows p X w) i r xs) (slice_apart (λ x. (grows p X w r x).place) (lazy_steps t) (Sound limit) i j other xs);
    untold = λ q X w n i. let p = number q i in grow_at_untold (grows p X w) (shorts q) i ((lazy_roots roots).untold p X w) n;
    lasting = λ q other X w n i. let p = number q i in grow_at_lasting (grows p X w) (shorts other) (λ j. (lazy_roots roots).lasting p (number other j) X w) n i;
    calm = λ q X w i. let p = number q i in grow_at_calm (grows p X w) ((lazy_roots roots).calm p X w) i;
    waits = λ q X w limit n i fits below r xs enough. let p = number q i in
        slot_changed (λ x. shorts q i x ≡ false) (Sound limit) (lazy_wait g p X w r) (λ x enough. lazy_waits roots p limit fits X w r x) i xs (slot_enough (shorts q) n i below xs enough);
    waits_apart = λ q X w limit i j other r. slice_apart (lazy_wait g (number q i) X w r) (lazy_steps t) (Sound limit) i j other;
    waits_lasting = λ q other X w n i r. lacking_changed (shorts other) (lazy_wait g (number q i) X w r) (λ j x. refl) n i;
  }
