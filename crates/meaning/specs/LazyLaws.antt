-- When a lazy option is sound, and the laws of a table of options, by their numbers.
--   lazy_sound    what holds of an option's tree once it is grown, or will hold once it is; a failed one asks nothing
--   OptionsKeep   options of a table keep their meaning under any limit on what they state, and so does starting one
--   OptionsRoot   what growing an option now and what letting it wait keep

use Rattle.std.specs.Prelude.{◌≡◌, ℕ, ◌<◌, ◌≤◌, Bool, false, Ok, Err, ◌≢◌}
use Rattle.draws.specs.Sources.{Words}
use Rattle.draws.specs.Runners.{RunnerState}
use Rattle.draws.specs.declared.faults.Cause.TheVariants.{Slots}
use Rattle.draws.specs.declared.faults.GrowFault.{GrowFault}
use Rattle.meaning.specs.Trees.{Steps}
use Rattle.meaning.specs.PlaceLaws.{if_grown}
use Rattle.meaning.specs.Growths.{Rooted}
use Rattle.meaning.specs.Tables.{TableGrowth}
use Rattle.meaning.specs.TableLaws.{Apart, TableKeeps}
use Rattle.meaning.specs.Lazies.{Lazy, TableWait}
use Rattle.meaning.specs.Lazies.Lazy.{uninitialized, initialized, failed}

abbrev pub lazy_sound : {S : Type 0} → (S → Type 0) → Lazy S → Type 0
lazy_sound sound (uninitialized s later) = if_grown later.answer (sound later.tree)
lazy_sound sound (initialized s) = sound s
lazy_sound sound (failed s) = Unit {0}

-- sound is by the limit and the number
pub record OptionsKeep {T I : Type 0} (table : ℕ → Steps T I) (start : ℕ → T → T) (sound : ℕ → ℕ → T → Type 0) : Type 0 where
  pub keeps : (limit : ℕ) → TableKeeps table (sound limit)
  pub limited : (limit i : ℕ) (s : T) → sound limit i s → (table i).longest s ≤ limit
  pub starts : (limit i : ℕ) (s : T) → sound limit i s → sound limit i (start i s)
  pub starts_apart : (limit i j : ℕ) → (j ≢ i) → (s : T) → Apart (table j) (sound limit j) s (start i s)

-- short speaks of the first n options together, stated of each by its number
pub record OptionsRoot {T I P : Type 0} (table : ℕ → Steps T I) (sound : ℕ → ℕ → T → Type 0) (short : P → ℕ → T → Bool) (grow : TableGrowth P T) (wait : TableWait P T) (stated : P → ℕ → ℕ) : Type 1 where
  pub accepted : (p : P) (X : Type 0) (w : Words X) (limit i : ℕ) → stated p i ≤ limit → (r : RunnerState X) (s : T) → (grow p X w i r s).answer ≡ Ok tt → Rooted (table i) (sound limit i) (grow p X w i r s).place × ((table i).longest (grow p X w i r s).place ≡ stated p i)
  pub apart : (p : P) (X : Type 0) (w : Words X) (limit i j : ℕ) → (j ≢ i) → (r : RunnerState X) (s : T) → Apart (table j) (sound limit j) s (grow p X w i r s).place
  pub untold : (p : P) (X : Type 0) (w : Words X) (n i : ℕ) → i < n → (r : RunnerState X) (s : T) (fault : GrowFault) → short p n s ≡ false → (grow p X w i r s).answer ≡ Err fault → fault.cause ≢ Slots
  pub lasting : (p q : P) (X : Type 0) (w : Words X) (n i : ℕ) (r : RunnerState X) (s : T) → short q n (grow p X w i r s).place ≡ short q n s
  pub calm : (p : P) (X : Type 0) (w : Words X) (i : ℕ) (r : RunnerState X) (s : T) → (grow p X w i r s).runner.rejections ≤ r.rejections
  -- an option that has slots enough may wait: it is sound, as its growth will be
  pub waits : (p : P) (X : Type 0) (w : Words X) (limit n i : ℕ) → stated p i ≤ limit → i < n → (r : RunnerState X) (s : T) → short p n s ≡ false → sound limit i (wait p X w i r s)
  pub waits_apart : (p : P) (X : Type 0) (w : Words X) (limit i j : ℕ) → (j ≢ i) → (r : RunnerState X) (s : T) → Apart (table j) (sound limit j) s (wait p X w i r s)
  pub waits_lasting : (p q : P) (X : Type 0) (w : Words X) (n i : ℕ) (r : RunnerState X) (s : T) → short q n (wait p X w i r s) ≡ short q n s
