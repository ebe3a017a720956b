-- The laws of a table of trees, by their numbers.
--   Standing     a tree that is sound and grown
--   Limited      a tree that is sound and states no more than a limit
--   Apart        a tree as it was before a call on another: its meaning, its longest, whether it is grown, its soundness
--   TableTotal   every tree is total
--   TableKeeps   every tree keeps its meaning, and a step of one leaves every other apart
--   TableRoots   what the growth of the trees keeps; short and stated speak of the first n trees together
--   together     the sum of what f says of the first n trees
--   Slot         what holds of the tree in slot number i of a slice; nothing does past its end

use Rattle.std.specs.Prelude.{◌≡◌, ℕ, zero, suc, ◌+◌, ◌<◌, ◌≤◌, Bool, true, false, List, [], ◌∷◌, Ok, Err, ◌≢◌}
use Rattle.draws.specs.Sources.{Words}
use Rattle.draws.specs.Runners.{RunnerState}
use Rattle.draws.specs.declared.faults.Cause.TheVariants.{Slots}
use Rattle.draws.specs.declared.faults.GrowFault.{GrowFault}
use Rattle.meaning.specs.Trees.{Steps, meant, Total, Keeps}
use Rattle.meaning.specs.Growths.{Rooted}
use Rattle.meaning.specs.Tables.{TableGrowth}

abbrev pub Standing : {S I : Type 0} → Steps S I → (S → Type 0) → S → Type 0
Standing t sound s = sound s × (t.grown s ≡ true)

abbrev pub Limited : {S I : Type 0} → Steps S I → (S → Type 0) → ℕ → S → Type 0
Limited t sound limit s = sound s × (t.longest s ≤ limit)

pub record Apart {S I : Type 0} (t : Steps S I) (sound : S → Type 0) (before now : S) : Type 0 where
  pub same_meant : meant t now ≡ meant t before
  pub same_longest : t.longest now ≡ t.longest before
  pub same_grown : t.grown now ≡ t.grown before
  pub still_sound : sound before → sound now

abbrev pub TableTotal : {T I : Type 0} → (ℕ → Steps T I) → Type 0
TableTotal table = (i : ℕ) → Total (table i)

pub record TableKeeps {T I : Type 0} (table : ℕ → Steps T I) (sound : ℕ → T → Type 0) : Type 0 where
  pub each : (i : ℕ) → Keeps (table i) (sound i)
  pub simplify_apart : (i j : ℕ) → (j ≢ i) → (s : T) → Apart (table j) (sound j) s ((table i).simplify s).tree
  pub complicate_apart : (i j : ℕ) → (j ≢ i) → (s : T) → Apart (table j) (sound j) s ((table i).complicate s).tree

pub record TableRoots {T I P : Type 0} (table : ℕ → Steps T I) (sound : ℕ → T → Type 0) (short : P → ℕ → T → Bool) (g : TableGrowth P T) (stated : P → ℕ → ℕ) : Type 1 where
  pub accepted : (p : P) (X : Type 0) (w : Words X) (i : ℕ) (r : RunnerState X) (s : T) → (g p X w i r s).answer ≡ Ok tt → Rooted (table i) (sound i) (g p X w i r s).place × (stated p i + (table i).longest (g p X w i r s).place ≡ stated p (suc i))
  pub apart : (p : P) (X : Type 0) (w : Words X) (i j : ℕ) → (j ≢ i) → (r : RunnerState X) (s : T) → Apart (table j) (sound j) s (g p X w i r s).place
  -- where the first n trees have slots enough, none of them tells of too few; no growth changes that
  pub untold : (p : P) (X : Type 0) (w : Words X) (n i : ℕ) → i < n → (r : RunnerState X) (s : T) (fault : GrowFault) → short p n s ≡ false → (g p X w i r s).answer ≡ Err fault → fault.cause ≢ Slots
  pub lasting : (p q : P) (X : Type 0) (w : Words X) (n i : ℕ) (r : RunnerState X) (s : T) → short q n (g p X w i r s).place ≡ short q n s
  pub calm : (p : P) (X : Type 0) (w : Words X) (i : ℕ) (r : RunnerState X) (s : T) → (g p X w i r s).runner.rejections ≤ r.rejections
  -- no trees state nothing, and more trees state no less
  pub none : (p : P) → stated p 0 ≡ 0
  pub rising : (p : P) (n : ℕ) → stated p n ≤ stated p (suc n)

abbrev pub together : (ℕ → ℕ) → ℕ → ℕ
together f zero = 0
together f (suc n) = together f n + f n

abbrev pub Slot : {S : Type 0} → (S → Type 0) → ℕ → List S → Type 0
Slot P i [] = ⊥
Slot P zero (x ∷ xs) = P x
Slot P (suc i) (x ∷ xs) = Slot P i xs
