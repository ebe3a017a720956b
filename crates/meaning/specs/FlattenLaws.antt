-- When a flatten is sound, and what its chooser keeps.
--   Shut          a tree that can't complicate until it simplifies again
--   Fitting       every tree that a runner will ever give fits
--   LastBack      where nothing is kept for the last, the source is shut and no regeneration remains; else what is kept fits and
--                 is shut, and so is current
--   FlatSound     the source is sound, current and all that the runner gives fit, and the way back is as above
--   flat_sound    a flatten's place is blank, or its trees are sound and grown and the flatten is
--   ChooserKeeps  all that a chooser may choose agree on which places have too few slots, and keep its longest

use Rattle.std.specs.Prelude.{◌≡◌, ℕ, ◌≤◌, Bool, false, List, Some, None, Option}
use Rattle.meaning.specs.Trees.{Steps}
use Rattle.meaning.specs.Places.{Place}
use Rattle.meaning.specs.PlaceLaws.{WhereGrown}
use Rattle.meaning.specs.TableLaws.{Standing, Limited}
use Rattle.meaning.specs.Fuses.{FuseTree}
use Rattle.meaning.specs.Offers.{Request, Offers}
use Rattle.meaning.specs.Flattens.{FlatTree, Chooser}

abbrev pub Shut : {S : Type 0} → FuseTree S → Type 0
Shut f = f.may_complicate ≡ false

module _ {S I : Type 0} (t : Steps S I) (sound : S → Type 0) where
  abbrev pub Fitting : {J : Type 0} → ℕ → Offers J S → Type 0
  Fitting {J} longest offers = (later : List (Request J S)) (l : List J) (place new : S) → (offers later).grows l place ≡ Some new → Limited t sound longest new

  abbrev pub LastBack : {M J : Type 0} → FlatTree M S J → Option (FuseTree S) → Type 0
  LastBack x None = Shut x.meta × (x.remaining ≡ 0)
  LastBack x (Some final) = Limited t sound x.longest final.inner × Shut final × Shut x.current

  pub record FlatSound {M J : Type 0} (source_sound : M → Type 0) (x : FlatTree M S J) : Type 0 where
    pub source : source_sound x.meta.inner
    pub current : Limited t sound x.longest x.current.inner
    pub offers : Fitting x.longest x.runner
    pub way_back : LastBack x x.final_complication

abbrev pub flat_sound : {M S J I : Type 0} → Steps M J → Steps S I → (M → Type 0) → (S → Type 0) → Place (FlatTree M S J) → Type 0
flat_sound source t source_sound sound = WhereGrown (FlatSound t (Standing t sound) (Standing source source_sound))

pub record ChooserKeeps {Q J P S : Type 0} (chooser : Chooser Q J P S) (short : P → S → Bool) (stated : P → ℕ) : Type 0 where
  pub agrees : (q : Q) (l : List J) (s : S) → short (chooser.choose q l) s ≡ chooser.lacks_slots q s
  pub fits : (q : Q) (l : List J) → stated (chooser.choose q l) ≤ chooser.longest q
