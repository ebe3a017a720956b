-- What a reduction gives: its result lies in the first items of the buffer, as far as that goes.

use Rattle.std.proofs.Common.{◌≡◌, ℕ, min, Bool, true, List, [], length, take, sym, subst, arith}
use Rattle.buffers.specs.Over.{over}
use Rattle.std.proofs.Math.Seq.{take-nil}
use Rattle.buffers.proofs.Overs.{length_over, take_over}
use Rattle.meaning.specs.Trees.{Steps}
use Rattle.meaning.specs.Reductions.{Reduction, reduction, copied}
use Rattle.reduction.proofs.Along.{Cases, along}

-- the first items of a buffer are those of a list
abbrev Begins : {I : Type 0} → List I → List I → ℕ → Type 0
Begins b xs room = take (min (length xs) room) b ≡ take room xs

begins_none : {I : Type 0} (b : List I) (room : ℕ) → Begins b [] room
begins_none b room = let e : min 0 room ≡ 0 = omega arith in rw e (sym (take-nil room))

module _ {S I : Type 0} (t : Steps S I) where
  -- after a reduction's own events
  abbrev pub Gives : Reduction S I → List I → Type 0
  Gives r b = Begins (copied t r.own b) r.result (length b)

  -- where the buffer begins with the list that failed last
  abbrev GivesFrom : List I → S → Reduction S I → Type 0
  GivesFrom result s r = (b : List I) → Begins b result (length b) → Gives r b

  gives : Cases t GivesFrom
  gives = record {
    over = λ end result s b h. h;
    passes = λ result s b h. begins_none b (length b);
    down = λ result s more g b h.
        let c = t.candidate s in
        let length_same = length_over c b in
        subst (Begins (copied t more.own (over c b)) more.result) length_same (g (over c b) (subst (Begins (over c b) c) (sym length_same) (take_over c b)));
    up = λ result s more g b h. g b h;
  }

  -- of a whole reduction
  pub gives_whole : (fails : List I → Bool) (budget : ℕ) (s : S) (b : List I) → Gives (reduction t fails budget true [] s) b
  gives_whole fails budget s b = along GivesFrom gives fails budget true [] s b (begins_none b (length b))
