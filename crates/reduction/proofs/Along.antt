-- Induction along a reduction.

use Rattle.std.proofs.Common.{ℕ, Bool, true, false, List, []}
use Rattle.meaning.specs.declared.reduction.End.{End}
use Rattle.meaning.specs.declared.reduction.End.TheVariants.{Passes, Ended, Spent}
use Rattle.meaning.specs.Trees.{Steps}
use Rattle.meaning.specs.Reductions.{still, step, Reduction, over_at, preceded, reduction}
use Rattle.meaning.specs.Reductions.Happening.{simplify, complicate, verdict}
use Rattle.meaning.proofs.Reducing.{every_reduction}

-- a property of the list that failed last, the tree, and what a reduction then does: it holds where the reduction is over, and in
-- front of each verdict where it holds behind it
pub record Cases {S I : Type 0} (t : Steps S I) (P : List I → S → Reduction S I → Type 0) : Type 0 where
  pub over : (end : End) (result : List I) (s : S) → P result s (over_at end result s)
  pub passes : (result : List I) (s : S) → P result s (preceded (still (verdict false) s) (over_at Passes [] s))
  pub down : (result : List I) (s : S) (more : Reduction S I) → P (t.candidate s) (t.simplify s).tree more → P result s (preceded (still (verdict true) s) (preceded (step simplify s (t.simplify s)) more))
  pub up : (result : List I) (s : S) (more : Reduction S I) → P result (t.complicate s).tree more → P result s (preceded (still (verdict false) s) (preceded (step complicate s (t.complicate s)) more))

-- the induction over reductions, for a property that looks neither at the verdicts left nor at the answers of steps
pub along : {S I : Type 0} {t : Steps S I} (P : List I → S → Reduction S I → Type 0) → Cases t P → (fails : List I → Bool) (n : ℕ) (first : Bool) (result : List I) (s : S) → P result s (reduction t fails n first result s)
along {t = t} P c = every_reduction t (λ n first. P) (record {
  spent = λ first result s. c.over Spent result s;
  passes = λ n result s. c.passes result s;
  down = λ n first result s more goes p. c.down result s more p;
  down_ends = λ n first result s ends. c.down result s _ (c.over Ended (t.candidate s) (t.simplify s).tree);
  up = λ n result s more goes p. c.up result s more p;
  up_ends = λ n result s ends. c.up result s _ (c.over Ended result (t.complicate s).tree);
})
