-- What holds of every reduction, told by its cases.
--   Cases             a reduction is spent at once; or it passes at its first verdict; or after a verdict it goes down or up by a
--                     step, and the step goes on with a reduction of which it holds already, or ends it
--   every_reduction   what holds in these cases holds of every reduction

use Rattle.std.proofs.Common.{◌≡◌, ℕ, zero, suc, Bool, true, false, List, []}
use Rattle.std.proofs.lemmas.Bool.{cond_both}
use Rattle.meaning.specs.declared.reduction.End.TheVariants.{Passes, Ended, Spent}
use Rattle.meaning.specs.Trees.{Steps}
use Rattle.meaning.specs.Reductions.{still, step, Reduction, over_at, preceded, judged, reduction}
use Rattle.meaning.specs.Reductions.Happening.{simplify, complicate, verdict}

-- Holds speaks of a reduction with so many verdicts left, which is at its first or not, with a result so far, from a state
module _ {S I : Type 0} (t : Steps S I) (Holds : ℕ → (first : Bool) → List I → S → Reduction S I → Type 0) where
  pub record Cases : Type 0 where
    pub spent : (first : Bool) (result : List I) (s : S) → Holds zero first result s (over_at Spent result s)
    pub passes : (n : ℕ) (result : List I) (s : S) → Holds (suc n) true result s (preceded (still (verdict false) s) (over_at Passes [] s))
    pub down : (n : ℕ) (first : Bool) (result : List I) (s : S) (more : Reduction S I) → (t.simplify s).answer ≡ true → Holds n false (t.candidate s) (t.simplify s).tree more →
        Holds (suc n) first result s (preceded (still (verdict true) s) (preceded (step simplify s (t.simplify s)) more))
    pub down_ends : (n : ℕ) (first : Bool) (result : List I) (s : S) → (t.simplify s).answer ≡ false →
        Holds (suc n) first result s (preceded (still (verdict true) s) (preceded (step simplify s (t.simplify s)) (over_at Ended (t.candidate s) (t.simplify s).tree)))
    pub up : (n : ℕ) (result : List I) (s : S) (more : Reduction S I) → (t.complicate s).answer ≡ true → Holds n false result (t.complicate s).tree more →
        Holds (suc n) false result s (preceded (still (verdict false) s) (preceded (step complicate s (t.complicate s)) more))
    pub up_ends : (n : ℕ) (result : List I) (s : S) → (t.complicate s).answer ≡ false →
        Holds (suc n) false result s (preceded (still (verdict false) s) (preceded (step complicate s (t.complicate s)) (over_at Ended result (t.complicate s).tree)))

  module _ (cases : Cases) where
    by_verdict : (n : ℕ) (failed first : Bool) (result : List I) (s : S) (down up : Reduction S I) → Holds n false (t.candidate s) (t.simplify s).tree down → Holds n false result (t.complicate s).tree up →
        Holds (suc n) first result s (preceded (still (verdict failed) s) (judged t failed first (t.candidate s) result s down up))
    by_verdict n true first result s down up d u = cond_both (t.simplify s).answer _ _ (λ (more : Reduction S I). Holds (suc n) first result s (preceded (still (verdict true) s) (preceded (step simplify s (t.simplify s)) more)))
        (λ goes. cases.down n first result s down goes d)
        (cases.down_ends n first result s)
    by_verdict n false true result s down up d u = cases.passes n result s
    by_verdict n false false result s down up d u = cond_both (t.complicate s).answer _ _ (λ (more : Reduction S I). Holds (suc n) false result s (preceded (still (verdict false) s) (preceded (step complicate s (t.complicate s)) more)))
        (λ goes. cases.up n result s up goes u)
        (cases.up_ends n result s)

    pub every_reduction : (fails : List I → Bool) (n : ℕ) (first : Bool) (result : List I) (s : S) → Holds n first result s (reduction t fails n first result s)
    every_reduction fails zero first result s = cases.spent first result s
    every_reduction fails (suc n) first result s = by_verdict n (fails (t.candidate s)) first result s _ _
        (every_reduction fails n false (t.candidate s) (t.simplify s).tree)
        (every_reduction fails n false result (t.complicate s).tree)
