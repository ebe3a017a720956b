use Rattle.std.proofs.Common.{◌≡◌, sym, add-one, arith, rules}
use Rattle.std.proofs.lemmas.Iterator.{IsFirst-from_position, YieldsList-from_slice}
use Rattle.std.proofs.lemmas.List.{take_rest}
use borrow.Author.Tests.{tests}
use Rattle.plan.proofs.Cutting.{cut_at, cut_none}
use Rattle.plan.proofs.parts.cut.Goals as goal

pub returns-in_err-at : goal.returns-in_err-at
returns-in_err-at c =
    let first = IsFirst-from_position _ _ _ (λ b. b ≡ c.args.mark) (λ b. b ≡ c.args.mark → ⊥) c.in_err-at.ensures.ran
    (YieldsList-from_slice c.args.text.now cc) (λ x q k. search (rules, tests)) (λ x q k. (search (rules, tests), search (rules, tests))) in
    rw c.from_residual.ensures (sym (cut_none c.args.mark c.args.text.now (λ k h. first k 0 (omega arith) h)))

pub returns : goal.returns
returns c =
    let first = IsFirst-from_position _ _ _ (λ b. b ≡ c.args.mark) (λ b. b ≡ c.args.mark → ⊥) c.in_ok-at.ensures.ran
    (YieldsList-from_slice c.args.text.now cc) (λ x q k. search (rules, tests)) (λ x q k. (search (rules, tests), search (rules, tests))) in
    rw (take_rest, add-one) (sym (cut_at c.args.mark c.args.text.now c.in_ok-at.at first.0 (λ k h. first.2 k 0 (omega arith) h) (first.1 0)))
