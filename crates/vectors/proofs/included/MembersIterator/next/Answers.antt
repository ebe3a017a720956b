use Rattle.std.proofs.Common.{◌≡◌, true, false, length, drop, le_refl, sym, ap, ◌∙◌, rules, tests, arith}
use Rattle.std.specs.List.{slice_range}
use Rattle.std.proofs.lemmas.Iterator.{IsFirst-from_position, YieldsList-from_slice}
use Rattle.std.proofs.lemmas.Slice.{between_to_end}
use Rattle.vectors.proofs.Members.{numbers_first, no_numbers}
use Rattle.vectors.proofs.included.MembersIterator.next.Goals as goal

pub returns-in_err-number-clause-steps : goal.returns-in_err-number-clause-steps
returns-in_err-number-clause-steps c =
    let bs = c.self.inside.included.now in
    let next = c.self.inside.next in
    let seen : c.as_slice.result.now ≡ bs = c.as_slice.ensures.value ∙ c.included.view_is in
    let look = c.in_ok-left.ensures.lookup in
    let cut : c.in_ok-left.left.now ≡ slice_range c.as_slice.result.now next (length c.as_slice.result.now) = search rules in
    let rest : c.in_ok-left.left.now ≡ drop next bs = cut ∙ between_to_end _ next _ (le_refl _) ∙ ap (drop next) seen in
    let first = IsFirst-from_position _ _ _ (λ b. b ≡ true) (λ b. b ≡ false) c.in_err-number.ensures.ran
    (YieldsList-from_slice c.in_ok-left.left.now cc) (λ x q k. search (rules, tests)) (λ x q k. search (rules, tests)) in
    let left : c.args.self.now ≡ _ = sym c.self.view_is ∙ no_numbers (drop next bs) next (λ k h. rw rest at (first k false (omega arith) (rw rest h))) in
    rw c.from_residual-in_err-number.ensures (left, left)

pub returns-clause-steps : goal.returns-clause-steps
returns-clause-steps c =
    let bs = c.self.inside.included.now in
    let next = c.self.inside.next in
    let p = c.in_ok-number.field-0 in
    let seen : c.as_slice.result.now ≡ bs = c.as_slice.ensures.value ∙ c.included.view_is in
    let look = c.in_ok-left.ensures.lookup in
    let cut : c.in_ok-left.left.now ≡ slice_range c.as_slice.result.now next (length c.as_slice.result.now) = search rules in
    let rest : c.in_ok-left.left.now ≡ drop next bs = cut ∙ between_to_end _ next _ (le_refl _) ∙ ap (drop next) seen in
    let first = IsFirst-from_position _ _ _ (λ b. b ≡ true) (λ b. b ≡ false) c.in_ok-number.ensures.ran
    (YieldsList-from_slice c.in_ok-left.left.now cc) (λ x q k. search (rules, tests)) (λ x q k. search (rules, tests)) in
    sym c.self.view_is ∙ numbers_first bs next p (rw rest at first.0) (rw rest at (first.1 false)) (λ k h. rw rest at (first.2 k false (omega arith) h))

pub returns-clause-goes : goal.returns-clause-goes
returns-clause-goes c = let fewer = ap length (returns-clause-steps c) in record { on = λ _. (tt, tt, omega (arith, fewer)); keeps = tt; rests = λ _. tt }
