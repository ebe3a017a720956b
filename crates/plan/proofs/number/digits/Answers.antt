use Rattle.std.proofs.Common.{◌≡◌, get_or, sym, ◌∙◌, arith, rules}
use Rattle.std.specs.Char.{digit_value}
use Rattle.plan.specs.Numbers.{largest_word}
use Rattle.plan.proofs.Digits.{worth_large}
use Rattle.plan.proofs.number.digits.Goals as goal

pub returns-in_err-checked_mul : goal.returns-in_err-checked_mul
returns-in_err-checked_mul c =
    rw c.from_residual-in_err-checked_mul.ensures
    (sym (worth_large largest_word c.loop-byte.value c.args.text.now c.loop-byte.byte-index c.loop-byte-test.true (search rules) (omega arith))
    ∙ c.loop-byte.invariant.0)

pub returns-in_err-value : goal.returns-in_err-value
returns-in_err-value c =
    let digit : c.in_ok-digit.digit ≡ digit_value (get_or c.args.text.now c.loop-byte.byte-index 0) = search rules in
    rw c.from_residual-in_err-value.ensures
    (sym (worth_large largest_word c.loop-byte.value c.args.text.now c.loop-byte.byte-index c.loop-byte-test.true (search rules) (omega (arith, digit)))
    ∙ c.loop-byte.invariant.0)
