-- `text::digits` meets its contract.
use Rattle.std.proofs.Common.{◌∙◌, arith, rules, tests}
use Rattle.pauli.specs.Text.{is_digit}
use Rattle.pauli.proofs.Numerals.{digits_empty, digits-other, digits_over, digits_step, digits_all}
use Rattle.pauli.proofs.text.digits.Goals as goal

pub returns-then-is_empty : goal.returns-then-is_empty
returns-then-is_empty c = digits_empty _ (search (rules, tests))

pub returns-then-not-is_ascii_digit : goal.returns-then-not-is_ascii_digit
unfolding is_digit
returns-then-not-is_ascii_digit c = digits-other _ c.loop-c.invariant (omega arith) (search (rules, tests))

pub returns-in_err-checked_mul : goal.returns-in_err-checked_mul
returns-in_err-checked_mul c =
    c.from_residual.ensures ∙ digits_over _ c.loop-c.invariant (omega arith) (omega (arith, c.in_err-checked_mul.ensures))

pub returns-in_err-value : goal.returns-in_err-value
returns-in_err-value c =
    c.from_residual-in_err-value.ensures
    ∙ digits_over _ c.loop-c.invariant (omega arith) (omega (arith, c.in_err-value.ensures, c.in_ok-checked_mul.ensures, c.from.ensures))

pub loop-c-preserved : goal.loop-c-preserved
unfolding is_digit
loop-c-preserved c =
    digits_step
    _ c.loop-c.invariant (omega arith) (search (rules, tests)) (omega (arith, c.in_ok-value.ensures, c.in_ok-checked_mul.ensures, c.from.ensures))
    (omega (arith, c.in_ok-value.ensures))

pub returns : goal.returns
returns c = digits_all _ (search (rules, tests)) c.loop-c.invariant (omega arith)
