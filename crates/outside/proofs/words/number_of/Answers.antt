-- `number_of` meets its contract: each byte says what `Digits` says of it.
use Rattle.std.proofs.Common.{◌∙◌, arith, rules}
use Rattle.outside.proofs.Digits.{empty, from_start, no_digit, digit_more, digit_too_large, at_end}
use Rattle.outside.proofs.words.number_of.Goals as goal

pub returns-then-is_empty : goal.returns-then-is_empty
returns-then-is_empty c = empty c.args.word.now (search rules)

pub loop-byte-init : goal.loop-byte-init
loop-byte-init c = (omega arith, from_start c.args.word.now (search rules))

pub returns-in_err-digit : goal.returns-in_err-digit
returns-in_err-digit c =
    c.from_residual.ensures
    ∙ no_digit c.args.word.now c.loop-byte.byte-index c.loop-byte.value (omega arith) c.in_err-digit.ensures.cases
    ∙ c.loop-byte.invariant.1

pub returns-in_err-value : goal.returns-in_err-value
returns-in_err-value c =
    c.from_residual-in_err-value.ensures
    ∙ digit_too_large c.args.word.now c.loop-byte.byte-index c.loop-byte.value (omega arith) c.in_ok-digit.ensures.value.0 (omega (arith, c.in_ok-digit.ensures.value.1, c.in_err-value.ensures))
    ∙ c.loop-byte.invariant.1

pub loop-byte-preserved : goal.loop-byte-preserved
loop-byte-preserved c = (
  omega (arith, c.in_ok-value.ensures.0, c.in_ok-value.ensures.1),
  rw (c.in_ok-value.ensures.1, c.in_ok-digit.ensures.value.1)
      (digit_more c.args.word.now c.loop-byte.byte-index c.loop-byte.value (omega arith) c.in_ok-digit.ensures.value.0 ∙ c.loop-byte.invariant.1),
)

pub returns : goal.returns
returns c = at_end c.args.word.now c.loop-byte.byte-index c.loop-byte.value (omega arith) (omega arith) ∙ c.loop-byte.invariant.1
