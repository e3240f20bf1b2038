-- `sheet::compose::push_bad_front` meets its contract: the number has at most three digits.
use Rattle.std.proofs.Common.{arith}
use Rattle.text.proofs.Pushing.{pushes_never, pushes_short, pushes_size}
use Rattle.text.proofs.Sizes.{three}
use Rattle.sheet.proofs.compose.push_bad_front.Goals as goal

pub returns-in_err-push_number-clause-short : goal.returns-in_err-push_number-clause-short
returns-in_err-push_number-clause-short g c = λ room.
    absurd (pushes_never c.in_err-push_number.ensures.is (omega (arith, pushes_size c.in_ok-push_word.ensures.is, three c.from.result (omega arith))))

pub returns-clause-short : goal.returns-clause-short
returns-clause-short g c = λ room.
    let digits = three c.from.result (omega arith) in
    let word = pushes_size c.in_ok-push_word.ensures.is in
    let number = pushes_size c.in_ok-push_number.ensures.is in
    let last = pushes_short 1 c.push_word-2.ensures.is (omega arith) (omega arith) in
    (last.0, omega (arith, last.1))
