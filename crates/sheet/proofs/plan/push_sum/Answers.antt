-- `sheet::plan::push_sum` meets its contract: the sum follows the number of the task, which has at most three digits.
use Rattle.std.proofs.Common.{ℕ, ◌≡◌, sym, arith}
use Rattle.std.specs.Prelude.{Result, Ok, Err}
use Rattle.std.specs.Result.{result_unwrap_or}
use Rattle.rules.specs.declared.Refusal.{Refusal}
use Rattle.rules.specs.Sum.{sum_of}
use Rattle.text.specs.Lines.{joined, parts_after}
use Rattle.text.proofs.Pushing.{pushes_more, pushes_stop, pushes_err, pushes_never, pushes_size}
use Rattle.text.proofs.Sizes.{three}
use Rattle.sheet.specs.Text.{decimals}
use Rattle.sheet.specs.Sums.{sum_text}
use Rattle.sheet.proofs.plan.push_sum.Goals as goal

-- what is pushed is the sum, and 0 where there is none
sum_given : (sum : Result ℕ Refusal) {given : ℕ} → given ≡ result_unwrap_or sum 0 → sum_of sum ≡ given
sum_given (Ok total) is = sym is
sum_given (Err refusal) is = sym is

pub returns-in_err-push_number : goal.returns-in_err-push_number
unfolding sum_text joined parts_after decimals
returns-in_err-push_number g c = record {
  is = rw (← c.from.ensures) (pushes_err _ c.from_residual.ensures.0 (pushes_stop _ c.in_err-push_number.ensures.is));
  short = λ room. absurd (pushes_never c.in_err-push_number.ensures.is (omega (arith, three c.from.result (omega arith))));
}

pub returns : goal.returns
unfolding sum_text joined parts_after decimals
returns g c = record {
  is = rw (← c.sum.ensures, sum_given c.sum.result c.unwrap_or.ensures, ← c.from.ensures) (pushes_more c.in_ok-push_number.ensures.is c.push_long.ensures.is);
  short = λ room.
      let number = pushes_size c.in_ok-push_number.ensures.is in
      let digits = three c.from.result (omega arith) in
      let last = c.push_long.ensures.short (omega arith) in
      (last.0, omega (arith, last.1));
}
