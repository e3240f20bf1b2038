-- `sheet::compose::push_row` meets its contract: the figures follow the number of the task, which has at most two digits.
use Rattle.std.proofs.Common.{arith}
use Rattle.text.specs.Lines.{joined, parts_after}
use Rattle.text.proofs.Decimal.{decimal_few}
use Rattle.text.proofs.Pushing.{pushes_more, pushes_stop, pushes_err, pushes_never, pushes_size}
use Rattle.sheet.specs.Text.{decimals, row_text}
use Rattle.sheet.proofs.compose.push_row.Goals as goal

pub returns-in_err-push_number : goal.returns-in_err-push_number
unfolding row_text joined parts_after decimals
returns-in_err-push_number g c = record {
  is = pushes_err _ c.from_residual.ensures.0 (pushes_stop _ c.in_err-push_number.ensures.is);
  short = λ room. absurd (pushes_never c.in_err-push_number.ensures.is (omega (arith, decimal_few c.args.i 1 (omega arith))));
}

pub returns : goal.returns
unfolding row_text joined parts_after decimals
returns g c = record {
  is = pushes_more c.in_ok-push_number.ensures.is c.push_rest.ensures.is;
  short = λ room.
      let number = pushes_size c.in_ok-push_number.ensures.is in
      let digits = decimal_few c.args.i 1 (omega arith) in
      let last = c.push_rest.ensures.short (omega arith) in
      (last.0, omega (arith, last.1));
}
