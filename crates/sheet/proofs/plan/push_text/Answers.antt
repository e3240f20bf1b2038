-- `sheet::plan::push_text` meets its contract: the table follows the first line.
use Rattle.std.proofs.Common.{arith}
use Rattle.std.proofs.lemmas.Bool.{false≢true}
use Rattle.text.specs.Lines.{joined, parts_after}
use Rattle.text.proofs.Pushing.{pushes_more, pushes_stop, pushes_err, pushes_as}
use Rattle.sheet.specs.Text.{named_text}
use Rattle.sheet.specs.Sums.{sums_text}
use Rattle.sheet.proofs.Writing.{sums_parts}
use Rattle.sheet.proofs.plan.push_text.Goals as goal

pub returns-in_err-push_rest : goal.returns-in_err-push_rest
unfolding sums_text named_text
returns-in_err-push_rest g c = record {
  is = pushes_err _ c.from_residual.ensures.0 (pushes_stop _ (pushes_stop _ c.in_err-push_rest.ensures.is));
  short = λ room. absurd (false≢true (c.in_err-push_rest.ensures.short (omega arith)).0);
}

pub returns : goal.returns
unfolding named_text joined parts_after
returns g c = record {
  is = pushes_as (pushes_more c.in_ok-push_rest.ensures.is c.push_table.ensures.is) (sums_parts c.args.s c.args.ticks c.min.result c.min.ensures);
  short = λ room.
      let first = c.in_ok-push_rest.ensures.short (omega arith) in
      let last = c.push_table.ensures.short (omega (arith, first.1)) in
      (last.0, omega (arith, first.1, last.1));
}
