-- `sheet::compose::push_foot` meets its contract: four lines, each after the one before.
use Rattle.std.proofs.Common.{arith, ap, ◌++◌, ◌∙◌}
use Rattle.std.proofs.lemmas.Bool.{false≢true}
use Rattle.text.specs.Lines.{numbers_after}
use Rattle.text.proofs.Pushing.{pushes_more, pushes_stop, pushes_err, pushes_as}
use Rattle.sheet.specs.Text.{most_word, named_text, most_text, foot_text}
use Rattle.sheet.proofs.Writing.{numbers_line}
use Rattle.sheet.proofs.compose.push_foot.Goals as goal

pub returns-in_err-push_rest : goal.returns-in_err-push_rest
unfolding foot_text named_text most_text
returns-in_err-push_rest g c = record {
  is = pushes_err _ c.from_residual.ensures.0 (pushes_stop _ (pushes_stop _ (pushes_stop _ c.in_err-push_rest.ensures.is)));
  short = λ room. absurd (false≢true (c.in_err-push_rest.ensures.short (omega arith)).0);
}

pub returns-in_err-push_rest-2 : goal.returns-in_err-push_rest-2
unfolding foot_text named_text most_text
returns-in_err-push_rest-2 g c =
    let half = c.in_ok-push_rest.ensures in
    let nine = c.in_err-push_rest-2.ensures in
    record {
      is = pushes_err _ c.from_residual-in_err-push_rest-2.ensures.0 (pushes_stop _ (pushes_stop _ (pushes_more half.is nine.is)));
      short = λ room.
          let first = half.short (omega arith) in
          absurd (false≢true (nine.short (omega (arith, first.1))).0);
    }

pub returns-in_err-push_rest-3 : goal.returns-in_err-push_rest-3
unfolding foot_text named_text most_text
returns-in_err-push_rest-3 g c =
    let half = c.in_ok-push_rest.ensures in
    let nine = c.in_ok-push_rest-2.ensures in
    let tasks = c.in_err-push_rest-3.ensures in
    let waited = pushes_as tasks.is (ap (λ s. most_word ++ numbers_after s) (c.as_slice.ensures.value ∙ c.most.ensures) ∙ numbers_line most_word _) in
    record {
      is = pushes_err _ c.from_residual-in_err-push_rest-3.ensures.0 (pushes_stop _ (pushes_more (pushes_more half.is nine.is) waited));
      short = λ room.
          let first = half.short (omega arith) in
          let second = nine.short (omega (arith, first.1)) in
          absurd (false≢true (tasks.short (omega (arith, first.1, second.1))).0);
    }

pub returns : goal.returns
unfolding foot_text named_text most_text
returns g c =
    let half = c.in_ok-push_rest.ensures in
    let nine = c.in_ok-push_rest-2.ensures in
    let tasks = c.in_ok-push_rest-3.ensures in
    let waited = pushes_as tasks.is (ap (λ s. most_word ++ numbers_after s) (c.as_slice.ensures.value ∙ c.most.ensures) ∙ numbers_line most_word _) in
    record {
      is = pushes_more (pushes_more (pushes_more half.is nine.is) waited) c.push_long.ensures.is;
      short = λ room.
          let first = half.short (omega arith) in
          let second = nine.short (omega (arith, first.1)) in
          let third = tasks.short (omega (arith, first.1, second.1)) in
          let last = c.push_long.ensures.short (omega (arith, first.1, second.1, third.1)) in
          (last.0, omega (arith, first.1, second.1, third.1, last.1));
    }
