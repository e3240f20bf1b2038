-- `sheet::plan::push_table` meets its contract: each turn puts one row more, and at the end each task has its row.
use Rattle.std.proofs.Common.{◌≡◌, ◌∙◌, arith, refl, append_assoc}
use Rattle.std.proofs.lemmas.Bool.{false≢true}
use Rattle.text.specs.Lines.{joined, parts_after}
use Rattle.text.proofs.Pushing.{pushes_more, pushes_stop, pushes_err, pushes_as, pushes_never, pushes_size, pushes_fits, pushes_done, pieces_more}
use Rattle.sheet.specs.Sums.{sum_text, sum_rows}
use Rattle.sheet.proofs.Writing.{sum_rows_more}
use Rattle.sheet.proofs.plan.push_table.Goals as goal

pub returns-in_err-push_word : goal.returns-in_err-push_word
unfolding joined parts_after
returns-in_err-push_word g c = record {
  is = pushes_err _ c.from_residual.ensures.0 (pushes_stop _ c.in_err-push_word.ensures.is);
  short = λ room. absurd (pushes_never c.in_err-push_word.ensures.is (omega arith));
}

pub loop-i-init : goal.loop-i-init
unfolding joined parts_after sum_rows
loop-i-init g c = record {
  text = c.in_ok-push_word.ensures.is.text refl;
  fits = pushes_fits c.in_ok-push_word.ensures.is;
  short = λ room. omega (arith, pushes_size c.in_ok-push_word.ensures.is);
}

pub loop-i-preserved : goal.loop-i-preserved
loop-i-preserved g c =
    let loop = c.loop-i in
    let pushed = c.in_ok-push_sum.ensures.is in
    record {
      text = pushed.text refl ∙ rw (loop.invariant.text, sum_rows_more) (simp append_assoc);
      fits = pushes_fits pushed;
      short = λ room.
          let before = loop.invariant.short room in
          let most = c.in_ok-push_sum.ensures.short (omega arith) in
          omega (arith, most.1);
    }

pub returns-in_err-push_sum : goal.returns-in_err-push_sum
returns-in_err-push_sum g c =
    let a = c.args in
    let loop = c.loop-i in
    let more = pieces_more (sum_rows a.s a.ticks) (sum_text a.s a.ticks) (sum_rows_more a.s a.ticks) loop.i a.n (omega arith) in
    let before = pushes_done loop.invariant.text loop.invariant.fits in
    record {
      is = pushes_err _ c.from_residual-in_err-push_sum.ensures.0
          (pushes_as (pushes_more before (pushes_stop more.0 c.in_err-push_sum.ensures.is)) (rw more.1 (simp append_assoc)));
      short = λ room. absurd (false≢true (c.in_err-push_sum.ensures.short (omega (arith, loop.invariant.short room))).0);
    }

pub returns : goal.returns
returns g c =
    let loop = c.loop-i in
    let all : loop.i ≡ c.args.n = omega arith in
    record {
      is = pushes_done (rw all at loop.invariant.text) loop.invariant.fits;
      short = λ room. (refl, omega (arith, loop.invariant.short room));
    }
