-- `sheet::compose::push_table` meets its contract: each turn puts one row more, and at the end each task has its row.
use Rattle.std.proofs.Common.{ℕ, ◌≡◌, ◌∙◌, arith, length, refl, append_assoc}
use Rattle.std.proofs.lemmas.Bool.{false≢true}
use Rattle.text.specs.Lines.{joined, parts_after}
use Rattle.text.proofs.Pushing.{pushes_more, pushes_stop, pushes_err, pushes_as, pushes_never, pushes_size, pushes_fits, pushes_done, pieces_more}
use Rattle.report.specs.Items.{figures_at}
use Rattle.sheet.specs.Text.{row_text, rows_text}
use Rattle.sheet.proofs.Writing.{rows_more}
use Rattle.sheet.proofs.compose.push_table.Goals as goal

pub returns-in_err-push_word : goal.returns-in_err-push_word
unfolding joined parts_after
returns-in_err-push_word g c = record {
  is = pushes_err _ c.from_residual.ensures.0 (pushes_stop _ c.in_err-push_word.ensures.is);
  short = λ room. absurd (pushes_never c.in_err-push_word.ensures.is (omega arith));
}

pub loop-i-init : goal.loop-i-init
unfolding joined parts_after rows_text
loop-i-init g c = record {
  text = c.in_ok-push_word.ensures.is.text refl;
  fits = pushes_fits c.in_ok-push_word.ensures.is;
  short = λ room. omega (arith, pushes_size c.in_ok-push_word.ensures.is);
}

pub loop-i-preserved : goal.loop-i-preserved
loop-i-preserved g c =
    let loop = c.loop-i in
    let pushed = c.in_ok-push_row.ensures.is in
    record {
      text = pushed.text refl ∙ rw (loop.invariant.text, rows_more) (simp append_assoc);
      fits = pushes_fits pushed;
      short = λ room.
          let before = loop.invariant.short room in
          let most = c.in_ok-push_row.ensures.short (omega arith) in
          omega (arith, most.1);
    }

pub returns-in_err-push_row : goal.returns-in_err-push_row
returns-in_err-push_row g c =
    let rows = c.args.rows.now in
    let loop = c.loop-i in
    let more = pieces_more (λ (k : ℕ). rows_text k rows) (λ k. row_text k (figures_at rows k)) (λ k. rows_more k rows) loop.i (length rows) (omega arith) in
    let before = pushes_done loop.invariant.text loop.invariant.fits in
    record {
      is = pushes_err _ c.from_residual-in_err-push_row.ensures.0
          (pushes_as (pushes_more before (pushes_stop more.0 c.in_err-push_row.ensures.is)) (rw more.1 (simp append_assoc)));
      short = λ room. absurd (false≢true (c.in_err-push_row.ensures.short (omega (arith, loop.invariant.short room))).0);
    }

pub returns : goal.returns
returns g c =
    let loop = c.loop-i in
    let all : loop.i ≡ length c.args.rows.now = omega arith in
    record {
      is = pushes_done (rw all at loop.invariant.text) loop.invariant.fits;
      short = λ room. (refl, omega (arith, loop.invariant.short room));
    }
