-- `tally::entry::enter_commit` meets its contract: a commit is one item, in the figures of its task. Assumes nothing.
use Prim.Native.Nat.{◌%◌}
use mathlib.Core.Path.{sym, ◌∙◌}
use mathlib.Core.List.{[], ◌∷◌}
use Rattle.report.specs.Items.{commit, figures_at}
use Rattle.tally.proofs.Laws.Counted.{fits_is, passes_is, set_is, total_passes}
use Rattle.tally.proofs.Laws.Entered.{enterable_one, entered_one}
use Rattle.tally.proofs.Laws.Entering.{taken, refused}
use Rattle.tally.proofs.entry.enter_commit.Goals as goal

pub returns-in_err-figures : goal.returns-in_err-figures
returns-in_err-figures c =
    let all = c.args.figures.now in
    let x = commit (c.args.task % 64) c.args.waited in
    let made = c.with_commit-after.result in
    let passes = passes_is (figures_at all (c.args.task % 64)) x made (rw c.from-i.ensures at c.with_commit-after.ensures) c.in_err-figures.ensures.ok_part in
    refused all (x ∷ []) c.from_residual.result all (enterable_one all x ∙ passes)
    (total_passes made c.in_err-figures.field-0.0 c.from_residual.result c.in_err-figures.ensures.ok_part c.in_err-figures.ensures.value c.from_residual.ensures.1)

pub returns : goal.returns
returns c =
    let all = c.args.figures.now in
    let x = commit (c.args.task % 64) c.args.waited in
    let g = c.in_ok-figures.field-0 in
    let fits = fits_is (figures_at all (c.args.task % 64)) x c.with_commit-after.result (rw c.from-i.ensures at c.with_commit-after.ensures) g c.in_ok-figures.ensures.ok_part in
    rw c.from-i.ensures (taken all (x ∷ []) _ (enterable_one all x ∙ fits.0) (set_is all x g fits.1 ∙ sym (entered_one all x)))
