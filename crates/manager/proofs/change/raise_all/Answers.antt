-- `manager::change::raise_all` meets its contract: at the loop's end all places of the row are passed.
use mathlib.Core.Path.{◌≡◌, ◌∙◌}
use native.Mathlib.Omega.{arith}
use Rattle.machine.specs.Places.{row_held}
use Rattle.machine.specs.Events.{busy_in}
use Rattle.manager.proofs.change.raise_all.Goals as goal

pub returns : goal.returns
unfolding busy_in
returns c =
    let p_is : c.loop-p.p ≡ row_held c.args.words.now = omega arith in
    c.loop-p.invariant ∙ rw (p_is, c.ones_of.ensures, c.ones_of-2.ensures)
