-- `tally::entry::enter_waits` meets its contract. The loop's invariant: the waits passed fit, and the figures are those after them.
use mathlib.Core.Path.{◌≡◌}
use mathlib.Core.Bool.{true}
use lib.ListN.{length}
use Rattle.report.specs.Items.{entered, enterable}
use Rattle.tally.specs.Listed.{listed_waits}
use Rattle.tally.proofs.entry.enter_waits.Given as goal

abbrev pub invariant-loop-k : goal.invariant-loop-k
invariant-loop-k l = record {
  size : length l.figures ≡ 64;
  fit : enterable l.fn.figures (listed_waits l.list l.tick l.k) ≡ true;
  figures : l.figures ≡ entered l.fn.figures (listed_waits l.list l.tick l.k);
}
