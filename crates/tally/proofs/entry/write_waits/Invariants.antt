-- `tally::entry::write_waits` meets its contract. The loop's invariant: the waits passed are written.
use mathlib.Core.Path.{◌≡◌}
use lib.ListN.{length}
use Rattle.report.specs.Items.{waits_in, written}
use Rattle.tally.specs.Listed.{listed_waits}
use Rattle.tally.proofs.entry.write_waits.Given as goal

abbrev pub invariant-loop-k : goal.invariant-loop-k
invariant-loop-k l = record {
  places : length l.row ≡ length l.fn.row;
  row : l.row ≡ written l.fn.row l.from (waits_in (listed_waits l.list l.tick l.k));
}
