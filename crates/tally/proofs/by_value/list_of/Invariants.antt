-- `tally::by_value::list_of` meets its contract. The loop's invariant: the list has the waits of the admissions passed.
use mathlib.Core.Path.{◌≡◌}
use lib.ListN.{length}
use Rattle.tally.specs.Parts.{Lists}
use Rattle.tally.proofs.by_value.list_of.Given as goal

abbrev pub invariant-loop-k : goal.invariant-loop-k
invariant-loop-k l = record {
  size : length l.list ≡ 64;
  lists : Lists l.tasks l.tick l.admitted.list l.k l.list;
}
