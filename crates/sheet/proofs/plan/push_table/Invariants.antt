-- `sheet::plan::push_table` meets its contract. The loop's invariant: the rows of the tasks passed follow the names of the columns, each of at most 25 bytes.
use Rattle.std.proofs.Common.{◌≡◌, ◌++◌, length, ◌≤◌, ◌+◌, ◌*◌}
use Rattle.text.specs.Lines.{joined}
use Rattle.sheet.specs.Sums.{sum_columns, sum_rows}
use Rattle.sheet.proofs.plan.push_table.Given as goal

abbrev pub invariant-loop-i : goal.invariant-loop-i
invariant-loop-i g l = record {
  text : l.line.items ≡ l.fn.line.items ++ (joined sum_columns ++ sum_rows l.s l.ticks l.i);
  fits : length l.line.items ≤ g.row.N;
  short : length l.fn.line.items + 1609 ≤ g.row.N → length l.line.items ≤ length l.fn.line.items + 9 + 25 * l.i;
}
