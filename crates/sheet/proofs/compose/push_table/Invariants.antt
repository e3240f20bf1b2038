-- `sheet::compose::push_table` meets its contract. The loop's invariant: the rows of the tasks passed follow the names of the columns, each of at most 80 bytes.
use Rattle.std.proofs.Common.{◌≡◌, ◌++◌, length, ◌≤◌, ◌+◌, ◌*◌}
use Rattle.text.specs.Lines.{joined}
use Rattle.sheet.specs.Text.{columns, rows_text}
use Rattle.sheet.proofs.compose.push_table.Given as goal

abbrev pub invariant-loop-i : goal.invariant-loop-i
invariant-loop-i g l = record {
  text : l.line.items ≡ l.fn.line.items ++ (joined columns ++ rows_text l.i l.rows);
  fits : length l.line.items ≤ g.row.N;
  short : length l.fn.line.items + 5178 ≤ g.row.N → length l.line.items ≤ length l.fn.line.items + 58 + 80 * l.i;
}
