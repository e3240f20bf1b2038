-- `manager::row::scan` meets its contract. The loop's invariant: the words, the list and the three counts are those of the scan that has come past the first p places.
use Rattle.manager.proofs.Laws.Scan.{Looked}
use Rattle.manager.proofs.row.scan.Given as goal

abbrev pub invariant-loop-p : goal.invariant-loop-p
invariant-loop-p l =
    Looked l.initial.words l.initial.list l.p (record { words = l.words; list = l.list; admitted = l.admitted; kept = l.kept; left = l.left })
