-- `laid::back::read` meets its contract. The loop's invariant: the session is the one with the first i tasks read back.
use Rattle.std.proofs.Common.{◌≡◌}
use Rattle.machine.specs.Opened.{tasks_back}
use Rattle.laid.proofs.back.read.Given as goal

abbrev pub invariant-loop-i : goal.invariant-loop-i
invariant-loop-i l = l.back ≡ tasks_back l.words l.fn.s l.i
