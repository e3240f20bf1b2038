-- `laid::put::open` meets its contract. The first loop's invariant: the words are those with the numbers of the first i tasks; the second's: those with their states.
use Rattle.std.proofs.Common.{◌≡◌}
use Rattle.machine.specs.Opened.{head_put, numbers_put, states_put}
use Rattle.laid.proofs.put.open.Given as goal

abbrev pub invariant-loop-i : goal.invariant-loop-i
invariant-loop-i l = l.words ≡ numbers_put (head_put l.fn.words l.fn.s) l.fn.s l.i

abbrev pub invariant-loop-i-2 : goal.invariant-loop-i-2
invariant-loop-i-2 l = l.words ≡ states_put l.initial.words l.fn.s l.i
