-- `session::total::sum` meets its contract. The loop's invariant: total is the sum of the other tasks' shares, of those passed, at most the largest share for each.
use Prim.Native.Nat.{◌+◌, ◌*◌, ◌^◌, ◌≤◌}
use mathlib.Core.Path.{◌≡◌}
use Rattle.objects.specs.Below.{sum}
use Rattle.session.proofs.Laws.Total.{others}
use Rattle.session.proofs.total.sum.Given as goal

abbrev pub invariant-loop-j : goal.invariant-loop-j
invariant-loop-j l = (l.total ≡ sum l.j (others l.fn.s l.task l.length)) × (l.total ≤ l.j * (255 * (2 ^ 32 + 1)))
