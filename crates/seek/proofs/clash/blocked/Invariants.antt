-- `seek::clash::blocked` meets its contract. The invariant of the loop over tasks: the transaction is blocked where it clashes with one of the tasks to come. That of the loop
-- over groups: no group passed is contested. Assumes nothing.
use mathlib.Core.Path.{◌≡◌}
use mathlib.Core.Bool.{false}
use Rattle.objects.specs.Below.{any}
use Rattle.seek.specs.Tasks.{tasks_in}
use Rattle.seek.proofs.Laws.Clash.{group_clash}
use Rattle.seek.proofs.Laws.Loops.{Met}
use Rattle.seek.proofs.clash.blocked.Given as goal

abbrev pub invariant-loop-g : goal.invariant-loop-g
invariant-loop-g l = (l.found ≡ false) × (any l.g (group_clash l.words l.i l.j) ≡ false)

abbrev pub invariant-search : goal.invariant-search
invariant-search l = (l.found ≡ false) × Met l.words l.i (tasks_in l.other-iterator.0)
