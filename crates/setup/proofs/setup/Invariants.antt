-- `setup::setup` meets its contract. The loop's invariant: the tasks passed are fresh at their terms.
use Rattle.std.proofs.Common.{◌≡◌}
use Rattle.rules.specs.Setup.{fresh_tasks}
use Rattle.setup.proofs.setup.Given as goal

abbrev pub invariant-loop-i : goal.invariant-loop-i
invariant-loop-i l = l.tasks ≡ fresh_tasks l.fn.u l.i
