-- `manager::change::raise_all` meets its contract. The loop's invariant: the words are those in which the first p places are raised.
use mathlib.Core.Path.{◌≡◌}
use Rattle.machine.specs.Events.{raised_in}
use Rattle.manager.proofs.change.raise_all.Given as goal

abbrev pub invariant-loop-p : goal.invariant-loop-p
invariant-loop-p l = l.words ≡ raised_in l.initial.words l.i l.busy l.p
