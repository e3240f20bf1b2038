-- `laid::back::task_back` meets its contract: each number is read from its place. Assumes nothing.
use Rattle.std.proofs.Common.{◌+◌, ◌*◌}
use native.Mathlib.Nat.{add-zero}
use Rattle.machine.specs.Opened.{task_back}
use Rattle.laid.proofs.back.task_back.Goals as goal

pub returns : goal.returns
unfolding task_back
returns c =
    rw (c.low_32.ensures, c.low_8.ensures, c.low_8-2.ensures, c.state_back.ensures, c.arrival_back.ensures, add-zero (136 + c.args.i * 8))
