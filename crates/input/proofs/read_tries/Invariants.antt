-- The loop of `read_tries`: the bytes that wait stay, however often it is tried.
use Rattle.input.specs.Block.{Kept}
use Rattle.input.proofs.read_tries.Given as goal

abbrev pub invariant-loop : goal.invariant-loop
invariant-loop g l = Kept l.fn.window l.filled l.window
