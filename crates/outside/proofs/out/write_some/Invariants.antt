-- The loop of `write_some`: what failed has written nothing.
use Rattle.std.specs.Io.KnownBytes.{Keeps}
use Rattle.outside.proofs.out.write_some.Given as goal

abbrev pub invariant-loop : goal.invariant-loop
invariant-loop g l = Keeps (g.W.Write.contents l.fn.to) (g.W.Write.contents l.to)
