-- `session::by_value::admissions_of` meets its contract. The loop's invariant: as many places as were passed have the list's admissions, and the others none.
use mathlib.Core.Path.{◌≡◌}
use lib.ListN.{length}
use Rattle.session.specs.Listed.{first_of}
use Rattle.session.proofs.by_value.admissions_of.Given as goal

abbrev pub invariant-loop-k : goal.invariant-loop-k
invariant-loop-k l = l.admitted ≡ (record { count = l.count; list = first_of l.list (length l.yielded) })
