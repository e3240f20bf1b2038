-- `setup::check_setup` meets its contract. The loop's invariant: the tasks passed give no number.
use Rattle.std.proofs.Common.{◌≡◌}
use Rattle.rules.specs.Setup.{first_number}
use Rattle.setup.proofs.check_setup.Given as goal

abbrev pub invariant-loop-terms : goal.invariant-loop-terms
invariant-loop-terms l = first_number l.fn.u l.terms-index ≡ 0
