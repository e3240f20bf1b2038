-- `setup::no_session` meets its contract: a setup with no processor is refused, and gives what stands in place of a session. Assumes nothing.
use Rattle.rules.specs.Setup.{start}
use Rattle.setup.proofs.no_session.Goals as goal

pub returns : goal.returns
unfolding start
returns c = rw c.setup-refused.ensures
