-- `waits::nine_tenths` meets its contract. Assumes nothing.
use Rattle.report.specs.Sheet.{nine_tenths}
use Rattle.waits.proofs.nine_tenths.Goals as goal

pub returns : goal.returns
unfolding nine_tenths
returns c = c.at_tenths.ensures
