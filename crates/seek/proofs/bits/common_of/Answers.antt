-- `seek::bits::common_of` meets its contract: the machine counts the ones of the word of both. Assumes nothing.
use mathlib.Core.Path.{◌∙◌}
use Rattle.seek.proofs.Laws.Bits.{common_machine}
use Rattle.seek.proofs.bits.common_of.Goals as goal

pub returns : goal.returns
returns c = c.from.ensures ∙ common_machine c.args.word c.args.other c.ranges.word.fits c.ranges.other.fits
