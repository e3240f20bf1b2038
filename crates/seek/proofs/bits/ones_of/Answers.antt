-- `seek::bits::ones_of` meets its contract: the machine counts the ones of a word. Assumes nothing.
use mathlib.Core.Path.{◌∙◌}
use Rattle.objects.proofs.Laws.Bits.{ones_count}
use Rattle.machine.specs.Bits.{ones}
use Rattle.seek.proofs.bits.ones_of.Goals as goal

pub returns : goal.returns
unfolding ones
returns c = c.from.ensures ∙ ones_count 64 c.args.word c.ranges.word.fits
