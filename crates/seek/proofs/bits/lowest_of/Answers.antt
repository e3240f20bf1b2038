-- `seek::bits::lowest_of` meets its contract: the machine counts the zeros below the lowest one. Assumes nothing.
use mathlib.Core.Path.{◌∙◌}
use Rattle.objects.proofs.Laws.Bits.{trailing_least}
use Rattle.machine.specs.Bits.{lowest}
use Rattle.seek.proofs.bits.lowest_of.Goals as goal

pub returns : goal.returns
unfolding lowest
returns c = c.from.ensures ∙ trailing_least 64 c.args.word
