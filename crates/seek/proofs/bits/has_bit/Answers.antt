-- `seek::bits::has_bit` meets its contract: the bit is the lowest digit of the word shifted down. Assumes nothing.
use mathlib.Core.Path.{refl}
use Rattle.objects.specs.Objects.{bit}
use Rattle.seek.proofs.bits.has_bit.Goals as goal

pub returns : goal.returns
unfolding bit
returns c = refl
