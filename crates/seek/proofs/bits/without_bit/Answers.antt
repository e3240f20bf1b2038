-- `seek::bits::without_bit` meets its contract: and with the opposite of a shifted one takes its bit out. Assumes nothing.
use Prim.Native.Nat.{◌%◌}
use native.Mathlib.Omega.{arith}
use Rattle.seek.proofs.Laws.Bits.{without_machine}
use Rattle.seek.proofs.bits.without_bit.Goals as goal

pub returns : goal.returns
returns c = without_machine c.args.word (c.args.task % 64) c.ranges.word.fits (omega arith)
