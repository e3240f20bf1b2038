-- `seek::bits::with_bit` meets its contract: or with a shifted one sets its bit. Assumes nothing.
use Prim.Native.Nat.{◌%◌}
use native.Mathlib.Omega.{arith}
use Rattle.seek.proofs.Laws.Bits.{with_machine}
use Rattle.seek.proofs.bits.with_bit.Goals as goal

pub returns : goal.returns
returns c = with_machine c.args.word (c.args.task % 64) c.ranges.word.fits (omega arith)
