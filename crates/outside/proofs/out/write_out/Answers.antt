-- One more write goes on where the bytes before it ended.
use Rattle.std.proofs.Common.{arith}
use Rattle.outside.proofs.Sending.{sent_more}
use Rattle.outside.proofs.out.write_out.Goals as goal

pub loop-taken-preserved : goal.loop-taken-preserved
loop-taken-preserved g c = (omega (arith, c.in-Ok.ensures.within), sent_more _ _ _ c.args.bytes.now c.loop-taken.taken c.in-Ok.more c.loop-taken.invariant.1 c.in-Ok.ensures.sent)
