-- `laid::back::read` meets its contract. The loop's invariant: the session is the one with the first i tasks read back.
use Rattle.std.proofs.Common.{arith, ◌≡◌, ◌+◌, ◌*◌, min}
use native.Mathlib.Nat.{add-zero}
use Rattle.machine.specs.Places.{n_of}
use Rattle.laid.proofs.Laws.Laid.{back_none, back_more, back_whole}
use Rattle.laid.proofs.back.read.Goals as goal

pub loop-i-init : goal.loop-i-init
loop-i-init c =
    let a = c.args in
    rw (c.low_8.ensures, c.low_8-2.ensures, c.low_8-3.ensures, c.low_32.ensures, c.low_32-2.ensures) (back_none a.words.now a.s)

pub loop-i-preserved : goal.loop-i-preserved
loop-i-preserved c =
    let a = c.args in
    let k = c.loop-i.i in
    let writes : 652 + k * 8 ≡ 648 + k * 8 + 4 = omega arith in
    back_more a.words.now a.s k c.loop-i.back _ c.loop-i.invariant
    (rw (add-zero (648 + k * 8), c.task_back.ensures, c.four_back.ensures, c.four_back-in-loop-i.ensures, writes))

pub returns : goal.returns
returns c =
    let a = c.args in
    let all : c.loop-i.i ≡ min (n_of a.words.now) 64 = omega arith in
    back_whole a.words.now a.s c.loop-i.i c.loop-i.back all c.loop-i.invariant
