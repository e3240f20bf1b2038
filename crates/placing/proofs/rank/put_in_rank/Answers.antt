-- `placing::rank::put_in_rank` meets its contract. The loop's invariant: of the tasks below j the bits have moved, and the word has a bit for each that ranks above task i.
use Prim.Native.Nat.{◌%◌}
use mathlib.Core.Path.{sym, ◌∙◌}
use native.Mathlib.Omega.{arith}
use Rattle.placing.proofs.Laws.Tasks.{task_mod}
use Rattle.placing.proofs.Laws.Ranks.{bits_none, above_none, more_above, more_below, all_moved}
use Rattle.placing.proofs.rank.put_in_rank.Goals.{then-ranks_above, else-ranks_above}
use Rattle.placing.proofs.rank.put_in_rank.Goals as goal

pub loop-j-init : goal.loop-j-init
loop-j-init c = let a = c.args in (bits_none a.words.now (a.task % 64), above_none a.words.now (a.task % 64), omega arith, c.min-end.ensures)

pub loop-j-preserved : goal.loop-j-preserved
loop-j-preserved c =
    let w = c.args.words.now in
    let i = c.args.task % 64 in
    let loop = c.loop-j in
    let asked = c.ranks_above in
    elim c.if-ranks_above.branch [
      | then-ranks_above t ↦
          let more = more_above w loop.words i loop.j loop.above (omega arith) loop.invariant.0 loop.invariant.1 (sym asked.ensures ∙ t.if-ranks_above.true) in
          (t.words-is ∙ rw t.without_bit.ensures more.0, t.above-is ∙ t.with_bit-above.ensures ∙ rw (task_mod loop.j (omega arith)) more.1, omega arith, loop.invariant.3)
      | else-ranks_above t ↦
          let more = more_below w loop.words i loop.j loop.above (omega arith) loop.invariant.0 loop.invariant.1 (sym asked.ensures ∙ t.if-ranks_above.false) in
          (t.words-is ∙ rw t.with_bit.ensures more.0, t.above-is ∙ more.1, omega arith, loop.invariant.3)
    ]

pub returns : goal.returns
returns c =
    let a = c.args in
    let loop = c.loop-j in
    all_moved a.words.now loop.words (a.task % 64) loop.j loop.above (omega arith) loop.invariant.0 loop.invariant.1 (omega arith)
