-- `placing::rank::put_in_rank` meets its contract. The loop's invariant: of the tasks below j the bits have moved, and the word has a bit for each that ranks above task i.
use Prim.Native.Nat.{◌≤◌, min}
use mathlib.Core.Path.{◌≡◌}
use Rattle.machine.specs.Places.{n_of}
use Rattle.machine.specs.Ranks.{bits_moved}
use Rattle.placing.proofs.Laws.Ranks.{above_below}
use Rattle.placing.proofs.rank.put_in_rank.Given as goal

abbrev pub invariant-loop-j : goal.invariant-loop-j
invariant-loop-j l = (l.words ≡ bits_moved l.initial.words l.i l.j) × (l.above ≡ above_below l.initial.words l.i l.j) × (l.j ≤ l.end) × (l.end ≡ min (n_of l.initial.words) 64)
