-- What stands at a place of the words after another place was written.
use Prim.Native.Nat.{ℕ, ◌+◌, ◌≤◌}
use mathlib.Core.Path.{◌≡◌, ◌∙◌}
use mathlib.Core.Logic.{◌≢◌}
use mathlib.Core.List.{List}
use native.Mathlib.Omega.{arith}
use lib.ListN.{get_or, set}
use Rattle.machine.specs.Events.{stamped_in}
use Rattle.machine.proofs.Laws.Places.{kept}

-- two places that were not written
pub beside_two : (w : List ℕ) (i k j u v : ℕ) → i ≢ j → k ≢ j → get_or (set (set w i u) k v) j 0 ≡ get_or w j 0
beside_two w i k j u v h g = kept (set w i u) k j v g ∙ kept w i j u h

-- the places past the two that an accepted event is stamped at
pub past_stamp : (w : List ℕ) (tick j : ℕ) → 4 ≤ j → get_or (stamped_in w tick) j 0 ≡ get_or w j 0
past_stamp w tick j h = beside_two w 2 3 j tick (get_or w 3 0 + 1) (omega arith) (omega arith)
