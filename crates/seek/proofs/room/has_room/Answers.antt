-- `seek::room::has_room` meets its contract. Assumes nothing.
use Prim.Native.Nat.{ℕ}
use mathlib.Core.Path.{ap}
use lib.Dec.{ltb}
use Rattle.machine.specs.Asked.{room_in}
use Rattle.seek.proofs.room.has_room.Goals as goal

pub returns : goal.returns
unfolding room_in
returns c = ap (λ (number : ℕ). ltb number c.args.left) c.common_of.ensures
