-- `objects::lowest_object` meets its contract. The loop's invariant: the groups passed are empty. So the first group that is not has the lowest object,
-- and where the loop ends all four are empty.
use Prim.Native.Nat.{ℕ, ◌<◌}
use mathlib.Core.Path.{◌≡◌}
use lib.ListN.{get_or}
use Rattle.objects.proofs.lowest_object.Given as goal

abbrev pub invariant-loop-g : goal.invariant-loop-g
invariant-loop-g l = (j : ℕ) → j < l.g → get_or l.fn.words j 0 ≡ 0
