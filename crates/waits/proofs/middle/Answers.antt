-- `waits::middle` meets its contract: the middle is at five tenths. Assumes nothing.
use Prim.Native.Nat.{ℕ, ◌+◌, ◌*◌, ◌/◌}
use mathlib.Core.Path.{◌≡◌}
use native.Mathlib.Omega.{arith}
use Rattle.report.specs.Sheet.{kept_in, middle_place, middle}
use Rattle.waits.proofs.middle.Goals as goal

five_tenths : (k : ℕ) → (5 * k + 9) / 10 ≡ middle_place k
five_tenths k = omega arith

pub returns : goal.returns
unfolding middle
returns c = rw (five_tenths (kept_in c.args.t.figures c.args.row.now)) at c.at_tenths.ensures
