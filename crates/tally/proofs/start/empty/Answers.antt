-- `tally::start::empty` meets its contract. Assumes nothing.
use Prim.Native.Nat.{ℕ}
use mathlib.Core.Path.{◌≡◌, ap₂}
use mathlib.Core.Bool.{false}
use lib.ListN.{replicate}
use Rattle.rules.specs.declared.Setup.{Setup}
use Rattle.report.specs.declared.Figures.{Figures}
use Rattle.report.specs.Items.{no_figures}
use Rattle.report.specs.Booking.{empty_tally}
use Rattle.tally.proofs.start.empty.Goals as goal

-- figures that are all 0
all_0 : (committed waited clashes retries longest ticks waits : ℕ)
    → committed ≡ 0 → waited ≡ 0 → clashes ≡ 0 → retries ≡ 0 → longest ≡ 0 → ticks ≡ 0 → waits ≡ 0
    → ◌≡◌ {A = Figures}
    (record { committed = committed; waited = waited; clashes = clashes; retries = retries; longest = longest; ticks = ticks; waits = waits })
    no_figures
all_0 committed waited clashes retries longest ticks waits c w l r m t n = rw (c, w, l, r, m, t, n)

pub returns : goal.returns
unfolding empty_tally
returns c =
    let z = c.default.ensures in
    ap₂ (λ (u : Setup) (f : Figures). record { taken = false; setup = u; figures = replicate 64 f }) c.no_setup.ensures
    (all_0 _ _ _ _ _ _ _ z.0 z.1.0 z.1.1.0 z.1.1.1.0 z.1.1.1.1.0 z.1.1.1.1.1.0 z.1.1.1.1.1.1)
