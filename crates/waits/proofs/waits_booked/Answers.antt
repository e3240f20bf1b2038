-- `waits::waits_booked` meets its contract: the sum over the list of the figures. Assumes nothing.
use mathlib.Core.Path.{◌≡◌, ◌∙◌}
use native.Mathlib.Omega.{arith}
use borrow.Author.Rules.{rules}
use Rattle.std.specs.List.{sum_by}
use Rattle.std.proofs.lemmas.Iterator.{YieldsList-from_slice, YieldsList-from_map}
use Rattle.std.proofs.lemmas.Iterator.Consumers.{sum_by_from_yields_List, fits_by_from_yields_list}
use Rattle.waits.proofs.Booked.{waits_of, booked_is, booked_fits}
use Rattle.waits.proofs.waits_booked.Goals as goal

pub sum-requires-clause-fits : goal.sum-requires-clause-fits
sum-requires-clause-fits c =
    fits_by_from_yields_list waits_of c.args.figures _ _
    (YieldsList-from_map _ waits_of (YieldsList-from_slice c.args.figures cc) c.map.ensures.closure (λ x r q k. search rules))
    (let fits = booked_fits c.args.figures _ c.well_formed.0.1.0.1 c.well_formed.0.1.1 in omega arith)

pub returns : goal.returns
returns c =
    let size = c.well_formed.0.1.0.1 in
    let sum : c.sum.result ≡ sum_by waits_of c.args.figures =
    sum_by_from_yields_List waits_of c.args.figures _ _ c.sum.ensures.ran
    (YieldsList-from_map _ waits_of (YieldsList-from_slice c.args.figures cc) c.map.ensures.closure (λ x r q k. search rules))
    in
    let fits = booked_fits c.args.figures _ size c.well_formed.0.1.1 in record {
      is = sum ∙ booked_is c.args.figures size;
      fits = omega arith;
    }
