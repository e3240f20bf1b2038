-- `tally::by_value::opening` meets its contract: a refused opening leaves the tally, and one that is not takes the setup. Assumes nothing.
use mathlib.Core.Path.{◌≡◌, sym, ap, ap₂, ◌∙◌}
use mathlib.Core.Bool.{true}
use Rattle.std.specs.declared.result.Result.TheVariants.{Ok, Err}
use Rattle.rules.specs.declared.Refusal.{Refusal}
use Rattle.rules.specs.declared.Started.{Started}
use Rattle.rules.proofs.Laws.Refusals.{refusal_is}
use Rattle.setup.proofs.Laws.Start.{start_accepted}
use Rattle.report.specs.declared.OpenSession.{OpenSession}
use Rattle.report.specs.Booking.{opened, open_number}
use Rattle.report.proofs.Laws.Opening.{opening_is, opening_refused, opens_setup}
use Rattle.rules.proofs.Laws.Refusals.{refusal_not_0}
use Rattle.tally.proofs.by_value.opening.Goals as goal

pub returns-in-Ok : goal.returns-in-Ok
returns-in-Ok c =
    let a = c.args in
    let good : open_number a.t a.u ≡ 0 = sym c.in-Ok.ensures in
    ap (λ (o : OpenSession). record { tally = record { taken = true; setup = a.u; figures = a.t.figures }; opened = record { verdict = Ok tt; after = o } })
    (c.open_with.ensures ∙ ap (λ (x : Started). opened x.session) (c.setup.ensures ∙ start_accepted a.u (opens_setup a.t a.u good)))
    ∙ sym (opening_is a.t a.u good)

pub returns-in-Err : goal.returns-in-Err
returns-in-Err c =
    let a = c.args in
    let number_is = c.in-Err.ensures in
    ap₂ (λ (r : Refusal) (o : OpenSession). record { tally = a.t; opened = record { verdict = Err r; after = o } })
    (sym (refusal_is (open_number a.t a.u) c.in-Err.refusal number_is)) (c.open_with-in-Err.ensures ∙ ap opened c.no_session.ensures)
    ∙ sym (opening_refused a.t a.u (λ z. refusal_not_0 c.in-Err.refusal (number_is ∙ z)))
