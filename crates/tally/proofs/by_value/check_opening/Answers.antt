-- `tally::by_value::check_opening` meets its contract: the setup's own number comes first, then 40. Assumes nothing.
use mathlib.Core.Path.{◌≡◌, sym, ap, ◌∙◌}
use mathlib.Core.Bool.{Bool, true, false, cond, not, ◌&&◌}
use borrow.Author.Tests.{eq-eqb, ne_eqb}
use Rattle.std.specs.Result.{IsErrAnd}
use Rattle.std.specs.declared.result.Result.{Result}
use Rattle.std.specs.declared.result.Result.TheVariants.{Ok, Err}
use Rattle.rules.specs.declared.Refusal.{Refusal}
use Rattle.rules.specs.declared.Setup.{Setup}
use Rattle.rules.specs.Refusals.{refusal_number, result_number}
use Rattle.rules.specs.Setup.{setup_number, same_setup}
use Rattle.report.specs.declared.Tally.{Tally}
use Rattle.report.specs.Booking.{open_number}
use Rattle.rules.proofs.Laws.Refusals.{refusal_not_0}
use Rattle.tally.proofs.by_value.check_opening.Goals.{else-t-via-then-t+else-not-same_setup, else-t-via-else-t}
use Rattle.tally.proofs.by_value.check_opening.Goals as goal

module _ (t : Tally) (u : Setup) where
  refused : (verdict : Result (Unit {0}) Refusal) (refusal : Refusal) → IsErrAnd verdict (λ other. other ≡ refusal)
      → refusal_number refusal ≡ setup_number u → result_number verdict ≡ open_number t u
  unfolding open_number
  refused (Ok x) refusal same is = absurd same
  refused (Err other) refusal same is =
      ap refusal_number same ∙ rw (ne_eqb (setup_number u) 0 (λ z. refusal_not_0 refusal (is ∙ z))) is

  -- past the first test the setup is good
  compared : (other : Bool) → 0 ≡ setup_number u → (t.taken && not (same_setup t.setup u)) ≡ other → cond other 40 0 ≡ open_number t u
  unfolding open_number
  compared other good is = rw (eq-eqb (setup_number u) 0 (sym good), is)

pub returns-in_err-check_setup : goal.returns-in_err-check_setup
returns-in_err-check_setup c =
    refused c.args.t c.args.u c.from_residual.result c.in_err-check_setup.field-0.0 c.from_residual.ensures.1 c.in_err-check_setup.ensures

pub returns-then-not-same_setup : goal.returns-then-not-same_setup
returns-then-not-same_setup c =
    compared c.args.t c.args.u true c.in_ok-check_setup.ensures (rw (c.if-t.true, sym c.if-not-same_setup.ensures))

pub returns : goal.returns
returns c =
    elim c.else-t.branch [
      | else-t-via-then-t+else-not-same_setup w ↦
          compared c.args.t c.args.u false c.in_ok-check_setup.ensures (rw (w.if-t.true, sym w.if-not-same_setup.ensures))
      | else-t-via-else-t w ↦ compared c.args.t c.args.u false c.in_ok-check_setup.ensures (rw w.if-t.false)
    ]
