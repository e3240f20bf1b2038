-- `session::by_value::step` meets its contract: laid into words, one event, and read back is the rules' step, by the law of that. Assumes nothing.
use Prim.Native.Nat.{ℕ}
use mathlib.Core.Path.{sym}
use native.Mathlib.Omega.{arith}
use lib.ListN.{length-replicate}
use Rattle.session.proofs.Laws.Given.{sized, session_fits}
use Rattle.session.proofs.Laws.ByValue.{too_many, by_calls}
use Rattle.session.proofs.by_value.step.Goals as goal

pub returns-then-s-gt-MOST_TASKS : goal.returns-then-s-gt-MOST_TASKS
returns-then-s-gt-MOST_TASKS c = let s = c.args.s in rw (c.from.ensures, c.no_admissions.ensures) (sym (too_many s (omega arith) c.args.e))

pub returns : goal.returns
returns c =
    let s = c.args.s in
    let told = c.well_formed in
    let steps = c.step-reply.ensures in
    by_calls _ _ s c.args.e (length-replicate {A = ℕ} 1280 0) (length-replicate {A = ℕ} 64 0) (sized s _ told.0) (session_fits s _ told.0) told.1.0.1.1.1.0.1 (omega arith) _ _ _ _ _ _
    c.open.ensures steps.says steps.leaves steps.lists c.admissions_of.ensures c.read.ensures
