-- `setup::check_setup` meets its contract. The loop's invariant: the tasks passed give no number.
use Rattle.std.proofs.Common.{rules, arith, ◌≡◌, ◌<◌, true, sym, ap, ◌∙◌, get_or, take}
use Rattle.std.proofs.lemmas.List.{get_or-take}
use Rattle.std.proofs.lemmas.Grind.{common_steps}
use Rattle.rules.specs.Ranking.{known_mode}
use Rattle.rules.specs.Tasks.{allowed, no_terms}
use Rattle.rules.specs.Refusals.{refusal_number, result_number}
use Rattle.rules.specs.Setup.{terms_at, terms_number, setup_number}
use Rattle.rules.proofs.Laws.Refusals.{refusal_not_0}
use Rattle.setup.proofs.Laws.Start.{first_empty, first_more, first_stays, number_of_tasks}
use Rattle.setup.proofs.check_setup.Goals as goal

pub returns-then-not-contains : goal.returns-then-not-contains
unfolding setup_number
returns-then-not-contains c = search rules

pub returns-then-not-contains-2 : goal.returns-then-not-contains-2
unfolding setup_number
returns-then-not-contains-2 c = search rules

pub returns-then-u-gt1 : goal.returns-then-u-gt1
unfolding setup_number
returns-then-u-gt1 c = search rules

pub loop-terms-init : goal.loop-terms-init
loop-terms-init c = first_empty c.args.u

pub returns-in_err-check_terms : goal.returns-in_err-check_terms
returns-in_err-check_terms c =
    let u = c.args.u in
    let i = c.loop-terms.terms-index in
    let refusal = c.in_err-check_terms.field-0.0 in
    let m_allowed : allowed 16 u.m ≡ true = search rules in
    let n_allowed : allowed 64 u.n ≡ true = search rules in
    let mode_known : known_mode u.mode ≡ true = search rules in
    let below : i < u.n = omega arith in
    let here : refusal_number refusal ≡ terms_number (terms_at u i) =
    c.in_err-check_terms.ensures ∙ ap terms_number (get_or-take u.n u.terms i no_terms below) in
    let stays = first_stays u i u.n below c.loop-terms.invariant (λ e. refusal_not_0 refusal (here ∙ e)) in
    let answer : result_number c.from_residual.result ≡ refusal_number refusal = search rules in
    answer ∙ here ∙ sym (number_of_tasks u m_allowed n_allowed mode_known ∙ stays)

pub loop-terms-preserved : goal.loop-terms-preserved
loop-terms-preserved c =
    let u = c.args.u in
    let i = c.loop-terms.terms-index in
    let below : i < u.n = omega arith in
    let good : terms_number (get_or (take u.n u.terms) i no_terms) ≡ 0 = grind (arith, common_steps) in
    first_more u i c.loop-terms.invariant ∙ ap terms_number (sym (get_or-take u.n u.terms i no_terms below)) ∙ good

pub returns : goal.returns
unfolding setup_number
returns c = search rules
