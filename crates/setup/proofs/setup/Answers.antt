-- `setup::setup` meets its contract. The loop's invariant: the tasks passed are fresh at their terms.
use Rattle.std.proofs.Common.{rules, arith, ◌≡◌, ◌<◌, List, sym, ap, ◌∙◌, replicate, set}
use Rattle.std.proofs.lemmas.List.{get_or-take}
use Rattle.rules.specs.declared.Terms.{Terms}
use Rattle.rules.specs.declared.Task.{Task}
use Rattle.rules.specs.declared.Session.{Session}
use Rattle.rules.specs.declared.Said.TheVariants.{Ok, No}
use Rattle.rules.specs.Tasks.{fresh_task, no_terms, no_task}
use Rattle.rules.specs.Ranking.{by_rank}
use Rattle.rules.specs.Setup.{terms_at, fresh_tasks, quiet, fresh, no_session}
use Rattle.rules.proofs.Fresh.{fresh_sound}
use Rattle.rules.proofs.Laws.Refusals.{refusal_not_0}
use Rattle.setup.proofs.Laws.Start.{start_refused, start_accepted, fresh_more}
use Rattle.setup.proofs.setup.Goals as goal

-- the task that stands at first in every place is that of no setup
none_named : (terms : Terms) (task : Task) → terms ≡ no_terms → task ≡ fresh_task terms → replicate 64 task ≡ replicate 64 no_task
none_named terms task none fresh = ap (replicate 64) (fresh ∙ ap fresh_task none)

pub returns-in-Err : goal.returns-in-Err
unfolding no_session
returns-in-Err c =
    let none : c.default.result ≡ no_terms = search rules in
    let is = c.from.ensures ∙ c.in-Err.ensures in
    ap (λ (s : Session). record { said = No c.from.result; session = s }) (c.quiet_session.ensures ∙ ap (quiet 0 0 0) (none_named c.default.result c.fresh_task-tasks.result none c.fresh_task-tasks.ensures))
    ∙ sym (start_refused c.args.u c.from.result is (λ e. refusal_not_0 c.in-Err.refusal (sym c.from.ensures ∙ e)))

pub shared_ref_as_front-terms-items : goal.shared_ref_as_front-terms-items
unfolding fresh
shared_ref_as_front-terms-items c = (fresh_sound by_rank c.args.u (sym c.in_default.ensures)).n_high

pub loop-i-init : goal.loop-i-init
unfolding fresh_tasks
loop-i-init c =
    let none : c.default.result ≡ no_terms = search rules in
    none_named c.default.result c.fresh_task-tasks.result none c.fresh_task-tasks.ensures

pub loop-i-preserved : goal.loop-i-preserved
loop-i-preserved c =
    let u = c.args.u in
    let i = c.loop-i.i in
    let below : i < u.n = omega arith in
    let here : c.fresh_task.result ≡ fresh_task (terms_at u i) =
    c.fresh_task.ensures ∙ ap fresh_task (get_or-take u.n u.terms i no_terms below) in
    ap (λ (task : Task). set c.loop-i.tasks i task) here ∙ ap (λ (tasks : List Task). set tasks i (fresh_task (terms_at u i))) c.loop-i.invariant
    ∙ sym (fresh_more u i)

pub returns : goal.returns
unfolding fresh
returns c =
    let u = c.args.u in
    let done : c.loop-i.i ≡ u.n = omega arith in
    ap (λ (s : Session). record { said = Ok; session = s })
    (c.quiet_session-2.ensures ∙ ap (quiet u.m u.n u.mode) (c.loop-i.invariant ∙ ap (fresh_tasks u) done))
    ∙ sym (start_accepted u (sym c.in_default.ensures))
