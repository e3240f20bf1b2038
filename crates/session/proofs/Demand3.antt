-- Demand 3 of what the functions return: their answers are the rules' answers, so their calls are a run.
use mathlib.Core.Path.{◌≡◌, refl, sym, ap, subst, ◌∙◌}
use mathlib.Core.List.{List, ◌∷◌}
use mathlib.Core.Bool.{Bool, true, false, cond}
use lib.Dec.{eqb}
use borrow.Author.Tests.{eqb-true, eqb-false}
use Rattle.rules.specs.declared.Setup.{Setup}
use Rattle.rules.specs.declared.Session.{Session}
use Rattle.rules.specs.declared.Event.{Event}
use Rattle.rules.specs.declared.Answer.{Answer}
use Rattle.rules.specs.declared.Started.{Started}
use Rattle.rules.specs.declared.Said.TheVariants.{Ok, No}
use Rattle.rules.specs.Answers.{number}
use Rattle.rules.specs.Ranking.{by_rank}
use Rattle.rules.specs.Setup.{setup_number, fresh, no_session, start}
use Rattle.rules.specs.Events.{step}
use Rattle.rules.specs.History.{Call, heard}
use Rattle.rules.specs.Demand3.{Run, begun, called, AdmissionsCount, AdmissionsWithin}
use Rattle.rules.proofs.Ranking.{rank_strict_and_stays}
use Rattle.rules.proofs.Demand3.{fresh_starts, once_running, held_back, waits_counted, admitted_counted, bounded, admitted_within, running_apart, as_told, ranked_as_said}
use Rattle.rules.proofs.Ended.{waits_end}
use Rattle.session.specs.Demand3.{Answered, arrives, releases, commits, finishes, steps, Calls, none, then, Holds, Demand3}

answered : (s : Session) (e : Event) (answer : Answer) → Answered s e answer → answer ≡ step by_rank s e
unfolding step
answered s e answer (arrives tick task _ p) = p
answered s e answer (releases tick task reads writes _ p) = p
answered s e answer (commits tick task _ p) = p
answered s e answer (finishes tick task _ p) = p
answered s e answer (steps _ _ p) = p

run : (from s : Session) (calls : List Call) → Calls from s calls → Run by_rank from s calls
run from s calls none = begun
run from s calls (then {s = before} {calls = earlier} r e answer a) =
    subst (λ (x : Answer). Run by_rank from x.session (heard e x ∷ earlier)) (sym (answered before e answer a)) (called (run from before earlier r) e)

-- the session of a setup that is accepted is the fresh one
accepted : (u : Setup) → number (start u).said ≡ 0 → (setup_number u ≡ 0) × ((start u).session ≡ fresh u)
unfolding start
accepted u z = go (eqb (setup_number u) 0) refl z
  where
    gives : Bool → Started
    gives b = cond b (record { said = Ok; session = fresh u }) (record { said = No (setup_number u); session = no_session })

    go : (b : Bool) → eqb (setup_number u) 0 ≡ b → number (gives b).said ≡ 0 → (setup_number u ≡ 0) × ((gives b).session ≡ fresh u)
    go true e z = (eqb-true (setup_number u) 0 e, refl)
    go false e z = absurd (eqb-false (setup_number u) 0 e z)

pub demand3 : Demand3
demand3 u started p z s calls r =
    let good = accepted u (ap (λ (x : Started). number x.said) (sym p) ∙ z) in
    let from = started.session in
    let is : from ≡ fresh u = ap (λ (x : Started). x.session) p ∙ good.1 in
    let whole : Run by_rank (fresh u) s calls = subst (λ (x : Session). Run by_rank x s calls) is (run from s calls r) in
    let strict = rank_strict_and_stays.0 in
    let stays = rank_strict_and_stays.1 in
    let begins = fresh_starts by_rank u good.0 in
    subst (λ (x : Session). Holds x s calls) (sym is)
    (record {
      running = λ s' more further. once_running by_rank strict stays (fresh u) s calls begins whole s' more (run s s' more further);
      held = held_back by_rank strict stays (fresh u) s calls begins whole;
      counts = waits_counted by_rank strict stays (fresh u) s calls begins whole;
      admissions = λ e answer a.
          subst (λ (x : Answer). AdmissionsCount by_rank (fresh u) e x calls) (sym (answered s e answer a))
          (admitted_counted by_rank strict stays (fresh u) s calls begins whole e);
      sum = λ i l answer q. rw q (bounded by_rank strict stays (fresh u) s calls begins whole i l);
      within = λ e answer a.
          subst (λ (x : Answer). AdmissionsWithin e x calls) (sym (answered s e answer a)) (admitted_within by_rank strict stays (fresh u) s calls begins whole e);
      ended = waits_end by_rank strict stays (fresh u) s calls begins whole;
      apart = (running_apart by_rank strict stays (fresh u) s calls begins whole).0;
      few = (running_apart by_rank strict stays (fresh u) s calls begins whole).1;
      told = as_told by_rank strict stays (fresh u) s calls begins whole;
      ranks = ranked_as_said by_rank strict stays (fresh u) s calls begins whole;
    })
