-- Demands 2 and 3 of the machine's calls: they are a run of the rules, by the theorem of one event.
use Prim.Native.Nat.{ℕ, zero, suc, ◌*◌, ◌≤◌, ◌<◌}
use mathlib.Core.Path.{◌≡◌, refl, sym, ap, ap₂, subst, ◌∙◌}
use mathlib.Core.List.{List, [], ◌∷◌, ◌++◌}
use native.Mathlib.Omega.{arith}
use lib.ListN.{length, take, get_or}
use lib.Seq.{take-suc}
use Rattle.rules.specs.declared.Admission.{Admission}
use Rattle.rules.specs.declared.Admissions.{Admissions}
use Rattle.rules.specs.declared.Session.{Session}
use Rattle.rules.specs.declared.Event.{Event}
use Rattle.rules.specs.declared.Said.{Said}
use Rattle.rules.specs.Ranking.{by_rank}
use Rattle.rules.specs.Setup.{fresh}
use Rattle.rules.specs.Scan.{no_admission}
use Rattle.rules.specs.Events.{step}
use Rattle.rules.specs.History.{Call, tasks_of, heard}
use Rattle.rules.specs.Demand3.{Run, begun, called}
use Rattle.rules.proofs.Laws.Listed.{tasks_more}
use Rattle.rules.proofs.Ranking.{rank_strict_and_stays}
use Rattle.rules.proofs.Demand3.{fresh_starts, once_running, held_back, waits_counted, admitted_counted, bounded, admitted_within, running_apart, as_told, ranked_as_said}
use Rattle.rules.proofs.Ended.{waits_end}
use Rattle.machine.specs.Events.{Outcome, step_in}
use Rattle.machine.specs.Holds.{Holds}
use Rattle.machine.specs.Theorem.{Answers, Sixteen}
use Rattle.machine.specs.Demands.{tasks_in, heard_in, Calls, none, then, Demands}
use Rattle.machine.proofs.Step.{step_holds}
use Rattle.machine.proofs.Lists.{step_sixteen}
use Rattle.machine.proofs.Fresh.{setup_holds}

-- ---- the calls are the rules'

-- the tasks that the list names are those that the answer lists
tasks_same : (list : List ℕ) (a : List Admission) (c : ℕ) → c ≤ length a → ((k : ℕ) → k < c → get_or list (k * 4) 0 ≡ (get_or a k no_admission).task)
    → tasks_in list c ≡ tasks_of (take c a)
unfolding tasks_in tasks_of
tasks_same list a zero l same = refl
tasks_same list a (suc c) l same =
    ap₂ (λ (xs : List ℕ) (j : ℕ). xs ++ (j ∷ [])) (tasks_same list a c (omega arith) (λ k m. same k (omega arith))) (same c (omega arith))
    ∙ sym (ap tasks_of (take-suc a c no_admission (omega arith)) ∙ tasks_more (take c a) (get_or a c no_admission))

-- and so a call is heard alike in both
heard_same : (s : Session) (e : Event) (x : Outcome) → Answers s e x (step by_rank s e) → heard_in e x ≡ heard e (step by_rank s e)
heard_same s e x same =
    ap₂ made same.said
    (ap (tasks_in x.list) same.admitted
    ∙ tasks_same x.list a.list a.count (omega (arith, all.few, all.size))
    (λ k l. ap (λ (y : Admission). y.task) (same.list k (omega (arith, same.admitted)))))
  where
    a : Admissions
    a = (step by_rank s e).admitted

    all : Sixteen a
    all = step_sixteen by_rank s e

    made : Said → List ℕ → Call
    made said tasks = record { event = e; said = said; admitted = tasks }

-- words after some calls hold the session after as many steps
calls_run : (from : List ℕ) (s : Session) → Holds by_rank from s → (w : List ℕ) (calls : List Call) → Calls from w calls
    → (s' : Session) × Holds by_rank w s' × Run by_rank s s' calls
calls_run from s holds w calls none = (s, holds, begun)
calls_run from s holds w calls (then {w = before} {calls = earlier} r list places e) =
    let p = calls_run from s holds before earlier r in
    let q = step_holds before list p.0 e places p.1 in (
      (step by_rank p.0 e).session,
      q.1,
      subst (λ (c : Call). Run by_rank s (step by_rank p.0 e).session (c ∷ earlier)) (sym (heard_same p.0 e (step_in before list e) q.0)) (called p.2 e),
    )

-- the demands of the rules' run are those of the calls
pub demands : Demands
demands u w size good w' calls r =
    let strict = rank_strict_and_stays.0 in
    let stays = rank_strict_and_stays.1 in
    let begins = fresh_starts by_rank u good in
    let p = calls_run _ (fresh u) (setup_holds w u size good) w' calls r in
    let s = p.0 in
    let run = p.2 in (
      s,
      record {
        holds = p.1;
        answers = λ list places e. step_holds w' list s e places p.1;
        running = λ w'' more further.
            let q = calls_run w' s p.1 w'' more further in
            (q.0, q.1, once_running by_rank strict stays (fresh u) s calls begins run q.0 more q.2);
        held = held_back by_rank strict stays (fresh u) s calls begins run;
        counts = waits_counted by_rank strict stays (fresh u) s calls begins run;
        admissions = admitted_counted by_rank strict stays (fresh u) s calls begins run;
        sum = bounded by_rank strict stays (fresh u) s calls begins run;
        within = admitted_within by_rank strict stays (fresh u) s calls begins run;
        ended = waits_end by_rank strict stays (fresh u) s calls begins run;
        apart = (running_apart by_rank strict stays (fresh u) s calls begins run).0;
        few = (running_apart by_rank strict stays (fresh u) s calls begins run).1;
        told = as_told by_rank strict stays (fresh u) s calls begins run;
        ranks = ranked_as_said by_rank strict stays (fresh u) s calls begins run;
      },
    )
