-- Demand 3, proved. Everything but the first theorem is read off what is known at every place of a run; the first is an induction over the further calls.
use Prim.Native.Nat.{ℕ, ◌+◌, ◌-◌, ◌≤◌, ◌<◌}
use mathlib.Core.Path.{◌≡◌, refl, sym, ap, subst, ◌∙◌}
use mathlib.Core.Logic.{inl, inr, ◌≢◌}
use mathlib.Core.List.{List, ◌∷◌}
use mathlib.Core.Bool.{Bool, true, false, cond, ◌&&◌, false≢true}
use native.Mathlib.Nat.{lt_of_lt_of_le, le_trans, le_of_eq, ne_of_gt}
use native.Mathlib.Omega.{arith}
use lib.Dec.{eqb, ltb}
use lib.ListN.{get_or}
use borrow.Author.Tests.{eq-eqb, lt-ltb, not-true}
use Rattle.objects.specs.Objects.{Sets, clash}
use Rattle.objects.proofs.Laws.Below.{not_both, and_both, or_false_left, or_false_right, sum_mono}
use Rattle.objects.proofs.Laws.Clash.{clash_plain}
use Rattle.rules.specs.declared.Wait.{Wait}
use Rattle.rules.specs.declared.State.{State}
use Rattle.rules.specs.declared.State.TheVariants.{Absent, Plain, Waiting, Executing}
use Rattle.std.specs.Prelude.{Some}
use Rattle.rules.specs.declared.Terms.{Terms}
use Rattle.rules.specs.declared.Task.{Task}
use Rattle.rules.specs.declared.Session.{Session}
use Rattle.rules.specs.declared.Event.{Event}
use Rattle.rules.specs.declared.Said.{Said}
use Rattle.rules.specs.declared.Admission.{Admission}
use Rattle.rules.specs.declared.Answer.{Answer}
use Rattle.rules.specs.Answers.{number}
use Rattle.rules.specs.Ranking.{Ranking, by_deadline, job_rank, Ranked, Strict, Stays}
use Rattle.rules.specs.Tasks.{is_absent, is_waiting, is_executing, allowed, known, task_at, state_at, executing, sets_at}
use Rattle.rules.specs.Room.{ran}
use Rattle.rules.specs.Events.{raised_state, raised_task, step}
use Rattle.rules.specs.Scan.{no_admission, admission}
use Rattle.rules.specs.Sum.{share, bound, summed, sum_number, sum_of}
use Rattle.rules.specs.Reachable.{Sound}
use Rattle.rules.specs.History.{Call, heard, commits, wait_length, during, passes, passed, reruns, retried}
use Rattle.rules.specs.Demand3.{Run, begun, called, SameSets, FreshStarts, RunSound, ClashesFit, commits_in, OnceRunning, HeldBack, Counted, WaitsCounted, AdmittedCounted, Bounded, AdmittedWithin, RunningApart, AsTold, present_at, JobStays, RankStays, RankedAsSaid, RankFits}
use Rattle.rules.proofs.Laws.Numbers.{allowed_is}
use Rattle.rules.proofs.Laws.Keeping.{kept_sets}
use Rattle.rules.proofs.Laws.Listed.{Settled, Each}
use Rattle.rules.proofs.Ranking.{ranking_agrees}
use Rattle.rules.proofs.Contest.{blocked_plain}
use Rattle.rules.proofs.Fresh.{fresh_sound, fresh_absent, period_bounds}
use Rattle.rules.proofs.Events.{same_tick, step_sound}
use Rattle.rules.proofs.Moves.{Own, arrives, runs, waits, commits as commitsOwn, finishes, passed_over, Moved, Taken, refuses, accepts, taken}
use Rattle.rules.proofs.Ran.{retried_fewer}
use Rattle.rules.proofs.Jobs.{limited_share}
use Rattle.rules.proofs.Known.{Known, commits_of, arrivals_of, job_after, moved_known, run_known}

-- ---- a start

pub fresh_starts : FreshStarts
fresh_starts rank u good = record { sound = fresh_sound rank u good; absent = fresh_absent u good }

pub run_sound : RunSound
run_sound rank strict stays start s calls begins run = (run_known rank strict stays start s calls begins run).sound

pub clashes_fit : ClashesFit
clashes_fit rank strict stays start s calls begins run i l =
    let sound = run_sound rank strict stays start s calls begins run in
    omega (arith, sound.clashes i l, sound.accepted)

-- ---- once running, running until its own commit

raised_executing : (hadRun : Bool) (t : Task) (b : Bool) → is_executing t.state ≡ true → is_executing (cond b (raised_task hadRun t) t).state ≡ true
raised_executing hadRun t true x = go t.state x
  where
    go : (state : State) → is_executing state ≡ true → is_executing (raised_state hadRun state) ≡ true
    go Absent x = x
    go Plain x = x
    go (Waiting w) x = absurd (false≢true x)
    go Executing x = x
raised_executing hadRun t false x = x

module _ (rank : Ranking) (s : Session) (e : Event) (a : Answer) (s₁ : Session) (moved : Moved rank s e a.said s₁) (settled : Settled s₁ a.admitted a.session)
    (i : ℕ) (l : i < s.n) (runs-before : executing s i ≡ true) (on : commits (heard e a) i ≡ false) where
  -- no accepted event of its own but a commit can come
  not_own : i ≢ e.task
  not_own p = go moved.own
    where
      was : {state : State} → (task_at s e.task).state ≡ state → is_executing state ≡ true
      was q = ap is_executing (sym q) ∙ ap (executing s) (sym p) ∙ runs-before

      go : {said : Said} {u : Task} → Own s.mode (task_at s e.task) e said u → ⊥
      go (arrives kind q late) = false≢true (was q)
      go (runs kind q) = false≢true (was q)
      go (waits kind q b k h) = false≢true (was q)
      go (commitsOwn kind q) = not_both (commits (heard e a) i) (rw (eq-eqb (number a.said) 0 moved.zero, eq-eqb e.task i (sym p), kind) refl) on
      go (finishes kind q) = false≢true (was q)

  runs_after : executing a.session i ≡ true
  runs_after = go (settled.each i)
    where
      go : {named : Bool} → Each s₁ a.session named i → executing a.session i ≡ true
      go (inl q) =
          ap (λ (t : Task). is_executing t.state) (q.0 ∙ moved.other i l not_own) ∙ raised_executing (ran rank s i) (task_at s i) (passed_over s e i) runs-before
      go (inr q) = ap (λ (t : Task). is_executing t.state) q.1

  sets_after : SameSets (sets_at a.session i) (sets_at s i)
  sets_after =
      subst (λ (x : Sets). SameSets x (sets_at s i)) (sym (kept_sets s₁ a.session settled.kept i))
      (λ g lg. ((moved.other_sets i not_own).reads g lg, (moved.other_sets i not_own).writes g lg))

-- what further calls keep
record Still (rank : Ranking) (s s' : Session) (i : ℕ) : Type 0 where
  sound : Sound rank s'
  n : s'.n ≡ s.n
  runs : executing s' i ≡ true
  sets : SameSets (sets_at s' i) (sets_at s i)

still : (rank : Ranking) → Strict rank → Stays rank → (s : Session) → Sound rank s → (i : ℕ) → i < s.n → executing s i ≡ true
    → (s' : Session) (more : List Call) → Run rank s s' more → commits_in more i ≡ false → Still rank s s' i
unfolding commits_in
still rank strict stays s sound i l x s' more begun none = record { sound = sound; n = refl; runs = x; sets = λ g lg. (refl, refl) }
still rank strict stays s sound i l x s' more (called {s = before} {calls = earlier} r e) none =
    let a = step rank before e in
    let p = still rank strict stays s sound i l x before earlier r (or_false_right (commits (heard e a) i) (commits_in earlier i) none) in
    go p a (taken rank strict stays before e p.sound) (step_sound rank strict stays before e p.sound)
    (or_false_left (commits (heard e a) i) (commits_in earlier i) none)
  where
    go : Still rank s before i → (a : Answer) → Taken rank before e a → Sound rank a.session → commits (heard e a) i ≡ false → Still rank s a.session i
    go p a (refuses k given) sound' on = p
    go p a (accepts _ s₁ moved settled) sound' on =
        let lb = lt_of_lt_of_le l (le_of_eq (sym p.n)) in
        record {
          sound = sound';
          n = settled.kept.n ∙ moved.n_same ∙ p.n;
          runs = runs_after rank before e a s₁ moved settled i lb p.runs on;
          sets = λ g lg.
              let q = sets_after rank before e a s₁ moved settled i lb p.runs on g lg in
              (q.0 ∙ (p.sets g lg).0, q.1 ∙ (p.sets g lg).1);
        }

pub once_running : OnceRunning
once_running rank strict stays start s calls begins run s' more further i l x none =
    let p = still rank strict stays s (run_sound rank strict stays start s calls begins run) i l x s' more further none in
    (p.runs, p.sets)

-- ---- who waits is held

pub held_back : HeldBack
held_back rank strict stays start s calls begins run i l w =
    elim ((run_sound rank strict stays start s calls begins run).held i l w) [
      | inl b ↦ inl ((blocked_plain s (sets_at s i)).0 b)
      | inr r ↦ inr r
    ]

-- ---- the counts

-- what is told of both makes the retries the fewer
counted : (rank : Ranking) (start : Session) (calls : List Call) (i clashes retries : ℕ) → clashes ≡ passed i calls → retries ≡ retried rank start i calls
    → Counted rank start calls i clashes retries
counted rank start calls i clashes retries p q =
    record { passes = p; reruns = q; fewer = omega (arith, p, q, retried_fewer rank start i calls) }

pub waits_counted : WaitsCounted
waits_counted rank strict stays start s calls begins run i w l q =
    let p = (run_known rank strict stays start s calls begins run).follows i l in
    counted rank start calls i w.clashes w.retries (p.clashes w q) (p.retries w q)

pub waiting_is : (state : State) → is_waiting state ≡ true → (w : Wait) × (state ≡ Waiting w)
waiting_is Absent e = absurd (false≢true e)
waiting_is Plain e = absurd (false≢true e)
waiting_is (Waiting w) e = (w, refl)
waiting_is Executing e = absurd (false≢true e)

pub admitted_counted : AdmittedCounted
unfolding passed retried during passes reruns
admitted_counted rank strict stays start s calls begins run e k lk =
    let p = run_known rank strict stays start s calls begins run in
    go p (step rank s e) (taken rank strict stays s e p.sound) lk
  where
    at : Answer → Admission
    at a = get_or a.admitted.list k no_admission

    go : Known rank start s calls → (a : Answer) → Taken rank s e a → k < a.admitted.count
        → Counted rank start (heard e a ∷ calls) (at a).task (at a).clashes (at a).retries
    go p a (refuses k' given) lk = absurd (omega arith)
    go p a (accepts _ s₁ moved settled) lk =
        let entry = settled.entries k lk in
        let i = (at a).task in
        let w = waiting_is (state_at s₁ i) entry.1 in
        let is : at a ≡ admission i (Waiting w.0) = entry.2 ∙ ap (admission i) w.1 in
        let told = moved_known rank stays s e a s₁ moved settled start calls p i (lt_of_lt_of_le entry.0 (le_of_eq moved.n_same)) in
        counted rank start (heard e a ∷ calls) i (at a).clashes (at a).retries (ap (λ (x : Admission). x.clashes) is ∙ told.clashes w.0 w.1)
        (ap (λ (x : Admission). x.retries) is ∙ told.retries w.0 w.1)

-- ---- the sum

sound_known : (rank : Ranking) (s : Session) (i : ℕ) → Sound rank s → i < s.n → known s i ≡ true
sound_known rank s i p l =
    and_both (allowed 16 s.m && allowed 64 s.n) (ltb i s.n)
    (and_both (allowed 16 s.m) (allowed 64 s.n) (allowed_is 16 s.m (ne_of_gt p.m_low) p.m_high) (allowed_is 64 s.n (ne_of_gt p.n_low) p.n_high))
    (lt-ltb i s.n l)

pub bounded : Bounded
unfolding summed bound
bounded rank strict stays start s calls begins run i l = go (sound_known rank s i p.sound l)
  where
    p : Known rank start s calls
    p = run_known rank strict stays start s calls begins run

    length : ℕ
    length = wait_length i calls

    each : (j : ℕ) → j < s.n → cond (eqb j i) 0 (commits_of j i calls) ≤ cond (eqb j i) 0 (share length (task_at s j).terms)
    each j lj = pick (eqb j i)
      where
        pick : (b : Bool) → cond b 0 (commits_of j i calls) ≤ cond b 0 (share length (task_at s j).terms)
        pick true = le_of_eq refl
        pick false =
            limited_share (task_at s j).terms (commits_of j i calls) (arrivals_of j i calls) length (period_bounds (task_at s j).terms (p.sound.terms j lj)).0
            (p.limited i j l lj)

    at_most : passed i calls ≤ bound s i length
    at_most =
        le_trans (p.total i l)
        (sum_mono s.n (λ j. cond (eqb j i) 0 (commits_of j i calls)) (λ j. cond (eqb j i) 0 (share length (task_at s j).terms)) each)

    go : known s i ≡ true → (sum_number (summed s i length) ≡ 0) × (passed i calls ≤ sum_of (summed s i length))
    go k = rw k (refl, at_most)

-- one that is admitted is a task of the session
admitted_below : (rank : Ranking) (s : Session) (e : Event) (k : ℕ) (a : Answer) → Taken rank s e a → k < a.admitted.count
    → (get_or a.admitted.list k no_admission).task < a.session.n
admitted_below rank s e k a (refuses k' given) l = absurd (omega arith)
admitted_below rank s e k a (accepts _ s₁ moved settled) l = lt_of_lt_of_le (settled.entries k l).0 (le_of_eq (sym settled.kept.n))

pub admitted_within : AdmittedWithin
admitted_within rank strict stays start s calls begins run e k l =
    let a = step rank s e in
    let sound = run_sound rank strict stays start s calls begins run in
    let below = admitted_below rank s e k a (taken rank strict stays s e sound) l in
    let within = bounded rank strict stays start a.session (heard e a ∷ calls) begins (called run e) (get_or a.admitted.list k no_admission).task below in
    (within.0, omega (arith, within.1, (admitted_counted rank strict stays start s calls begins run e k l).passes))

-- ---- those that run, and what is told

pub running_apart : RunningApart
running_apart rank strict stays start s calls begins run =
    let sound = run_sound rank strict stays start s calls begins run in (
      λ i j li lj d x y both.
          not_both (clash (sets_at s i) (sets_at s j)) ((clash_plain (sets_at s i) (sets_at s j)).1 both) (sound.apart i j li lj d x y),
      sound.fit,
    )

pub as_told : AsTold
as_told rank strict stays start s calls begins run i l = ((run_known rank strict stays start s calls begins run).follows i l).told

-- ---- ranks

pub rank_stays : RankStays
rank_stays rank strict stays start s calls begins run e =
    go (step rank s e) (taken rank strict stays s e (run_sound rank strict stays start s calls begins run))
  where
    go : (a : Answer) → Taken rank s e a → JobStays s a.session
    go a (refuses k given) i l here still = (refl, refl)
    go a (accepts _ s₁ moved settled) i l here still =
        job_after rank stays s e a s₁ moved settled i l (not-true (is_absent (state_at s i)) here) (not-true (is_absent (state_at a.session i)) still)

pub ranked_as_said : RankedAsSaid
ranked_as_said rank strict stays start s calls begins run i j a b li lj here there at_a at_b p q =
    ranking_agrees s.mode (task_at s i) (task_at s j) a b i j (ranks i a li here at_a) (ranks j b lj there at_b) p q
    (lt_of_lt_of_le li sound.n_high) (lt_of_lt_of_le lj sound.n_high)
  where
    sound : Sound rank s
    sound = run_sound rank strict stays start s calls begins run

    -- its rank is that of its last arrival
    ranks : (i a : ℕ) → i < s.n → present_at s i ≡ true → (task_at s i).arrival ≡ Some a → Ranked s.mode (task_at s i) a
    ranks i a l here at_a =
        let job = sound.present i l (not-true (is_absent (state_at s i)) here) in
        rw (same_tick job.0 a (sym job.1 ∙ at_a)) job.2

-- in each mode: the last tick and the longest period together, or the largest priority
most : (mode a : ℕ) (t : Terms) → a ≤ 4294967295 → t.period ≤ 86400000 → job_rank mode t a ≤ 4381367295
unfolding job_rank
most mode a t l p = go (by_deadline mode)
  where
    go : (b : Bool) → cond b (a + t.period) (65535 - t.priority) ≤ 4381367295
    go true = omega arith
    go false = omega arith

pub rank_fits : RankFits
rank_fits rank strict stays start s calls begins run i l last = go (is_absent (state_at s i)) refl
  where
    sound : Sound rank s
    sound = run_sound rank strict stays start s calls begins run

    go : (b : Bool) → is_absent (state_at s i) ≡ b → (task_at s i).rank ≤ 4381367295
    go true e = omega (arith, (sound.gone i l e).1)
    go false e =
        let job = sound.present i l e in
        rw job.2
        (most s.mode job.0 (task_at s i).terms (le_trans (sound.arrivals i job.0 l job.1) last)
        (period_bounds (task_at s i).terms (sound.terms i l)).1)
