-- What is known at every place of a run: the session is sound, it is of the start's m, n and mode, history says what it says, and while task i waits every task's commits
-- and arrivals are within their bounds. A start has it and every call keeps it.
use Prim.Native.Nat.{ℕ, ◌+◌, ◌≤◌, ◌<◌, zero-le}
use mathlib.Core.Path.{◌≡◌, refl, sym, ap, ap₂, subst, ◌∙◌}
use mathlib.Core.Logic.{inl, inr, ◌≢◌}
use mathlib.Core.List.{List, [], ◌∷◌}
use mathlib.Core.Bool.{Bool, true, false, cond, not, ◌&&◌, ◌||◌, false≢true}
use native.Mathlib.Nat.{add-zero, lt_of_lt_of_le, le_trans, le_of_eq}
use native.Mathlib.Omega.{arith}
use lib.Dec.{eqb}
use borrow.Author.Tests.{eq-eqb, ne_eqb}
use Rattle.objects.specs.Below.{one, sum}
use Rattle.objects.specs.Objects.{clash}
use Rattle.objects.proofs.Laws.Below.{one_le, sum_ext, sum_add, sum_term}
use Rattle.rules.specs.declared.State.{State}
use Rattle.rules.specs.declared.State.TheVariants.{Absent}
use Rattle.rules.specs.declared.Task.{Task}
use Rattle.rules.specs.declared.Session.{Session}
use Rattle.rules.specs.declared.Kind.{Kind}
use Rattle.rules.specs.declared.Kind.TheVariants.{Arrive, Release, Commit, Finish}
use Rattle.rules.specs.declared.Event.{Event}
use Rattle.rules.specs.declared.Answer.{Answer}
use Rattle.rules.specs.Answers.{is_wait, number}
use Rattle.rules.specs.Ranking.{Ranking, Strict, Stays}
use Rattle.rules.specs.Tasks.{is_absent, is_waiting, is_executing, task_at, state_at}
use Rattle.rules.specs.Room.{ran}
use Rattle.rules.specs.Events.{refused, step}
use Rattle.rules.specs.Reachable.{Sound}
use Rattle.rules.specs.History.{Call, heard, tasks_of, names, accepted, by, arrives, commits, deferred, admits, is_arrive, is_commit, is_release, Stage, waits, executes, stage_after, stage, is_waits, in_wait, transaction, released, began, lasted, wait_length, during, passes, passed, last_arrival, ranked, retried}
use Rattle.rules.specs.Demand3.{Start, Run, begun, called, stage_of}
use Rattle.rules.proofs.Laws.Alike.{at_or_other}
use Rattle.rules.proofs.Laws.Listed.{Settled, Each}
use Rattle.rules.proofs.Events.{absent_is, step_sound}
use Rattle.rules.proofs.Moves.{passed_over, Moved, Taken, refuses, accepts, taken}
use Rattle.rules.proofs.Ran.{ran_told}
use Rattle.rules.proofs.Told.{Follows, during_goes, plus_none, no_wait, refused_follows, moved_follows, settled_follows}
use Rattle.rules.proofs.Jobs.{Live, Limited, Ready, Kin, ready_live, nothing_limited, own_live, own_ready, own_terms, SameJob, own_job, kin_refl, kin_trans, kin_raised, kin_admitted, kin_terms, kin_job, kin_absent, kin_ready, kin_live, live_limited}

-- how often task j committed, and arrived, in task i's last wait
abbrev pub commits_of : ℕ → ℕ → List Call → ℕ
commits_of j i calls = during (λ c before. commits c j) i calls

abbrev pub arrivals_of : ℕ → ℕ → List Call → ℕ
arrivals_of j i calls = during (λ c before. arrives c j) i calls

pub record Known (rank : Ranking) (start s : Session) (calls : List Call) : Type 0 where
  pub sound : Sound rank s
  pub m_same : s.m ≡ start.m
  pub n_same : s.n ≡ start.n
  pub mode_same : s.mode ≡ start.mode
  pub follows : (i : ℕ) → i < s.n → Follows rank start s calls i
  pub ready : (i : ℕ) → i < s.n → Ready (task_at s i)
  pub since : (i : ℕ) → i < s.n → in_wait i calls ≡ true → began i calls ≤ s.tick
  pub live : (i j : ℕ) → i < s.n → j < s.n → in_wait i calls ≡ true → Live (task_at s j) (commits_of j i calls) (arrivals_of j i calls) (began i calls)
  pub limited : (i j : ℕ) → i < s.n → j < s.n
      → Limited (task_at s j).terms (commits_of j i calls) (arrivals_of j i calls) (wait_length i calls)
  pub total : (i : ℕ) → i < s.n → passed i calls ≤ sum s.n (λ j. cond (eqb j i) 0 (commits_of j i calls))

-- ---- what one more call does to a wait

module _ (c : Call) (calls : List Call) (i : ℕ) where
  during_begins : (f : Call → List Call → Bool) → deferred c i ≡ true → during f i (c ∷ calls) ≡ 0
  unfolding during
  during_begins f q = ap (λ (b : Bool). cond b 0 (during f i calls + one (in_wait i calls && f c calls))) q

  during_live : (f : Call → List Call → Bool) → deferred c i ≡ false → in_wait i calls ≡ true → during f i (c ∷ calls) ≡ during f i calls + one (f c calls)
  during_live f q w = during_goes f c calls i q ∙ ap (λ (b : Bool). during f i calls + one (b && f c calls)) w

  during_over : (f : Call → List Call → Bool) → deferred c i ≡ false → in_wait i calls ≡ false → during f i (c ∷ calls) ≡ during f i calls
  during_over f q w =
      during_goes f c calls i q ∙ ap (λ (b : Bool). during f i calls + one (b && f c calls)) w ∙ add-zero (during f i calls)

  began_begins : deferred c i ≡ true → began i (c ∷ calls) ≡ c.event.tick
  unfolding began
  began_begins q = ap (λ (b : Bool). cond b c.event.tick (began i calls)) q

  began_goes : deferred c i ≡ false → began i (c ∷ calls) ≡ began i calls
  unfolding began
  began_goes q = ap (λ (b : Bool). cond b c.event.tick (began i calls)) q

  abbrev goes_on : Bool → Bool → Bool → ℕ
  goes_on d a w = cond (d || (a && w)) c.event.tick (lasted i calls)

  lasted_live : deferred c i ≡ false → accepted c ≡ true → in_wait i calls ≡ true → lasted i (c ∷ calls) ≡ c.event.tick
  unfolding lasted
  lasted_live q a w = ap (λ (b : Bool). goes_on b (accepted c) (in_wait i calls)) q ∙ ap₂ (λ (x y : Bool). goes_on false x y) a w

  pub lasted_over : deferred c i ≡ false → accepted c ≡ true → in_wait i calls ≡ false → lasted i (c ∷ calls) ≡ lasted i calls
  unfolding lasted
  lasted_over q a w = ap (λ (b : Bool). goes_on b (accepted c) (in_wait i calls)) q ∙ ap₂ (λ (x y : Bool). goes_on false x y) a w

  -- who waits after a call began to wait with it, or waited before
  waits_after : in_wait i (c ∷ calls) ≡ true → deferred c i ≡ false → in_wait i calls ≡ true
  unfolding stage
  waits_after w d = go (admits c i) (by c i) c.event.kind w d
    where
      after : Bool → Bool → Kind → Stage
      after x y k = cond x executes (cond y (stage_after k c.said) (stage i calls))

      go : (x y : Bool) (k : Kind) → is_waits (after x y k) ≡ true → (y && is_release k && is_wait c.said) ≡ false → in_wait i calls ≡ true
      go true y k w d = absurd (false≢true w)
      go false false k w d = w
      go false true Arrive w d = absurd (false≢true w)
      go false true Release w d = absurd (false≢true (ap (λ (b : Bool). is_waits (cond b waits executes)) (sym d) ∙ w))
      go false true Commit w d = absurd (false≢true w)
      go false true Finish w d = absurd (false≢true w)

-- ---- a refused call: nothing changes

module _ (s : Session) (e : Event) (k : ℕ) (no : k ≢ 0) (calls : List Call) where
  abbrev refusal : Call
  refusal = heard e (refused s k)

  unheard : accepted refusal ≡ false
  unheard = ne_eqb k 0 no

  -- what goes by accepted calls alone
  during_quiet : (f : Call → List Call → Bool) (i : ℕ) → f refusal calls ≡ false → during f i (refusal ∷ calls) ≡ during f i calls
  during_quiet f i q =
      during_goes f refusal calls i (rw unheard refl) ∙ ap (λ (b : Bool). during f i calls + one (in_wait i calls && b)) q
      ∙ plus_none (during f i calls) (in_wait i calls)

  stage_quiet : (i : ℕ) → stage i (refusal ∷ calls) ≡ stage i calls
  unfolding stage names tasks_of
  stage_quiet i = rw unheard refl

  pub lasted_quiet : (i : ℕ) → lasted i (refusal ∷ calls) ≡ lasted i calls
  unfolding lasted
  lasted_quiet i = rw unheard refl

  refused_known : (rank : Ranking) (start : Session) → Known rank start s calls → Known rank start s (refusal ∷ calls)
  unfolding passed passes
  refused_known rank start p = record {
    sound = p.sound;
    m_same = p.m_same;
    n_same = p.n_same;
    mode_same = p.mode_same;
    follows = λ i l. refused_follows rank start s e k no calls i (p.follows i l);
    ready = p.ready;
    since = λ i l w. rw (began_goes refusal calls i (rw unheard refl)) (p.since i l (waited i w));
    live = λ i j li lj w.
        rw (commits_quiet j i, arrives_quiet j i, began_goes refusal calls i (rw unheard refl)) (p.live i j li lj (waited i w));
    limited = λ i j li lj.
        rw (commits_quiet j i, arrives_quiet j i, lasted_quiet i, began_goes refusal calls i (rw unheard refl)) (p.limited i j li lj);
    total = λ i l.
        omega (
          arith,
          p.total i l,
          during_quiet (passes i) i (rw unheard refl),
          sum_ext s.n (λ j. cond (eqb j i) 0 (commits_of j i (refusal ∷ calls))) (λ j. cond (eqb j i) 0 (commits_of j i calls))
              (λ j lj. ap (cond (eqb j i) 0) (commits_quiet j i)),
        );
  }
    where
      waited : (i : ℕ) → in_wait i (refusal ∷ calls) ≡ true → in_wait i calls ≡ true
      waited i w = ap is_waits (sym (stage_quiet i)) ∙ w

      commits_quiet : (j i : ℕ) → commits_of j i (refusal ∷ calls) ≡ commits_of j i calls
      commits_quiet j i = during_quiet (λ c before. commits c j) i (rw unheard refl)

      arrives_quiet : (j i : ℕ) → arrivals_of j i (refusal ∷ calls) ≡ arrivals_of j i calls
      arrives_quiet j i = during_quiet (λ c before. arrives c j) i (rw unheard refl)

-- ---- an accepted call

-- of the tasks, at most one committed, and it is not the one that it passes over
one_commits : (w a k q x : Bool) → one (w && (a && k && not q && x)) ≤ cond q 0 (one (w && ((a && true) && k)))
one_commits false a k q x = zero-le
one_commits true false k q x = zero-le
one_commits true true false q x = zero-le
one_commits true true true true x = zero-le
one_commits true true true false x = one_le x

-- how each task went

module _ (rank : Ranking) (stays : Stays rank) (s : Session) (e : Event) (a : Answer) (s₁ : Session) (moved : Moved rank s e a.said s₁) (settled : Settled s₁ a.admitted a.session) where
  abbrev s' : Session
  s' = a.session

  abbrev c : Call
  c = heard e a

  ok : accepted c ≡ true
  ok = eq-eqb (number a.said) 0 moved.zero

  kin_settled : (j : ℕ) → Kin (task_at s₁ j) (task_at s' j)
  kin_settled j = go (settled.each j)
    where
      go : {named : Bool} → Each s₁ s' named j → Kin (task_at s₁ j) (task_at s' j)
      go (inl q) = kin_refl (task_at s₁ j) (task_at s' j) q.0
      go (inr q) = kin_admitted (task_at s₁ j) (task_at s' j) q.0 q.1

  -- another task is kin to itself
  kin_other : (j : ℕ) → j < s.n → j ≢ e.task → Kin (task_at s j) (task_at s' j)
  kin_other j l d =
      kin_trans (task_at s j) (task_at s₁ j) (task_at s' j)
      (subst (λ (u : Task). Kin (task_at s j) u) (sym (moved.other j l d)) (kin_raised (ran rank s j) (task_at s j) (passed_over s e j))) (kin_settled j)

  ready_after : ((j : ℕ) → j < s.n → Ready (task_at s j)) → (j : ℕ) → j < s.n → Ready (task_at s' j)
  ready_after before =
      at_or_other e.task (λ (j : ℕ). j < s.n → Ready (task_at s' j))
      (λ l. kin_ready (task_at s₁ e.task) (task_at s' e.task) (kin_settled e.task) (own_ready (task_at s e.task) e a.said (task_at s₁ e.task) moved.own))
      (λ j d l. kin_ready (task_at s j) (task_at s' j) (kin_other j l d) (before j l))

  pub terms_after : (j : ℕ) → j < s.n → (task_at s' j).terms ≡ (task_at s j).terms
  terms_after =
      at_or_other e.task (λ (j : ℕ). j < s.n → (task_at s' j).terms ≡ (task_at s j).terms)
      (λ l. kin_terms (task_at s₁ e.task) (task_at s' e.task) (kin_settled e.task) ∙ own_terms (task_at s e.task) e a.said (task_at s₁ e.task) moved.own)
      (λ j d l. kin_terms (task_at s j) (task_at s' j) (kin_other j l d))

  -- a task that is present before and after has the same job
  pub job_after : (j : ℕ) → j < s.n → is_absent (state_at s j) ≡ false → is_absent (state_at s' j) ≡ false → SameJob (task_at s j) (task_at s' j)
  job_after =
      at_or_other e.task (λ (j : ℕ). j < s.n → is_absent (state_at s j) ≡ false → is_absent (state_at s' j) ≡ false → SameJob (task_at s j) (task_at s' j))
      (λ l here still.
      let k = kin_settled e.task in
      let u = task_at s₁ e.task in
      let v = task_at s' e.task in
      let q = kin_job u v k in
      let p = own_job (task_at s e.task) e a.said u moved.own here (sym (kin_absent u v k) ∙ still) in
      (q.0 ∙ p.0, q.1 ∙ p.1))
      (λ j d l here still. kin_job (task_at s j) (task_at s' j) (kin_other j l d))

  live_after : (C A b : ℕ) → b ≤ e.tick → (j : ℕ) → j < s.n → (task_at s j).releases ≤ (task_at s j).terms.transactions
      → Live (task_at s j) C A b → Live (task_at s' j) (C + one (commits c j)) (A + one (arrives c j)) b
  live_after C A b since =
      at_or_other e.task (λ (j : ℕ). j < s.n → (task_at s j).releases ≤ (task_at s j).terms.transactions → Live (task_at s j) C A b → Live (task_at s' j) (C + one (commits c j)) (A + one (arrives c j)) b)
      (λ l few before.
      rw (ok, eq-eqb e.task e.task refl)
      (kin_live (task_at s₁ e.task) (task_at s' e.task) (kin_settled e.task) (C + one (is_commit e.kind)) (A + one (is_arrive e.kind)) b
      (own_live (task_at s e.task) e C A b before a.said (task_at s₁ e.task) moved.own few since)))
      (λ j d l few before.
      rw (ok, ne_eqb e.task j (λ q. d (sym q))) (simp add-zero (kin_live (task_at s j) (task_at s' j) (kin_other j l d) C A b before)))

  module _ (start : Session) (calls : List Call) (p : Known rank start s calls) where
    -- before its scan
    pub moved_known : (i : ℕ) → i < s.n → Follows rank start s₁ (record { event = e; said = a.said; admitted = [] } ∷ calls) i
    moved_known =
        moved_follows rank start s e a.said s₁ moved calls p.mode_same p.follows (ran_told rank stays start s calls p.m_same p.n_same (λ j lj. (p.follows j lj).told))
        (λ j lj. omega (arith, p.sound.clashes j lj, p.sound.accepted))

  module _ (start : Session) (calls : List Call) (p : Known rank start s calls) (sound : Sound rank s') where
    n_now : s'.n ≡ s.n
    n_now = settled.kept.n ∙ moved.n_same

    below : {j : ℕ} → j < s'.n → j < s.n
    below l = lt_of_lt_of_le l (le_of_eq n_now)

    now : e.tick ≡ s'.tick
    now = sym (settled.kept.tick ∙ moved.tick_now)

    follows_after : (i : ℕ) → i < s.n → Follows rank start s' (c ∷ calls) i
    follows_after i l = settled_follows rank start e a s₁ s' calls i settled (moved_known start calls p i l)

    since_before : (i : ℕ) → i < s.n → in_wait i calls ≡ true → began i calls ≤ e.tick
    since_before i l w = le_trans (p.since i l w) moved.tick

    since_after : (i : ℕ) → i < s.n → in_wait i (c ∷ calls) ≡ true → began i (c ∷ calls) ≤ s'.tick
    since_after i l w = go (deferred c i) refl
      where
        go : (d : Bool) → deferred c i ≡ d → began i (c ∷ calls) ≤ s'.tick
        go true d = le_of_eq (began_begins c calls i d ∙ now)
        go false d = rw (began_goes c calls i d, sym now) (since_before i l (waits_after c calls i w d))

    -- a wait that goes on
    goes_live : (i j : ℕ) → i < s.n → j < s.n → deferred c i ≡ false → in_wait i calls ≡ true
        → Live (task_at s' j) (commits_of j i (c ∷ calls)) (arrivals_of j i (c ∷ calls)) (began i (c ∷ calls))
    goes_live i j li lj d w =
        rw (during_live c calls i (λ c before. commits c j) d w, during_live c calls i (λ c before. arrives c j) d w, began_goes c calls i d)
        (live_after (commits_of j i calls) (arrivals_of j i calls) (began i calls) (since_before i li w) j lj (p.sound.releases j lj) (p.live i j li lj w))

    live_now : (i j : ℕ) → i < s.n → j < s.n → in_wait i (c ∷ calls) ≡ true
        → Live (task_at s' j) (commits_of j i (c ∷ calls)) (arrivals_of j i (c ∷ calls)) (began i (c ∷ calls))
    live_now i j li lj w = go (deferred c i) refl
      where
        go : (d : Bool) → deferred c i ≡ d → Live (task_at s' j) (commits_of j i (c ∷ calls)) (arrivals_of j i (c ∷ calls)) (began i (c ∷ calls))
        go true d =
            rw (during_begins c calls i (λ c before. commits c j) d, during_begins c calls i (λ c before. arrives c j) d)
            (ready_live (task_at s' j) (began i (c ∷ calls)) (ready_after p.ready j lj))
        go false d = goes_live i j li lj d (waits_after c calls i w d)

    limited_now : (i j : ℕ) → i < s.n → j < s.n
        → Limited (task_at s' j).terms (commits_of j i (c ∷ calls)) (arrivals_of j i (c ∷ calls)) (wait_length i (c ∷ calls))
    limited_now i j li lj = go (deferred c i) refl (in_wait i calls) refl
      where
        go : (d : Bool) → deferred c i ≡ d → (w : Bool) → in_wait i calls ≡ w
            → Limited (task_at s' j).terms (commits_of j i (c ∷ calls)) (arrivals_of j i (c ∷ calls)) (wait_length i (c ∷ calls))
        go true d w _ =
            rw (during_begins c calls i (λ c before. commits c j) d, during_begins c calls i (λ c before. arrives c j) d)
            (nothing_limited (task_at s' j).terms (wait_length i (c ∷ calls)))
        go false d true w =
            let lj' : j < s'.n = lt_of_lt_of_le lj (le_of_eq (sym n_now)) in
            rw (lasted_live c calls i d ok w)
            (live_limited (task_at s' j) (commits_of j i (c ∷ calls)) (arrivals_of j i (c ∷ calls)) (began i (c ∷ calls)) e.tick (goes_live i j li lj d w)
            (sound.releases j lj') (λ x q. le_trans (sound.arrivals j x lj' q) (le_of_eq (sym now))))
        go false d false w =
            rw (
              terms_after j lj,
              during_over c calls i (λ c before. commits c j) d w,
              during_over c calls i (λ c before. arrives c j) d w,
              lasted_over c calls i d ok w,
              began_goes c calls i d,
            )
            (p.limited i j li lj)

    total_now : (i : ℕ) → i < s.n → passed i (c ∷ calls) ≤ sum s.n (λ j. cond (eqb j i) 0 (commits_of j i (c ∷ calls)))
    unfolding passed passes
    total_now i l = go (deferred c i) refl
      where
        before : ℕ → ℕ
        before j = cond (eqb j i) 0 (commits_of j i calls)

        new : ℕ → ℕ
        new j = cond (eqb j i) 0 (one (in_wait i calls && commits c j))

        apart : deferred c i ≡ false → (j : ℕ) → cond (eqb j i) 0 (commits_of j i (c ∷ calls)) ≡ before j + new j
        apart d j = pick (eqb j i)
          where
            pick : (b : Bool)
                → cond b 0 (commits_of j i (c ∷ calls)) ≡ cond b 0 (commits_of j i calls) + cond b 0 (one (in_wait i calls && commits c j))
            pick true = refl
            pick false = during_goes (λ c before. commits c j) c calls i d

        committing : one (in_wait i calls && passes i c calls) ≤ new e.task
        committing =
            rw (eq-eqb e.task e.task refl)
            (one_commits (in_wait i calls) (accepted c) (is_commit e.kind) (eqb e.task i) (clash (transaction e.task calls) (transaction i calls)))

        go : (d : Bool) → deferred c i ≡ d → passed i (c ∷ calls) ≤ sum s.n (λ j. cond (eqb j i) 0 (commits_of j i (c ∷ calls)))
        go true d = le_trans (le_of_eq (during_begins c calls i (passes i) d)) zero-le
        go false d =
            omega (
              arith,
              during_goes (passes i) c calls i d,
              p.total i l,
              committing,
              sum_ext s.n (λ j. cond (eqb j i) 0 (commits_of j i (c ∷ calls))) (λ j. before j + new j) (λ j lj. apart d j),
              sum_add s.n before new,
              sum_term s.n new e.task moved.below,
            )

    accepted_known : Known rank start s' (c ∷ calls)
    accepted_known = record {
      sound = sound;
      m_same = settled.kept.m ∙ moved.m_same ∙ p.m_same;
      n_same = n_now ∙ p.n_same;
      mode_same = settled.kept.mode ∙ moved.mode_same ∙ p.mode_same;
      follows = λ i l. follows_after i (below l);
      ready = λ i l. ready_after p.ready i (below l);
      since = λ i l. since_after i (below l);
      live = λ i j li lj. live_now i j (below li) (below lj);
      limited = λ i j li lj. limited_now i j (below li) (below lj);
      total = λ i l. rw n_now (total_now i (below l));
    }

-- ---- a run

start_known : (rank : Ranking) (s : Session) → Start rank s → Known rank s s []
unfolding stage transaction released began lasted during passed retried last_arrival ranked
start_known rank s start = record {
  sound = start.sound;
  m_same = refl;
  n_same = refl;
  mode_same = refl;
  follows = λ i l. record {
    told = record {
      stands = ap stage_of (sym (gone i l));
      sets = λ b. absurd (false≢true (ap (λ (x : State). is_waiting x || is_executing x) (sym (gone i l)) ∙ b));
      release = λ w q. absurd (no_wait (state_at s i) w (ap is_waiting (gone i l)) q);
      length = λ w q. absurd (no_wait (state_at s i) w (ap is_waiting (gone i l)) q);
      releases = (start.sound.gone i l (start.absent i l)).0;
      terms = refl;
      arrival = refl;
      rank = (start.sound.gone i l (start.absent i l)).1;
    };
    clashes = λ w q. absurd (no_wait (state_at s i) w (ap is_waiting (gone i l)) q);
    retries = λ w q. absurd (no_wait (state_at s i) w (ap is_waiting (gone i l)) q);
  };
  ready = λ i l. le_trans (le_of_eq (ap (λ (x : State). one (is_waiting x || is_executing x)) (gone i l))) zero-le;
  since = λ i l w. absurd (false≢true w);
  live = λ i j li lj w. absurd (false≢true w);
  limited = λ i j li lj. nothing_limited (task_at s j).terms 0;
  total = λ i l. zero-le;
}
  where
    gone : (i : ℕ) → i < s.n → state_at s i ≡ Absent
    gone i l = absent_is (state_at s i) (start.absent i l)

pub run_known : (rank : Ranking) → Strict rank → Stays rank → (start s : Session) (calls : List Call) → Start rank start → Run rank start s calls
    → Known rank start s calls
run_known rank strict stays start s calls begins begun = start_known rank start begins
run_known rank strict stays start s calls begins (called {s = before} {calls = earlier} r e) =
    let p = run_known rank strict stays start before earlier begins r in
    go (step rank before e) (taken rank strict stays before e p.sound) (step_sound rank strict stays before e p.sound) p
  where
    go : (a : Answer) → Taken rank before e a → Sound rank a.session → Known rank start before earlier
        → Known rank start a.session (heard e a ∷ earlier)
    go a (refuses k given) sound p = refused_known before e k given earlier rank start p
    go a (accepts _ s₁ moved settled) sound p = accepted_known rank stays before e a s₁ moved settled start earlier p sound
