-- History says what the session says. An accepted event is followed in two parts: first what it does itself, with nobody admitted yet, and then what its scan admits.
use Prim.Native.Nat.{ℕ, ◌+◌, ◌≤◌, ◌<◌}
use mathlib.Core.Path.{◌≡◌, refl, sym, ap, ap₂, subst, ◌∙◌}
use mathlib.Core.Logic.{inl, inr, ◌≢◌}
use mathlib.Core.List.{List, [], ◌∷◌}
use mathlib.Core.Bool.{Bool, true, false, cond, ◌&&◌, ◌||◌, and_assoc, false≢true}
use native.Mathlib.Nat.{add-zero, le_of_eq}
use native.Mathlib.Omega.{arith}
use lib.Dec.{eqb}
use borrow.Author.Tests.{eq-eqb, ne_eqb}
use Rattle.objects.specs.Below.{one}
use Rattle.objects.specs.Objects.{Sets, clash}
use Rattle.objects.proofs.Laws.Below.{or_left, or_right}
use Rattle.rules.specs.declared.Wait.{Wait}
use Rattle.rules.specs.declared.State.{State}
use Rattle.rules.specs.declared.State.TheVariants.{Absent, Plain, Waiting, Executing}
use Rattle.rules.specs.declared.Terms.{Terms}
use Rattle.rules.specs.declared.Task.{Task}
use Rattle.rules.specs.declared.Session.{Session}
use Rattle.rules.specs.declared.Event.{Event}
use Rattle.rules.specs.declared.Said.{Said}
use Rattle.rules.specs.declared.Answer.{Answer}
use Rattle.rules.specs.Answers.{number}
use Rattle.rules.specs.Ranking.{Ranking, job_rank}
use Rattle.rules.specs.Tasks.{is_waiting, is_executing, wait_of, task_at, state_at, waiting, executing, sets_at, sets_of, in_state}
use Rattle.rules.specs.Room.{ran}
use Rattle.rules.specs.Events.{one_more, raised_state, raised_task, refused}
use Rattle.rules.specs.History.{Call, heard, tasks_of, names, accepted, admits, is_commit, is_release, Stage, absent, plain, waits as waitsStage, executes, stage, in_wait, transaction, began, lasted, deferred, during, passes, passed, last_arrival, ranked, ran_by, reruns, retried}
use Rattle.rules.specs.History.{released as released_in}
use Rattle.rules.specs.Demand3.{SameSets, stage_of, Told}
use Rattle.rules.proofs.Laws.Rows.{Agree, clash_agree}
use Rattle.rules.proofs.Laws.Alike.{at_or_other}
use Rattle.rules.proofs.Laws.Keeping.{kept_sets}
use Rattle.rules.proofs.Laws.Listed.{Settled, Each}
use Rattle.rules.proofs.Moves.{Own, arrives, runs, waits, commits, finishes, passed_over, beside, Moved}
use Rattle.rules.proofs.Ran.{in_wait_lem, retried_fewer}

-- what is told of a task, with its counts
pub record Follows (rank : Ranking) (start s : Session) (calls : List Call) (i : ℕ) : Type 0 where
  pub told : Told start s calls i
  pub clashes : (w : Wait) → state_at s i ≡ Waiting w → w.clashes ≡ passed i calls
  pub retries : (w : Wait) → state_at s i ≡ Waiting w → w.retries ≡ retried rank start i calls

-- so it has no more retries than clashes
follows_fewer : (rank : Ranking) (start s : Session) (calls : List Call) (i : ℕ) → Follows rank start s calls i
    → (wait_of (state_at s i)).retries ≤ (wait_of (state_at s i)).clashes
follows_fewer rank start s calls i p = go (state_at s i) refl
  where
    go : (state : State) → state_at s i ≡ state → (wait_of state).retries ≤ (wait_of state).clashes
    go Absent q = le_of_eq refl
    go Plain q = le_of_eq refl
    go (Waiting w) q = omega (arith, p.clashes w q, p.retries w q, retried_fewer rank start i calls)
    go Executing q = le_of_eq refl

-- ---- sets

agree_same : (x y z : Sets) → Agree x y → SameSets y z → SameSets x z
agree_same x y z p q g l = (p.reads g l ∙ (q g l).0, p.writes g l ∙ (q g l).1)

agreeing : (x y : Sets) → SameSets x y → Agree x y
agreeing x y p = record { reads = λ g l. (p g l).0; writes = λ g l. (p g l).1 }

-- a call that does not begin the wait is counted or not
pub during_goes : (f : Call → List Call → Bool) (c : Call) (calls : List Call) (i : ℕ) → deferred c i ≡ false
    → during f i (c ∷ calls) ≡ during f i calls + one (in_wait i calls && f c calls)
unfolding during
during_goes f c calls i q = ap (λ (b : Bool). cond b 0 (during f i calls + one (in_wait i calls && f c calls))) q

pub plus_none : (k : ℕ) (b : Bool) → k + one (b && false) ≡ k
plus_none k true = add-zero k
plus_none k false = add-zero k

-- ---- a refused call

module _ (rank : Ranking) (start s : Session) (e : Event) (k : ℕ) (no : k ≢ 0) (calls : List Call) (i : ℕ) (p : Follows rank start s calls i) where
  pub refused_follows : Follows rank start s (heard e (refused s k) ∷ calls) i
  unfolding stage transaction released_in began lasted passed retried during passes reruns last_arrival ranked names tasks_of
  refused_follows = record {
    told = record {
      stands = rw (ne_eqb k 0 no) p.told.stands;
      sets = rw (ne_eqb k 0 no) p.told.sets;
      release = rw (ne_eqb k 0 no) p.told.release;
      length = rw (ne_eqb k 0 no) p.told.length;
      releases = rw (ne_eqb k 0 no) (p.told.releases ∙ sym (add-zero (released_in i calls)));
      terms = p.told.terms;
      arrival = rw (ne_eqb k 0 no) p.told.arrival;
      rank = rw (ne_eqb k 0 no) p.told.rank;
    };
    clashes = λ w q. rw (ne_eqb k 0 no) (p.clashes w q ∙ sym (plus_none (passed i calls) (in_wait i calls)));
    retries = λ w q. rw (ne_eqb k 0 no) (p.retries w q ∙ sym (plus_none (retried rank start i calls) (in_wait i calls)));
  }

-- ---- an accepted call: what is shown of its task's record is shown of the session

pub no_wait : (state : State) (w : Wait) → is_waiting state ≡ false → state ≡ Waiting w → ⊥
no_wait state w n e = false≢true (sym n ∙ ap is_waiting e)

-- what is shown of a wait
record WaitSeen (rank : Ranking) (start s : Session) (calls : List Call) (i : ℕ) (w : Wait) : Type 0 where
  release : w.release ≡ began i calls
  clashes : w.clashes ≡ passed i calls
  retries : w.retries ≡ retried rank start i calls
  length : lasted i calls ≡ s.tick

record Seen (rank : Ranking) (start s : Session) (calls : List Call) (i : ℕ) (t : Task) : Type 0 where
  stands : stage i calls ≡ stage_of t.state
  sets : (is_waiting t.state || is_executing t.state) ≡ true → SameSets (sets_at s i) (transaction i calls)
  wait : (w : Wait) → t.state ≡ Waiting w → WaitSeen rank start s calls i w
  releases : t.releases ≡ released_in i calls
  terms : t.terms ≡ (task_at start i).terms
  arrival : t.arrival ≡ last_arrival start i calls
  job : t.rank ≡ ranked start i calls

follows : (rank : Ranking) (start s : Session) (calls : List Call) (i : ℕ) (t : Task) → task_at s i ≡ t → Seen rank start s calls i t
    → Follows rank start s calls i
follows rank start s calls i t e p = record {
  told = record {
    stands = p.stands ∙ ap (λ (u : Task). stage_of u.state) (sym e);
    sets = λ b. p.sets (ap (λ (u : Task). is_waiting u.state || is_executing u.state) (sym e) ∙ b);
    release = λ w q. (p.wait w (here ∙ q)).release;
    length = λ w q. (p.wait w (here ∙ q)).length;
    releases = ap (λ (u : Task). u.releases) e ∙ p.releases;
    terms = ap (λ (u : Task). u.terms) e ∙ p.terms;
    arrival = ap (λ (u : Task). u.arrival) e ∙ p.arrival;
    rank = ap (λ (u : Task). u.rank) e ∙ p.job;
  };
  clashes = λ w q. (p.wait w (here ∙ q)).clashes;
  retries = λ w q. (p.wait w (here ∙ q)).retries;
}
  where
    here : t.state ≡ (task_at s i).state
    here = ap (λ (u : Task). u.state) (sym e)

-- ---- who is admitted

-- the call of an accepted event before anybody is admitted
abbrev unsettled : Event → Said → Call
unsettled e said = record { event = e; said = said; admitted = [] }

module _ (rank : Ranking) (start : Session) (e : Event) (a : Answer) (s s' : Session) (calls : List Call) (i : ℕ) (settled : Settled s a.admitted s')
    (p : Follows rank start s (unsettled e a.said ∷ calls) i) where
  abbrev c : Call
  c = heard e a

  sets_stay : (y : Sets) → SameSets (sets_at s i) y → SameSets (sets_at s' i) y
  sets_stay y = subst (λ (x : Sets). SameSets x y) (sym (kept_sets s s' settled.kept i))

  pub settled_follows : Follows rank start s' (c ∷ calls) i
  unfolding stage transaction released_in began lasted passed retried during passes reruns last_arrival ranked names
  settled_follows = go (settled.each i)
    where
      go : Each s s' (admits c i) i → Follows rank start s' (c ∷ calls) i
      go (inl q) =
          follows rank start s' (c ∷ calls) i (task_at s i) q.0
          (record {
            stands = rw q.1 p.told.stands;
            sets = λ b. sets_stay (transaction i (c ∷ calls)) (p.told.sets b);
            wait = λ w r. record {
              release = p.told.release w r;
              clashes = p.clashes w r;
              retries = p.retries w r;
              length = p.told.length w r ∙ sym settled.kept.tick;
            };
            releases = p.told.releases;
            terms = p.told.terms;
            arrival = p.told.arrival;
            job = p.told.rank;
          })
      go (inr q) =
          follows rank start s' (c ∷ calls) i (in_state (task_at s i) Executing) q.1
          (record {
            stands = rw q.2 refl;
            sets = λ b. sets_stay (transaction i (c ∷ calls)) (p.told.sets (or_left (waiting s i) (executing s i) q.0));
            wait = λ w r. absurd (no_wait Executing w refl r);
            releases = p.told.releases;
            terms = p.told.terms;
            arrival = p.told.arrival;
            job = p.told.rank;
          })

-- ---- what the event does itself

-- a task that a commit may have raised, b, and that may have run before it: what its wait was before
record Waited (state : State) (hadRun b : Bool) (w : Wait) : Type 0 where
  before : Wait
  waits : state ≡ Waiting before
  release : w.release ≡ before.release
  clashes : w.clashes ≡ before.clashes + one b
  retries : w.retries ≡ before.retries + one (b && hadRun)

more_or_not : (hadRun : Bool) (k : ℕ) → k < 4294967295 → cond hadRun (one_more k) k ≡ k + one hadRun
more_or_not true k l = omega arith
more_or_not false k l = sym (add-zero k)

waited : (hadRun : Bool) (t : Task) (state : State) (b : Bool) (w : Wait) → t.state ≡ state → (wait_of state).clashes < 4294967295
    → (wait_of state).retries ≤ (wait_of state).clashes → (cond b (raised_task hadRun t) t).state ≡ Waiting w → Waited state hadRun b w
waited hadRun t state true w e l few q = go state l few (ap (raised_state hadRun) (sym e) ∙ q)
  where
    go : (state : State) → (wait_of state).clashes < 4294967295 → (wait_of state).retries ≤ (wait_of state).clashes → raised_state hadRun state ≡ Waiting w
        → Waited state hadRun true w
    go Absent l few q = absurd (no_wait Absent w refl q)
    go Plain l few q = absurd (no_wait Plain w refl q)
    go (Waiting v) l few q = record {
      before = v;
      waits = refl;
      release = sym (ap (λ (x : State). (wait_of x).release) q);
      clashes = omega (arith, ap (λ (x : State). (wait_of x).clashes) q);
      retries = sym (ap (λ (x : State). (wait_of x).retries) q) ∙ more_or_not hadRun v.retries (omega arith);
    }
    go Executing l few q = absurd (no_wait Executing w refl q)
waited hadRun t state false w e l few q =
    record { before = w; waits = sym e ∙ q; release = refl; clashes = sym (add-zero w.clashes); retries = sym (add-zero w.retries) }

-- what a commit may have changed of a task is its wait alone, and not its stage
stage_stays : (hadRun : Bool) (t : Task) (b : Bool) → stage_of (cond b (raised_task hadRun t) t).state ≡ stage_of t.state
stage_stays hadRun t true = go t.state
  where
    go : (state : State) → stage_of (raised_state hadRun state) ≡ stage_of state
    go Absent = refl
    go Plain = refl
    go (Waiting w) = refl
    go Executing = refl
stage_stays hadRun t false = refl

rest_stays : {A : Type 0} (f : Task → A) (t u : Task) (b : Bool) → f u ≡ f t → f (cond b u t) ≡ f t
rest_stays f t u true p = p
rest_stays f t u false p = refl

-- a task waits or executes by its stage
busy : Stage → Bool
busy absent = false
busy plain = false
busy waitsStage = true
busy executes = true

busy_stage : (state : State) → (is_waiting state || is_executing state) ≡ busy (stage_of state)
unfolding busy
busy_stage Absent = refl
busy_stage Plain = refl
busy_stage (Waiting w) = refl
busy_stage Executing = refl

module _ (rank : Ranking) (start s : Session) (e : Event) (said : Said) (s' : Session) (moved : Moved rank s e said s') (calls : List Call)
    (mode_same : s.mode ≡ start.mode)
    (every : (j : ℕ) → j < s.n → Follows rank start s calls j) (told-ran : (j : ℕ) → j < s.n → ran_by rank start j calls ≡ ran rank s j)
    (fits : (j : ℕ) → j < s.n → (wait_of (state_at s j)).clashes < 4294967295) where
  abbrev i : ℕ
  i = e.task

  abbrev c₀ : Call
  c₀ = unsettled e said

  ok : accepted c₀ ≡ true
  ok = eq-eqb (number said) 0 moved.zero

  -- one that commits executes
  commits_executing : is_commit e.kind ≡ true → executing s i ≡ true
  commits_executing q = go moved.own
    where
      go : {said : Said} {u : Task} → Own s.mode (task_at s i) e said u → executing s i ≡ true
      go (arrives kind was late) = absurd (false≢true (ap is_commit (sym kind) ∙ q))
      go (runs kind was) = absurd (false≢true (ap is_commit (sym kind) ∙ q))
      go (waits kind was b k h) = absurd (false≢true (ap is_commit (sym kind) ∙ q))
      go (commits kind was) = ap is_executing was
      go (finishes kind was) = absurd (false≢true (ap is_commit (sym kind) ∙ q))

  module _ (j : ℕ) (l : j < s.n) (d : j ≢ i) where
    not_by : eqb i j ≡ false
    not_by = ne_eqb i j (λ p. d (sym p))

    abbrev raised : Bool
    raised = passed_over s e j

    -- the history's test is the rule's
    passes_raised : waiting s j ≡ true → (in_wait j calls && passes j c₀ calls) ≡ raised
    unfolding passes
    passes_raised w = go (is_commit e.kind) refl
      where
        same : executing s i ≡ true → clash (transaction i calls) (transaction j calls) ≡ clash (sets_at s i) (sets_at s j)
        same x =
            sym (clash_agree (sets_at s i) (sets_at s j) (transaction i calls) (transaction j calls)
            (agreeing (sets_at s i) (transaction i calls) ((every i moved.below).told.sets (or_right (waiting s i) (executing s i) x)))
            (agreeing (sets_at s j) (transaction j calls) ((every j l).told.sets (or_left (waiting s j) (executing s j) w))))

        go : (b : Bool) → is_commit e.kind ≡ b → (in_wait j calls && passes j c₀ calls) ≡ raised
        go true q = rw (in_wait_lem start s calls j (every j l).told, w, ok, q, not_by) (same (commits_executing q))
        go false q = rw (in_wait_lem start s calls j (every j l).told, w, ok, q)

    reruns_raised : waiting s j ≡ true → (in_wait j calls && reruns rank start j c₀ calls) ≡ (raised && ran rank s j)
    unfolding reruns
    reruns_raised w =
        sym (and_assoc (in_wait j calls) (passes j c₀ calls) (ran_by rank start j calls)) ∙ ap₂ (λ (x y : Bool). x && y) (passes_raised w) (told-ran j l)

    -- what counted before, and whether this call counts, is what counts now
    counted : (f : Call → List Call → Bool) {k : ℕ} {b : Bool} → k ≡ during f j calls → (in_wait j calls && f c₀ calls) ≡ b → k + one b ≡ during f j (c₀ ∷ calls)
    counted f p q = ap₂ (λ (k : ℕ) (b : Bool). k + one b) p (sym q) ∙ sym (during_goes f c₀ calls j (rw (ok, not_by) refl))

    other_follows : Follows rank start s' (c₀ ∷ calls) j
    unfolding stage transaction released_in began lasted passed retried last_arrival ranked
    other_follows =
        let before = every j l in
        let t = task_at s j in
        let hadRun = ran rank s j in
        let state = stage_stays hadRun t raised in
        follows rank start s' (c₀ ∷ calls) j (beside rank s e j) (moved.other j l d)
        (record {
          stands = rw (ok, not_by) (before.told.stands ∙ sym state);
          sets = λ b. rw (ok, not_by)
              (agree_same (sets_at s' j) (sets_at s j) (transaction j calls) (moved.other_sets j d)
              (before.told.sets (busy_stage t.state ∙ ap busy (sym state) ∙ sym (busy_stage (beside rank s e j).state) ∙ b)));
          wait = λ w q.
              let was = waited hadRun t (state_at s j) raised w refl (fits j l) (follows_fewer rank start s calls j before) q in
              let waiting-before = ap is_waiting was.waits in
              record {
                release = rw (ok, not_by) (was.release ∙ before.told.release was.before was.waits);
                clashes = was.clashes ∙ counted (passes j) (before.clashes was.before was.waits) (passes_raised waiting-before);
                retries = was.retries ∙ counted (reruns rank start j) (before.retries was.before was.waits) (reruns_raised waiting-before);
                length = rw (ok, not_by, in_wait_lem start s calls j before.told, waiting-before) (sym moved.tick_now);
              };
          releases = rw (ok, not_by) (rest_stays (λ (u : Task). u.releases) t (raised_task hadRun t) raised refl ∙ before.told.releases ∙ sym (add-zero (released_in j calls)));
          terms = rest_stays (λ (u : Task). u.terms) t (raised_task hadRun t) raised refl ∙ before.told.terms;
          arrival = rw (ok, not_by) (rest_stays (λ (u : Task). u.arrival) t (raised_task hadRun t) raised refl ∙ before.told.arrival);
          job = rw (ok, not_by) (rest_stays (λ (u : Task). u.rank) t (raised_task hadRun t) raised refl ∙ before.told.rank);
        })

  own_follows : Follows rank start s' (c₀ ∷ calls) i
  unfolding stage transaction released_in began lasted passed retried during passes reruns last_arrival ranked
  own_follows = follows rank start s' (c₀ ∷ calls) i (task_at s' i) refl (go said (task_at s' i) moved.own)
    where
      mine : eqb i i ≡ true
      mine = eq-eqb i i refl

      before : Follows rank start s calls i
      before = every i moved.below

      new_sets : is_release e.kind ≡ true → SameSets (sets_at s' i) (sets_of e.reads e.writes)
      new_sets r g l = ((moved.own_sets r).reads g l, (moved.own_sets r).writes g l)

      go : (said : Said) (u : Task) → Own s.mode (task_at s i) e said u → Seen rank start s' (unsettled e said ∷ calls) i u
      go said u (arrives kind was late) = record {
        stands = rw (mine, kind);
        sets = λ b. absurd (false≢true b);
        wait = λ w q. absurd (no_wait Plain w refl q);
        releases = rw (mine, kind);
        terms = before.told.terms;
        arrival = rw (mine, kind);
        job = rw (mine, kind) (ap₂ (λ (mode : ℕ) (t : Terms). job_rank mode t e.tick) mode_same before.told.terms);
      }
      go said u (runs kind was) = record {
        stands = rw (mine, kind);
        sets = λ b. rw (mine, kind) (new_sets (ap is_release kind));
        wait = λ w q. absurd (no_wait Executing w refl q);
        releases = rw (mine, kind) (ap (λ (k : ℕ). k + 1) before.told.releases);
        terms = before.told.terms;
        arrival = rw (mine, kind) before.told.arrival;
        job = rw (mine, kind) before.told.rank;
      }
      go said u (waits kind was b k h) = record {
        stands = rw (mine, kind);
        sets = λ b. rw (mine, kind) (new_sets (ap is_release kind));
        wait = λ w q. record {
          release = rw (mine, kind) (sym (ap (λ (x : State). (wait_of x).release) q));
          clashes = rw (mine, kind) (sym (ap (λ (x : State). (wait_of x).clashes) q));
          retries = rw (mine, kind) (sym (ap (λ (x : State). (wait_of x).retries) q));
          length = rw (mine, kind) (sym moved.tick_now);
        };
        releases = rw (mine, kind) (ap (λ (k : ℕ). k + 1) before.told.releases);
        terms = before.told.terms;
        arrival = rw (mine, kind) before.told.arrival;
        job = rw (mine, kind) before.told.rank;
      }
      go said u (commits kind was) = record {
        stands = rw (mine, kind);
        sets = λ b. absurd (false≢true b);
        wait = λ w q. absurd (no_wait Plain w refl q);
        releases = rw (mine, kind) (before.told.releases ∙ sym (add-zero (released_in i calls)));
        terms = before.told.terms;
        arrival = rw (mine, kind) before.told.arrival;
        job = rw (mine, kind) before.told.rank;
      }
      go said u (finishes kind was) = record {
        stands = rw (mine, kind);
        sets = λ b. absurd (false≢true b);
        wait = λ w q. absurd (no_wait Absent w refl q);
        releases = rw (mine, kind);
        terms = before.told.terms;
        arrival = rw (mine, kind) before.told.arrival;
        job = rw (mine, kind);
      }

  pub moved_follows : (j : ℕ) → j < s.n → Follows rank start s' (c₀ ∷ calls) j
  moved_follows j l = at_or_other i (λ (j : ℕ). j < s.n → Follows rank start s' (c₀ ∷ calls) j) (λ l. own_follows) (λ j d l. other_follows j l d) j l
