-- What the rules list for an event fits its places: each admission is of a task below 256 and has counts of 32 bits; and so have the waits of the session after it,
-- whatever the ticks are.
use Prim.Native.Nat.{ℕ, zero, suc, ◌^◌, ◌≤◌, ◌<◌}
use mathlib.Core.Path.{◌≡◌, sym, ap, subst}
use mathlib.Core.Logic.{◌⊎◌, inl, inr, ◌≢◌}
use mathlib.Core.List.{List, [], ◌∷◌}
use mathlib.Core.Bool.{Bool, true, false, cond, ◌&&◌}
use native.Mathlib.Omega.{arith}
use lib.Dec.{leb, ltb}
use lib.ListN.{get_or, set, replicate}
use Rattle.objects.specs.Objects.{Sets, clash}
use Rattle.objects.proofs.Laws.Below.{and_left}
use Rattle.rules.specs.declared.State.{State}
use Rattle.rules.specs.declared.State.TheVariants.{Absent, Plain, Waiting, Executing}
use Rattle.rules.specs.declared.Setup.{Setup}
use Rattle.rules.specs.declared.Task.{Task}
use Rattle.rules.specs.declared.Session.{Session}
use Rattle.rules.specs.declared.Event.{Event}
use Rattle.rules.specs.declared.Said.{Said}
use Rattle.rules.specs.declared.Said.TheVariants.{Ok}
use Rattle.rules.specs.declared.Admission.{Admission}
use Rattle.rules.specs.declared.Answer.{Answer}
use Rattle.rules.specs.Ranking.{by_rank}
use Rattle.rules.specs.Tasks.{fresh_task, wait_of, no_task, task_at, state_at, waiting, sets_at, sets_of, known, allowed, in_state, with_task, stamped}
use Rattle.rules.specs.Setup.{terms_at, fresh_tasks, fresh, no_session}
use Rattle.rules.specs.Room.{ran}
use Rattle.rules.specs.Contest.{blocked}
use Rattle.rules.specs.Scan.{scan}
use Rattle.rules.specs.Listed.{admission_at}
use Rattle.rules.specs.Events.{trying, arrive_number, release_number, commit_number, finish_number, refused, still, scanning, arrived, released, released_into, begins, wait_said, raised_state, raised_task, raised, committed, finished, step}
use Rattle.rules.proofs.Laws.Numbers.{must, allowed_bounds, timely}
use Rattle.rules.proofs.Laws.Listed.{Entry, scan_settled}
use Rattle.rules.proofs.Laws.Scan.{scan_kept}
use Rattle.rules.proofs.Laws.Steps.{step_cases, arrive_cases, release_cases, commit_cases, finish_cases}
use Rattle.lines.proofs.Sizes.{SmallEntry}

-- ---- the counts of a wait

abbrev pub Held : State → Type 0
Held state = ((wait_of state).clashes < 2 ^ 32) × ((wait_of state).retries < 2 ^ 32)

abbrev pub HeldAll : List Task → Type 0
HeldAll tasks = (j : ℕ) → Held (get_or tasks j no_task).state

set_held : (tasks : List Task) (i : ℕ) (t : Task) → Held t.state → HeldAll tasks → HeldAll (set tasks i t)
set_held [] i t h all j = all j
set_held (x ∷ tasks) zero t h all zero = h
set_held (x ∷ tasks) zero t h all (suc j) = all (suc j)
set_held (x ∷ tasks) (suc i) t h all zero = all zero
set_held (x ∷ tasks) (suc i) t h all (suc j) = set_held tasks i t h (λ k. all (suc k)) j

raised_held : (hadRun : Bool) (state : State) → Held state → Held (raised_state hadRun state)
raised_held hadRun Absent h = h
raised_held hadRun Plain h = h
raised_held true (Waiting w) h = (omega arith, omega arith)
raised_held false (Waiting w) h = (omega arith, h.1)
raised_held hadRun Executing h = h

raised_all : (hadRun : ℕ → Bool) (s : Session) (x : Sets) (k : ℕ) → HeldAll s.tasks → HeldAll (raised hadRun s x k)
unfolding raised
raised_all hadRun s x zero all = all
raised_all hadRun s x (suc k) all = go (waiting s k && clash x (sets_at s k)) (raised_all hadRun s x k all)
  where
    go : (b : Bool) → HeldAll (raised hadRun s x k) → HeldAll (cond b (set (raised hadRun s x k) k (raised_task (hadRun k) (task_at s k))) (raised hadRun s x k))
    go true rest = set_held (raised hadRun s x k) k (raised_task (hadRun k) (task_at s k)) (raised_held (hadRun k) (state_at s k) (all k)) rest
    go false rest = rest

-- ---- the admissions

-- the numbers of those that are listed fit their places
abbrev pub Entries : Answer → Type 0
Entries a = (k : ℕ) → k < a.admitted.count → SmallEntry (admission_at a.admitted k)

scanned : (said : Said) (s : Session) → s.m ≤ 16 → s.n ≤ 64 → HeldAll s.tasks → Entries (scanning by_rank said s)
scanned said s m n all = λ k l. entry k ((scan_settled by_rank s m).entries k l)
  where
    entry : (k : ℕ) → Entry s (admission_at (scan by_rank s).admitted k) → SmallEntry (admission_at (scan by_rank s).admitted k)
    entry k e =
        let new = admission_at (scan by_rank s).admitted k in
        record {
          task = omega (arith, e.0);
          clashes = rw (ap (λ (y : Admission). y.clashes) e.2) (all new.task).0;
          retries = rw (ap (λ (y : Admission). y.retries) e.2) (all new.task).1;
        }

-- an event that is not refused has an allowed m
allowed_m : (s : Session) (tick i rest : ℕ) → trying s tick i rest ≡ 0 → s.m ≤ 16
allowed_m s tick i rest z =
    let p = must (known s i) (cond (ltb tick s.tick) 2 (cond (leb 1000000 s.accepted) 3 rest)) 1 (omega arith) z in
    (allowed_bounds 16 s.m (and_left (allowed 16 s.m) (allowed 64 s.n) (and_left (allowed 16 s.m && allowed 64 s.n) (ltb i s.n) p.0))).1

module _ (s : Session) (e : Event) (all : HeldAll s.tasks) where
  refuses : (k : ℕ) → k ≢ 0 → Entries (refused s k)
  refuses k n = λ k l. absurd (omega arith)

  waits : release_number by_rank s e.tick e.task ≡ 0 → blocked s (sets_of e.reads e.writes) ≡ true
      → Entries (scanning by_rank (wait_said by_rank s (sets_of e.reads e.writes)) (released_into s e.tick e.task e.reads e.writes (begins e.tick)))
  unfolding release_number
  waits z b =
      scanned (wait_said by_rank s (sets_of e.reads e.writes)) (released_into s e.tick e.task e.reads e.writes (begins e.tick))
      (allowed_m s e.tick e.task _ z) (timely s e.tick e.task _ z).n_high (set_held s.tasks e.task _ (omega arith, omega arith) all)

  commits : commit_number s e.tick e.task ≡ 0 → Entries (scanning by_rank Ok (committed by_rank s e.tick e.task))
  unfolding commit_number
  commits z =
      scanned Ok (committed by_rank s e.tick e.task) (allowed_m s e.tick e.task _ z) (timely s e.tick e.task _ z).n_high
      (set_held (raised (ran by_rank s) s (sets_at s e.task) s.n) e.task (in_state (task_at s e.task) Plain) (omega arith, omega arith)
      (raised_all (ran by_rank s) s (sets_at s e.task) s.n all))

  finishes : finish_number by_rank s e.tick e.task ≡ 0
      → Entries (scanning by_rank Ok (with_task (stamped s e.tick) e.task (finished (task_at s e.task))))
  unfolding finish_number
  finishes z =
      scanned Ok (with_task (stamped s e.tick) e.task (finished (task_at s e.task))) (allowed_m s e.tick e.task _ z) (timely s e.tick e.task _ z).n_high
      (set_held s.tasks e.task _ (omega arith, omega arith) all)

  pub step_entries : Entries (step by_rank s e)
  step_entries =
      step_cases by_rank s e Entries
      (λ kind. arrive_cases Entries s refuses e.tick e.task (λ z k l. absurd (omega arith)))
      (λ kind. release_cases Entries s refuses e.tick e.task by_rank e.reads e.writes waits (λ z free k l. absurd (omega arith)))
      (λ kind. commit_cases Entries s refuses e.tick e.task by_rank commits)
      (λ kind. finish_cases Entries s refuses e.tick e.task by_rank finishes)

-- ---- the session after it

-- the counts of its waits, and of the accepted events
abbrev pub Keeps : Answer → Type 0
Keeps a = HeldAll a.session.tasks × (a.session.accepted < 2 ^ 32)

scan_keeps : (s : Session) → HeldAll s.tasks → s.accepted < 2 ^ 32
    → HeldAll (scan by_rank s).session.tasks × ((scan by_rank s).session.accepted < 2 ^ 32)
scan_keeps s all l =
    let kept = scan_kept by_rank s in
    (λ j. go j (kept.each j), rw kept.accepted l)
  where
    go : (j : ℕ) → (task_at (scan by_rank s).session j ≡ task_at s j) ⊎ ((j < s.n) × (waiting s j ≡ true) × (task_at (scan by_rank s).session j ≡ in_state (task_at s j) Executing))
        → Held (state_at (scan by_rank s).session j)
    go j (inl e) = subst (λ (t : Task). Held t.state) (sym e) (all j)
    go j (inr e) = subst (λ (t : Task). Held t.state) (sym e.2) (omega arith, omega arith)

module _ (s : Session) (e : Event) (all : HeldAll s.tasks) (count : s.accepted < 2 ^ 32) where
  arrives_keep : arrive_number s e.tick e.task ≡ 0 → Keeps (still Ok (with_task (stamped s e.tick) e.task (arrived s.mode (task_at s e.task) e.tick)))
  unfolding arrive_number
  arrives_keep z =
      (set_held s.tasks e.task (arrived s.mode (task_at s e.task) e.tick) (omega arith, omega arith) all, omega (arith, (timely s e.tick e.task _ z).accepted))

  releases_keep : (state : State) → Held state → release_number by_rank s e.tick e.task ≡ 0 →
      let s' = released_into s e.tick e.task e.reads e.writes state in
      HeldAll s'.tasks × (s'.accepted < 2 ^ 32)
  unfolding release_number
  releases_keep state h z =
      (set_held s.tasks e.task (released (task_at s e.task) state) h all, omega (arith, (timely s e.tick e.task _ z).accepted))

  commits_keep : commit_number s e.tick e.task ≡ 0 →
      let s' = committed by_rank s e.tick e.task in
      HeldAll s'.tasks × (s'.accepted < 2 ^ 32)
  unfolding commit_number
  commits_keep z = (
    set_held (raised (ran by_rank s) s (sets_at s e.task) s.n) e.task (in_state (task_at s e.task) Plain) (omega arith, omega arith)
        (raised_all (ran by_rank s) s (sets_at s e.task) s.n all),
    omega (arith, (timely s e.tick e.task _ z).accepted),
  )

  finishes_keep : finish_number by_rank s e.tick e.task ≡ 0 →
      let s' = with_task (stamped s e.tick) e.task (finished (task_at s e.task)) in
      HeldAll s'.tasks × (s'.accepted < 2 ^ 32)
  unfolding finish_number
  finishes_keep z =
      (set_held s.tasks e.task (finished (task_at s e.task)) (omega arith, omega arith) all, omega (arith, (timely s e.tick e.task _ z).accepted))

  pub step_keeps : Keeps (step by_rank s e)
  step_keeps =
      let refuses : (k : ℕ) → k ≢ 0 → Keeps (refused s k) = λ k n. (all, count) in
      step_cases by_rank s e Keeps
      (λ kind. arrive_cases Keeps s refuses e.tick e.task arrives_keep)
      (λ kind. release_cases Keeps s refuses e.tick e.task by_rank e.reads e.writes
      (λ z b.
      let h = releases_keep (begins e.tick) (omega arith, omega arith) z in
      scan_keeps (released_into s e.tick e.task e.reads e.writes (begins e.tick)) h.0 h.1)
      (λ z b. releases_keep Executing (omega arith, omega arith) z))
      (λ kind. commit_cases Keeps s refuses e.tick e.task by_rank (λ z. let h = commits_keep z in scan_keeps (committed by_rank s e.tick e.task) h.0 h.1))
      (λ kind. finish_cases Keeps s refuses e.tick e.task by_rank (λ z. let h = finishes_keep z in scan_keeps (with_task (stamped s e.tick) e.task (finished (task_at s e.task))) h.0 h.1))

-- ---- a session in which nothing has happened

absent_held : (n : ℕ) → HeldAll (replicate n no_task)
absent_held zero j = (omega arith, omega arith)
absent_held (suc n) zero = (omega arith, omega arith)
absent_held (suc n) (suc j) = absent_held n j

fresh_tasks_lem : (u : Setup) (k : ℕ) → HeldAll (fresh_tasks u k)
unfolding fresh_tasks
fresh_tasks_lem u zero = absent_held 64
fresh_tasks_lem u (suc k) = set_held (fresh_tasks u k) k (fresh_task (terms_at u k)) (omega arith, omega arith) (fresh_tasks_lem u k)

pub fresh_held : (u : Setup) → HeldAll (fresh u).tasks × ((fresh u).accepted < 2 ^ 32)
unfolding fresh
fresh_held u = (fresh_tasks_lem u u.n, omega arith)

pub none_held : HeldAll no_session.tasks × (no_session.accepted < 2 ^ 32)
unfolding no_session
none_held = (absent_held 64, omega arith)
