-- What the rules' step keeps of any session: the numbers fit their places, the tables have their sizes, and what stands past n stays.
use Prim.Native.Nat.{ℕ, zero, suc, ◌+◌, ◌*◌, ◌/◌, ◌%◌, ◌^◌, ◌≤◌, ◌<◌}
use mathlib.Core.Path.{◌≡◌, refl, sym, ap, ◌∙◌}
use mathlib.Core.Logic.{◌⊎◌, inl, inr, ◌≢◌}
use mathlib.Core.List.{List, [], ◌∷◌}
use mathlib.Core.Bool.{Bool, true, false, cond, ◌&&◌}
use native.Mathlib.Nat.{lt_of_lt_of_le, ne_of_gt}
use native.Mathlib.Omega.{arith}
use lib.Dec.{ltb}
use lib.ListN.{length, get_or, set, length-set}
use lib.Seq.{get_or-set_other}
use borrow.Author.Tests.{ltb-true}
use Rattle.objects.specs.Objects.{Sets, clash}
use Rattle.rules.specs.declared.State.{State}
use Rattle.rules.specs.declared.State.TheVariants.{Absent, Plain, Waiting, Executing}
use Rattle.std.specs.Prelude.{Some}
use Rattle.rules.specs.declared.Task.{Task}
use Rattle.rules.specs.declared.Session.{Session}
use Rattle.rules.specs.declared.Event.{Event}
use Rattle.rules.specs.declared.Answer.{Answer}
use Rattle.rules.specs.Ranking.{Ranking}
use Rattle.rules.specs.Tasks.{is_plain, wait_of, no_task, task_at, state_at, waiting, sets_at, in_state, with_groups}
use Rattle.rules.specs.Room.{room, ran}
use Rattle.rules.specs.Scan.{scan}
use Rattle.rules.specs.Events.{arrive_number, release_number, commit_number, finish_number, refused, arrived, released, begins, raised_state, raised_task, raised, empty, finished, step}
use Rattle.rules.proofs.Laws.Rows.{groups_length, groups_other}
use Rattle.rules.proofs.Laws.Numbers.{must, Timely, timely}
use Rattle.rules.proofs.Laws.Alike.{raised_size}
use Rattle.rules.proofs.Laws.Steps.{step_cases, arrive_cases, release_cases, commit_cases, finish_cases}
use Rattle.rules.proofs.Laws.Scan.{scan_kept}
use Rattle.rules.proofs.Laws.Change.{after}
use Rattle.rules.proofs.Moves.{raised_past}
use Rattle.machine.proofs.Laws.Choices.{either}
use Rattle.machine.specs.Theorem.{Fits, Sized, Beside, StepFits, StepSized, StepBeside}

-- ---- the numbers of a task

-- they fit their places
pub record TaskFits (t : Task) : Type 0 where
  pub priority : t.terms.priority < 2 ^ 16
  pub period : t.terms.period < 2 ^ 32
  pub transactions : t.terms.transactions < 2 ^ 8
  pub arrival : (tick : ℕ) → t.arrival ≡ Some tick → tick < 2 ^ 32
  pub releases : t.releases < 2 ^ 8
  pub release : (wait_of t.state).release < 2 ^ 32
  pub clashes : (wait_of t.state).clashes < 2 ^ 32
  pub retries : (wait_of t.state).retries < 2 ^ 32

-- those of every task of a table
abbrev pub TasksFit : List Task → Type 0
TasksFit tasks = (j : ℕ) → TaskFits (get_or tasks j no_task)

-- where a session fits, its tasks do
pub tasks_fit : (s : Session) → Fits s → TasksFit s.tasks
tasks_fit s fits j = record {
  priority = fits.priority j;
  period = fits.period j;
  transactions = fits.transactions j;
  arrival = fits.arrival j;
  releases = fits.releases j;
  release = fits.release j;
  clashes = fits.clashes j;
  retries = fits.retries j;
}

-- a session fits where its own numbers and those of its tasks do
pub fits_of : (s : Session) → s.m < 2 ^ 8 → s.n < 2 ^ 8 → s.mode < 2 ^ 8 → s.tick < 2 ^ 32 → s.accepted < 2 ^ 32 → TasksFit s.tasks → Fits s
fits_of s m n mode tick accepted all = record {
  m = m;
  n = n;
  mode = mode;
  tick = tick;
  accepted = accepted;
  priority = λ i. (all i).priority;
  period = λ i. (all i).period;
  transactions = λ i. (all i).transactions;
  arrival = λ i. (all i).arrival;
  releases = λ i. (all i).releases;
  release = λ i. (all i).release;
  clashes = λ i. (all i).clashes;
  retries = λ i. (all i).retries;
}

-- in another state whose numbers fit
state_fits : (t : Task) (state : State) → (wait_of state).release < 2 ^ 32 → (wait_of state).clashes < 2 ^ 32 → (wait_of state).retries < 2 ^ 32
    → TaskFits t → TaskFits (in_state t state)
state_fits t state a b c fits = record {
  priority = fits.priority;
  period = fits.period;
  transactions = fits.transactions;
  arrival = fits.arrival;
  releases = fits.releases;
  release = a;
  clashes = b;
  retries = c;
}

-- after an arrival whose tick fits
arrived_fits : (mode : ℕ) (t : Task) (tick : ℕ) → tick < 2 ^ 32 → TaskFits t → TaskFits (arrived mode t tick)
arrived_fits mode t tick l fits = record {
  priority = fits.priority;
  period = fits.period;
  transactions = fits.transactions;
  arrival = λ a e. let same : tick ≡ a = cc in omega arith;
  releases = omega arith;
  release = omega arith;
  clashes = omega arith;
  retries = omega arith;
}

-- after a release, which the job's transactions allow
released_fits : (t : Task) (state : State) → (wait_of state).release < 2 ^ 32 → (wait_of state).clashes < 2 ^ 32 → (wait_of state).retries < 2 ^ 32
    → t.releases < t.terms.transactions → TaskFits t → TaskFits (released t state)
released_fits t state a b c l fits = record {
  priority = fits.priority;
  period = fits.period;
  transactions = fits.transactions;
  arrival = fits.arrival;
  releases = omega (arith, fits.transactions);
  release = a;
  clashes = b;
  retries = c;
}

-- after a finish
finished_fits : (t : Task) → TaskFits t → TaskFits (finished t)
finished_fits t fits = record {
  priority = fits.priority;
  period = fits.period;
  transactions = fits.transactions;
  arrival = fits.arrival;
  releases = omega arith;
  release = omega arith;
  clashes = omega arith;
  retries = omega arith;
}

-- a count stops at the largest that is held
raised_fits : (hadRun : Bool) (t : Task) (state : State) → t.state ≡ state → TaskFits t → TaskFits (in_state t (raised_state hadRun state))
raised_fits hadRun t Absent e fits = state_fits t Absent (omega arith) (omega arith) (omega arith) fits
raised_fits hadRun t Plain e fits = state_fits t Plain (omega arith) (omega arith) (omega arith) fits
raised_fits true t (Waiting v) e fits =
    state_fits t _ (rw e at fits.release) (omega arith) (omega arith) fits
raised_fits false t (Waiting v) e fits =
    state_fits t _ (rw e at fits.release) (omega arith) (rw e at fits.retries) fits
raised_fits hadRun t Executing e fits = state_fits t Executing (omega arith) (omega arith) (omega arith) fits

-- ---- the tables

-- with one task replaced that fits
pub set_fits : (tasks : List Task) (i : ℕ) (t : Task) → TaskFits t → TasksFit tasks → TasksFit (set tasks i t)
set_fits [] i t h all j = all j
set_fits (x ∷ tasks) zero t h all zero = h
set_fits (x ∷ tasks) zero t h all (suc j) = all (suc j)
set_fits (x ∷ tasks) (suc i) t h all zero = all zero
set_fits (x ∷ tasks) (suc i) t h all (suc j) = set_fits tasks i t h (λ k. all (suc k)) j

-- with the counts of some raised
raised_all : (hadRun : ℕ → Bool) (s : Session) (x : Sets) (k : ℕ) → TasksFit s.tasks → TasksFit (raised hadRun s x k)
unfolding raised
raised_all hadRun s x zero all = all
raised_all hadRun s x (suc k) all =
    let rest : TasksFit (raised hadRun s x k) = raised_all hadRun s x k all in
    either TasksFit (waiting s k && clash x (sets_at s k))
    (set_fits (raised hadRun s x k) k (raised_task (hadRun k) (task_at s k)) (raised_fits (hadRun k) (task_at s k) (state_at s k) refl (all k)) rest)
    rest

-- past a task's four words a row stays
groups_past : (row : List ℕ) (i : ℕ) (words : List ℕ) (p : ℕ) → suc i * 4 ≤ p → get_or (with_groups row i words) p 0 ≡ get_or row p 0
groups_past row i words p l =
    let e : p / 4 * 4 + p % 4 ≡ p = omega arith in
    rw e at (groups_other row i words (p / 4) (p % 4) (omega arith) (omega arith))

-- ---- how a session goes on at an event

-- m and n stay, the numbers fit, the tables have their sizes, and what stands past n stays
pub record Onward (e : Event) (s s' : Session) : Type 0 where
  pub m : s'.m ≡ s.m
  pub n : s'.n ≡ s.n
  pub fits : e.tick < 2 ^ 32 → Fits s → Fits s'
  pub sized : Sized s → Sized s'
  pub beside : Beside s' s

-- past n a session is the same as itself
pub beside_refl : (s : Session) → Beside s s
beside_refl s = record { tasks = λ i l. refl; reads = λ p l. refl; writes = λ p l. refl }

-- and what stays twice stays
pub beside_trans : (s t u : Session) → s.n ≡ t.n → Beside s t → Beside t u → Beside s u
beside_trans s t u same a b = record {
  tasks = λ i l. b.tasks i (omega arith) ∙ a.tasks i l;
  reads = λ p l. b.reads p (omega arith) ∙ a.reads p l;
  writes = λ p l. b.writes p (omega arith) ∙ a.writes p l;
}

-- a refused event
stays_onward : (e : Event) (s : Session) → Onward e s s
stays_onward e s = record { m = refl; n = refl; fits = λ l fits. fits; sized = λ sized. sized; beside = beside_refl s }

-- a scan that follows
scan_onward : (rank : Ranking) (e : Event) (s s₁ : Session) → Onward e s s₁ → Onward e s (scan rank s₁).session
scan_onward rank e s s₁ on =
    let kept = scan_kept rank s₁ in
    let s' = (scan rank s₁).session in
    record {
      m = kept.m ∙ on.m;
      n = kept.n ∙ on.n;
      fits = λ l fits.
          let before = on.fits l fits in
          fits_of s' (rw kept.m before.m) (rw kept.n before.n) (rw kept.mode before.mode) (rw kept.tick before.tick)
          (rw kept.accepted before.accepted) (λ j. go j (tasks_fit s₁ before j) (kept.each j));
      sized = λ sized.
          let before = on.sized sized in
          record { tasks = kept.size ∙ before.tasks; reads = ap length kept.reads ∙ before.reads; writes = ap length kept.writes ∙ before.writes };
      beside =
          beside_trans s' s₁ s kept.n
          (record {
            tasks = λ i l. past i (omega (arith, kept.n)) (kept.each i);
            reads = λ p l. ap (λ (row : List ℕ). get_or row p 0) (sym kept.reads);
            writes = λ p l. ap (λ (row : List ℕ). get_or row p 0) (sym kept.writes);
          })
          on.beside;
    }
  where
    Either : ℕ → Type 0
    Either j =
        (task_at (scan rank s₁).session j ≡ task_at s₁ j)
        ⊎ ((j < s₁.n) × (waiting s₁ j ≡ true) × (task_at (scan rank s₁).session j ≡ in_state (task_at s₁ j) Executing))

    go : (j : ℕ) → TaskFits (task_at s₁ j) → Either j → TaskFits (task_at (scan rank s₁).session j)
    go j fits (inl q) = rw q fits
    go j fits (inr q) = rw q.2 (state_fits (task_at s₁ j) Executing (omega arith) (omega arith) (omega arith) fits)

    past : (j : ℕ) → s₁.n ≤ j → Either j → task_at s₁ j ≡ task_at (scan rank s₁).session j
    past j l (inl q) = sym q
    past j l (inr q) = absurd (omega (arith, q.0))

-- a table of tasks beside that of a session: as long, the same past n, and it fits where that one does
record TableOn (s : Session) (table : List Task) : Type 0 where
  size : length table ≡ length s.tasks
  past : (j : ℕ) → s.n ≤ j → get_or table j no_task ≡ task_at s j
  fits : TasksFit s.tasks → TasksFit table

-- a row of sets: as long, and the same past n
record RowOn (s : Session) (row new : List ℕ) : Type 0 where
  size : length new ≡ length row
  past : (p : ℕ) → s.n * 4 ≤ p → get_or new p 0 ≡ get_or row p 0

-- a row that stays
row_same : (s : Session) (row : List ℕ) → RowOn s row row
row_same s row = record { size = refl; past = λ p l. refl }

-- a row with other sets of one task below n
row_replaced : (s : Session) (row : List ℕ) (i : ℕ) (words : List ℕ) → i < s.n → RowOn s row (with_groups row i words)
row_replaced s row i words l = record { size = groups_length row i words; past = λ p h. groups_past row i words p (omega arith) }

-- an accepted event, before a scan: one task below n is replaced, which fits
change_onward : (e : Event) (s : Session) (i rest : ℕ) (t : Task) (table : List Task) (reads writes : List ℕ) → Timely s e.tick i rest
    → (e.tick < 2 ^ 32 → TaskFits (task_at s i) → TaskFits t) → TableOn s table → RowOn s s.reads reads → RowOn s s.writes writes
    → Onward e s (after s e.tick i t table reads writes)
change_onward e s i rest t table reads writes ok new on r w = record {
  m = refl;
  n = refl;
  fits = λ l fits.
      fits_of (after s e.tick i t table reads writes) fits.m fits.n fits.mode l (omega (arith, ok.accepted))
      (set_fits table i t (new l (tasks_fit s fits i)) (on.fits (tasks_fit s fits)));
  sized = λ sized. record { tasks = length-set table i t ∙ on.size ∙ sized.tasks; reads = r.size ∙ sized.reads; writes = w.size ∙ sized.writes };
  beside = record {
    tasks = λ j l. sym (get_or-set_other table i j t no_task (ne_of_gt (lt_of_lt_of_le ok.below l)) ∙ on.past j l);
    reads = λ p l. sym (r.past p l);
    writes = λ p l. sym (w.past p l);
  };
}

-- a table that stays
table_same : (s : Session) → TableOn s s.tasks
table_same s = record { size = refl; past = λ j l. refl; fits = λ all. all }

-- ---- each event

module _ (rank : Ranking) (s : Session) (e : Event) where
  -- the event's task
  abbrev i : ℕ
  i = e.task

  -- the task as it was
  abbrev t : Task
  t = task_at s i

  -- an arrival that is accepted
  arrives : arrive_number s e.tick i ≡ 0 → Onward e s (after s e.tick i (arrived s.mode t e.tick) s.tasks s.reads s.writes)
  unfolding arrive_number
  arrives z =
      change_onward e s i _ (arrived s.mode t e.tick) s.tasks s.reads s.writes (timely s e.tick i _ z)
      (arrived_fits s.mode t e.tick) (table_same s) (row_same s s.reads) (row_same s s.writes)

  -- a release that is accepted, into a state whose numbers fit
  pub releases : (state : State) → (e.tick < 2 ^ 32 → (wait_of state).release < 2 ^ 32) → (wait_of state).clashes < 2 ^ 32 → (wait_of state).retries < 2 ^ 32
      → release_number rank s e.tick i ≡ 0
      → Onward e s (after s e.tick i (released t state) s.tasks (with_groups s.reads i e.reads) (with_groups s.writes i e.writes))
  unfolding release_number
  releases state a b c z =
      let left = ltb t.releases t.terms.transactions in
      let ok = timely s e.tick i _ z in
      let p = must (is_plain (state_at s i)) (cond (room rank s i) (cond left 0 7) 6) 4 (omega arith) ok.rest_zero in
      let q = must (room rank s i) (cond left 0 7) 6 (omega arith) p.1 in
      let more = ltb-true t.releases t.terms.transactions (must left 0 7 (omega arith) q.1).0 in
      change_onward e s i _ (released t state) s.tasks (with_groups s.reads i e.reads) (with_groups s.writes i e.writes) ok
      (λ l. released_fits t state (a l) b c more) (table_same s) (row_replaced s s.reads i e.reads ok.below) (row_replaced s s.writes i e.writes ok.below)

  -- a commit that is accepted, before its scan
  pub commits : commit_number s e.tick i ≡ 0
      → Onward e s
      (after s e.tick i (in_state t Plain) (raised (ran rank s) s (sets_at s i) s.n) (with_groups s.reads i empty) (with_groups s.writes i empty))
  unfolding commit_number
  commits z =
      let ok = timely s e.tick i _ z in
      let table = raised (ran rank s) s (sets_at s i) s.n in
      change_onward e s i _ (in_state t Plain) table (with_groups s.reads i empty) (with_groups s.writes i empty) ok
      (λ l. state_fits t Plain (omega arith) (omega arith) (omega arith))
      (record {
        size = raised_size (ran rank s) s (sets_at s i) s.n;
        past = raised_past (ran rank s) s (sets_at s i) s.n;
        fits = raised_all (ran rank s) s (sets_at s i) s.n;
      })
      (row_replaced s s.reads i empty ok.below) (row_replaced s s.writes i empty ok.below)

  -- a finish that is accepted, before its scan
  pub finishes : finish_number rank s e.tick i ≡ 0 → Onward e s (after s e.tick i (finished t) s.tasks s.reads s.writes)
  unfolding finish_number
  finishes z =
      change_onward e s i _ (finished t) s.tasks s.reads s.writes (timely s e.tick i _ z) (λ l. finished_fits t) (table_same s)
      (row_same s s.reads) (row_same s s.writes)

  -- any event
  pub step_onward : Onward e s (step rank s e).session
  step_onward =
      step_cases rank s e On
      (λ kind. arrive_cases On s refuses e.tick i arrives)
      (λ kind. release_cases On s refuses e.tick i rank e.reads e.writes
      (λ z b. scan_onward rank e s _ (releases (begins e.tick) (λ l. l) (omega arith) (omega arith) z))
      (λ z b. releases Executing (λ l. omega arith) (omega arith) (omega arith) z))
      (λ kind. commit_cases On s refuses e.tick i rank (λ z. scan_onward rank e s _ (commits z)))
      (λ kind. finish_cases On s refuses e.tick i rank (λ z. scan_onward rank e s _ (finishes z)))
    where
      On : Answer → Type 0
      On a = Onward e s a.session

      refuses : (k : ℕ) → k ≢ 0 → On (refused s k)
      refuses k d = stays_onward e s

-- ---- the statements

-- numbers that fit stay so
pub step_fits : StepFits
step_fits rank s e = (step_onward rank s e).fits

-- so do the sizes
pub step_sized : StepSized
step_sized rank s e = (step_onward rank s e).sized

-- and what stands past n
pub step_beside : StepBeside
step_beside rank s e = (step_onward rank s e).beside
