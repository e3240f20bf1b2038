-- Demand 3: 'Over any run of calls from a fresh setup: once running, running until its own commit; one that waits clashes with a running one or has no processor;
-- its retry count is the number of clashing transactions that committed while it waited, and is at most the sum.' Request 2: 'Demand 3 speaks of the clash count
-- from now on, and adds that retries never exceed it.' The statements, over any strict ranking that stays while a job is present, any start and any list of calls,
-- refused ones included. History has what they say of the calls; the proofs are in proofs/Demand3.antt.
use Rattle.std.specs.Prelude.{ℕ, ◌+◌, ◌≤◌, ◌<◌, ◌≡◌, ◌⊎◌, ◌≢◌, ◌↔◌, List, [], ◌∷◌, Bool, true, false, not, ◌||◌, get_or, Some}
use Rattle.objects.specs.Below.{count}
use Rattle.objects.specs.Objects.{Sets, Clash}
use Rattle.rules.specs.declared.Setup.{Setup}
use Rattle.rules.specs.declared.Wait.{Wait}
use Rattle.rules.specs.declared.State.{State}
use Rattle.rules.specs.declared.State.TheVariants.{Absent, Plain, Waiting, Executing}
use Rattle.rules.specs.declared.Session.{Session}
use Rattle.rules.specs.declared.Event.{Event}
use Rattle.rules.specs.declared.Answer.{Answer}
use Rattle.rules.specs.Ranking.{Ranking, HigherPriority, EarlierDeadline, by_rank, Strict, Stays}
use Rattle.rules.specs.Tasks.{is_absent, wait_of, task_at, state_at, waiting, executing, sets_at}
use Rattle.rules.specs.Setup.{setup_number, fresh}
use Rattle.rules.specs.Room.{rank_at, room}
use Rattle.rules.specs.Contest.{Blocked}
use Rattle.rules.specs.Scan.{no_admission}
use Rattle.rules.specs.Events.{step}
use Rattle.rules.specs.Sum.{summed, sum_number, sum_of}
use Rattle.rules.specs.Reachable.{Sound}
use Rattle.rules.specs.History.{Call, heard, commits, Stage, absent, plain, waits, executes, stage, transaction, released, began, lasted, admitted_at, wait_length, passed, last_arrival, ranked, retried}

-- ---- a run

-- where a run may start: every task absent, and sound
pub record Start (rank : Ranking) (s : Session) : Type 0 where
  pub sound : Sound rank s
  pub absent : (i : ℕ) → i < s.n → is_absent (state_at s i) ≡ true

-- 'from a fresh setup'
abbrev pub FreshStarts : Type 0
FreshStarts = (rank : Ranking) (u : Setup) → setup_number u ≡ 0 → Start rank (fresh u)

-- the session and the calls that any list of events leads to
pub data Run (rank : Ranking) (start : Session) : Session → List Call → Type 0 where
  begun : Run rank start start []
  called : {s : Session} {calls : List Call} → Run rank start s calls → (e : Event)
      → Run rank start (step rank s e).session (heard e (step rank s e) ∷ calls)

abbrev pub InEveryRun : (Ranking → Session → Session → List Call → Type 0) → Type 0
InEveryRun Holds =
    (rank : Ranking) → Strict rank → Stays rank → (start s : Session) (calls : List Call) → Start rank start → Run rank start s calls
    → Holds rank start s calls

-- every session of a run is sound, and so no largest value is ever reached: a clash count, and one more, is below the largest that is held
abbrev pub RunSound : Type 0
RunSound = InEveryRun (λ rank start s calls. Sound rank s)

abbrev pub ClashesFit : Type 0
ClashesFit = InEveryRun (λ rank start s calls. (i : ℕ) → i < s.n → (wait_of (state_at s i)).clashes + 1 < 4294967295)

-- two transactions have the same objects: the same four words of each set
abbrev pub SameSets : Sets → Sets → Type 0
SameSets x y = (g : ℕ) → g < 4 → (x.reads g ≡ y.reads g) × (x.writes g ≡ y.writes g)

-- ---- a. 'once running, running until its own commit'

-- a call of the list commits task i's transaction
unfoldable pub commits_in : List Call → ℕ → Bool
commits_in [] i = false
commits_in (c ∷ before) i = commits c i || commits_in before i

-- from s by further calls to s', none of which commits it, it runs on, with the same sets
abbrev pub RunsOn : Session → Session → List Call → Type 0
RunsOn s s' more =
    (i : ℕ) → i < s.n → executing s i ≡ true → commits_in more i ≡ false → (executing s' i ≡ true) × SameSets (sets_at s' i) (sets_at s i)

abbrev pub OnceRunning : Type 0
OnceRunning = InEveryRun (λ rank start s calls. (s' : Session) (more : List Call) → Run rank s s' more → RunsOn s s' more)

-- ---- b. 'one that waits clashes with a running one or has no processor'

abbrev pub Held : Ranking → Session → Type 0
Held rank s = (i : ℕ) → i < s.n → waiting s i ≡ true → Blocked s (sets_at s i) ⊎ (room rank s i ≡ false)

abbrev pub HeldBack : Type 0
HeldBack = InEveryRun (λ rank start s calls. Held rank s)

-- ---- c. its clash count 'is the number of clashing transactions that committed while it waited'; its retry count is the number of those just before which it ran;
-- 'retries never exceed it'

pub record Counted (rank : Ranking) (start : Session) (calls : List Call) (i clashes retries : ℕ) : Type 0 where
  pub passes : clashes ≡ passed i calls
  pub reruns : retries ≡ retried rank start i calls
  pub fewer : retries ≤ clashes

-- the counts of every task that waits
abbrev pub WaitsCount : Ranking → Session → Session → List Call → Type 0
WaitsCount rank start s calls =
    (i : ℕ) (w : Wait) → i < s.n → state_at s i ≡ Waiting w → Counted rank start calls i w.clashes w.retries

abbrev pub WaitsCounted : Type 0
WaitsCounted = InEveryRun WaitsCount

-- and of each admission: the call that admits it is one of the calls, so a commit whose scan admits it counts too
abbrev pub AdmissionsCount : Ranking → Session → Event → Answer → List Call → Type 0
AdmissionsCount rank start e answer calls =
    (k : ℕ) → k < answer.admitted.count
    → let a = get_or answer.admitted.list k no_admission in
    Counted rank start (heard e answer ∷ calls) a.task a.clashes a.retries

abbrev pub AdmittedCounted : Type 0
AdmittedCounted = InEveryRun (λ rank start s calls. (e : Event) → AdmissionsCount rank start e (step rank s e) calls)

-- ---- d. the clash count 'is at most the sum': of its present wait, or of its last one where it does not wait

abbrev pub Within : Session → List Call → Type 0
Within s calls =
    (i : ℕ) → i < s.n
    → let answer = summed s i (wait_length i calls) in
    (sum_number answer ≡ 0) × (passed i calls ≤ sum_of answer)

abbrev pub Bounded : Type 0
Bounded = InEveryRun (λ rank start s calls. Within s calls)

-- and so is the clash count of each admission: at most the sum for its wait, which the call that admits it ends
abbrev pub AdmissionsWithin : Event → Answer → List Call → Type 0
AdmissionsWithin e answer calls =
    (k : ℕ) → k < answer.admitted.count
    → let a = get_or answer.admitted.list k no_admission in
    let sum = summed answer.session a.task (wait_length a.task (heard e answer ∷ calls)) in
    (sum_number sum ≡ 0) × (a.clashes ≤ sum_of sum)

abbrev pub AdmittedWithin : Type 0
AdmittedWithin = InEveryRun (λ rank start s calls. (e : Event) → AdmissionsWithin e (step rank s e) calls)

-- ---- e. no two running transactions clash, and at most m run

abbrev pub Apart : Session → Type 0
Apart s =
    (i j : ℕ) → i < s.n → j < s.n → i ≢ j → executing s i ≡ true → executing s j ≡ true → Clash (sets_at s i) (sets_at s j) → ⊥

abbrev pub RunningApart : Type 0
RunningApart = InEveryRun (λ rank start s calls. Apart s × (count s.n (executing s) ≤ s.m))

-- ---- f. history says what the session says

abbrev pub stage_of : State → Stage
stage_of Absent = absent
stage_of Plain = plain
stage_of (Waiting w) = waits
stage_of Executing = executes

-- task i's state; its sets; its wait's beginning, and that it has come to the last accepted tick; its releases; its terms, its last arrival, and its rank
pub record Told (start s : Session) (calls : List Call) (i : ℕ) : Type 0 where
  pub stands : stage i calls ≡ stage_of (state_at s i)
  pub sets : (waiting s i || executing s i) ≡ true → SameSets (sets_at s i) (transaction i calls)
  pub release : (w : Wait) → state_at s i ≡ Waiting w → w.release ≡ began i calls
  pub length : (w : Wait) → state_at s i ≡ Waiting w → lasted i calls ≡ s.tick
  pub releases : (task_at s i).releases ≡ released i calls
  pub terms : (task_at s i).terms ≡ (task_at start i).terms
  pub arrival : (task_at s i).arrival ≡ last_arrival start i calls
  pub rank : (task_at s i).rank ≡ ranked start i calls

abbrev pub AsTold : Type 0
AsTold = InEveryRun (λ rank start s calls. (i : ℕ) → i < s.n → Told start s calls i)

-- 'A wait runs from its release's tick to the tick of the event that admits it': of a task that does not wait, the last wait has come to the tick of the last call that
-- admitted it, whatever came after; both are 0 where it never waited. Of one that waits, `Told` has it.
abbrev pub WaitsEnd : Type 0
WaitsEnd = InEveryRun (λ rank start s calls. (i : ℕ) → i < s.n → waiting s i ≡ false → lasted i calls ≡ admitted_at i calls)

-- ---- g. 'The rank becomes part of a present job's record', and it stays: a task that is present before and after a call has the rank and the last arrival that it had, which
-- are those of its arrival

abbrev pub present_at : Session → ℕ → Bool
present_at s i = not (is_absent (state_at s i))

abbrev pub JobStays : Session → Session → Type 0
JobStays s s' =
    (i : ℕ) → i < s.n → present_at s i ≡ true → present_at s' i ≡ true
    → ((task_at s' i).rank ≡ (task_at s i).rank) × ((task_at s' i).arrival ≡ (task_at s i).arrival)

abbrev pub RankStays : Type 0
RankStays = InEveryRun (λ rank start s calls. (e : Event) → JobStays s (step rank s e).session)

-- Of two present jobs, with the ticks of their last arrivals, one ranks above the other where the mode's own wording says so.
abbrev pub RanksAsSaid : Session → Type 0
RanksAsSaid s =
    (i j a b : ℕ) → i < s.n → j < s.n → present_at s i ≡ true → present_at s j ≡ true → (task_at s i).arrival ≡ Some a → (task_at s j).arrival ≡ Some b
    → (task_at s i).terms.priority ≤ 65535 → (task_at s j).terms.priority ≤ 65535
    → let t = (task_at s i).terms in
    let u = (task_at s j).terms in
    (s.mode ≡ 0 → HigherPriority t i u j ↔ (rank_at by_rank s i < rank_at by_rank s j))
    × (s.mode ≡ 1 → EarlierDeadline t a i u b j ↔ (rank_at by_rank s i < rank_at by_rank s j))

abbrev pub RankedAsSaid : Type 0
RankedAsSaid = InEveryRun (λ rank start s calls. RanksAsSaid s)

-- A deadline goes up to 4,381,367,295, past the last tick: so far goes every rank of a run, and no further, so that none is ever cut.
abbrev pub RankFits : Type 0
RankFits = InEveryRun (λ rank start s calls. (i : ℕ) → i < s.n → s.tick ≤ 4294967295 → (task_at s i).rank ≤ 4381367295)
