-- That the words hold a session: each word is that of its predicate over the session, the numbers are those of the session, the row has exactly the waiting tasks.
use Rattle.std.specs.Prelude.{ℕ, ◌^◌, ◌≤◌, ◌<◌, ◌≡◌, List, Bool, true, ◌&&◌, ltb, length}
use Rattle.objects.specs.Objects.{bit}
use Rattle.rules.specs.declared.Wait.{Wait}
use Rattle.rules.specs.declared.Task.{Task}
use Rattle.rules.specs.declared.Session.{Session}
use Rattle.rules.specs.Ranking.{Ranking}
use Rattle.rules.specs.Tasks.{is_waiting, wait_of, task_at, plain, waiting, executing, sets_at}
use Rattle.rules.specs.Room.{rank_at}
use Rattle.rules.specs.Demand3.{SameSets, present_at}
use Rattle.machine.specs.Places.{m_of, n_of, tick_of, accepted_of, plain_of, waiting_of, executing_of, row_size, row_at, above_of, job_rank_at, mode_of, priority_at, period_at, transactions_at, arrival_at, releases_at, release_at, clashes_at, retries_at, sets_in}
use Rattle.machine.specs.Opened.{arrival_code}

-- the numbers of a wait
pub record WaitHeld (w : List ℕ) (i : ℕ) (v : Wait) : Type 0 where
  pub release : release_at w i ≡ v.release
  pub clashes : clashes_at w i ≡ v.clashes
  pub retries : retries_at w i ≡ v.retries

-- the numbers of a task; those of a wait only while it waits
pub record TaskHeld (w : List ℕ) (i : ℕ) (t : Task) : Type 0 where
  pub priority : priority_at w i ≡ t.terms.priority
  pub period : period_at w i ≡ t.terms.period
  pub transactions : transactions_at w i ≡ t.terms.transactions
  pub arrival : arrival_at w i ≡ arrival_code t.arrival
  pub releases : releases_at w i ≡ t.releases
  pub rank : job_rank_at w i ≡ t.rank
  pub wait : is_waiting t.state ≡ true → WaitHeld w i (wait_of t.state)

-- 'The row holds exactly the waiting tasks, each once, in rank order': its first c places have the tasks with f, and no others, and their ranks rise
pub record Ordered (f : ℕ → Bool) (r : ℕ → ℕ) (w : List ℕ) (c : ℕ) : Type 0 where
  -- there are that many places
  pub places : c ≤ 64
  -- at each of them stands a task with f
  pub each : (k : ℕ) → k < c → (row_at w k < 64) × (f (row_at w k) ≡ true)
  -- who stands before ranks above
  pub rising : (j k : ℕ) → j < k → k < c → r (row_at w j) < r (row_at w k)
  -- each task with f stands there
  pub all : (i : ℕ) → i < 64 → f i ≡ true → (k : ℕ) × (k < c) × (row_at w k ≡ i)

-- the periods of its tasks fit their places
abbrev pub PeriodsFit : Session → Type 0
PeriodsFit s = (i : ℕ) → i < s.n → (task_at s i).terms.period < 2 ^ 32

-- task j is one of the session's, in this state
abbrev pub within : Session → (Session → ℕ → Bool) → ℕ → Bool
within s state j = ltb j s.n && state s j

-- the words hold all of a session but the row
pub record Tabled (rank : Ranking) (w : List ℕ) (s : Session) : Type 0 where
  -- the sizes of the words and of the session's tables
  pub size : length w ≡ 1280
  pub tasks : length s.tasks ≡ 64
  pub reads : length s.reads ≡ 256
  pub writes : length s.writes ≡ 256
  -- no more tasks than places
  pub few : s.n ≤ 64
  -- the session's numbers
  pub m : m_of w ≡ s.m
  pub n : n_of w ≡ s.n
  pub mode : mode_of w ≡ s.mode
  pub tick : tick_of w ≡ s.tick
  pub accepted : accepted_of w ≡ s.accepted
  -- a bit for each task in the word of its state
  pub plains : (j : ℕ) → j < 64 → bit (plain_of w) j ≡ within s plain j
  pub waits : (j : ℕ) → j < 64 → bit (waiting_of w) j ≡ within s waiting j
  pub executes : (j : ℕ) → j < 64 → bit (executing_of w) j ≡ within s executing j
  -- who ranks above a task, of those that are present
  pub above : (i j : ℕ) → i < s.n → j < s.n → present_at s i ≡ true → present_at s j ≡ true → bit (above_of w i) j ≡ ltb (rank_at rank s j) (rank_at rank s i)
  -- each task's numbers and sets, and its period is as long as one can be
  pub numbers : (i : ℕ) → i < s.n → TaskHeld w i (task_at s i)
  pub sets : (i : ℕ) → i < s.n → SameSets (sets_in w i) (sets_at s i)
  pub periods : PeriodsFit s

-- the words hold a session: all that, and the row has the waiting tasks in rank order
pub record Holds (rank : Ranking) (w : List ℕ) (s : Session) : Type 0 where
  pub table : Tabled rank w s
  pub row : Ordered (within s waiting) (rank_at rank s) w (row_size w)
