-- What a scan lists, plainly: who is listed, in which order, and that nobody else began to execute. And what it leaves waiting.
use Rattle.std.specs.Prelude.{ℕ, ◌≤◌, ◌<◌, ◌≡◌, ◌⊎◌, ◌≢◌, true, false, get_or}
use Rattle.rules.specs.declared.Session.{Session}
use Rattle.rules.specs.declared.Admission.{Admission}
use Rattle.rules.specs.declared.Admissions.{Admissions}
use Rattle.rules.specs.Ranking.{Ranking, Strict, Stays}
use Rattle.rules.specs.Tasks.{wait_of, state_at, waiting, executing, sets_at}
use Rattle.rules.specs.Room.{rank_at, room}
use Rattle.rules.specs.Contest.{Blocked}
use Rattle.rules.specs.Scan.{no_admission, scan}

-- the admission at place k of the list
abbrev pub admission_at : Admissions → ℕ → Admission
admission_at a k = get_or a.list k no_admission

-- A scan of session s lists a and leaves s'.
pub record Lists (rank : Ranking) (s : Session) (a : Admissions) (s' : Session) : Type 0 where
  -- 'There are never more than m.'
  pub few : a.count ≤ s.m
  -- each listed task is below n, waited before and executes after
  pub below : (k : ℕ) → k < a.count → (admission_at a k).task < s.n
  pub waited : (k : ℕ) → k < a.count → waiting s (admission_at a k).task ≡ true
  pub executes : (k : ℕ) → k < a.count → executing s' (admission_at a k).task ≡ true
  -- 'each with its retry count': its counts are those that it had
  pub clashes : (k : ℕ) → k < a.count → (admission_at a k).clashes ≡ (wait_of (state_at s (admission_at a k).task)).clashes
  pub retries : (k : ℕ) → k < a.count → (admission_at a k).retries ≡ (wait_of (state_at s (admission_at a k).task)).retries
  -- 'The answer lists the admitted tasks in that order', highest rank first; so none is listed twice
  pub ranked : (j k : ℕ) → j < k → k < a.count → rank_at rank s (admission_at a j).task < rank_at rank s (admission_at a k).task
  pub once : (j k : ℕ) → j < k → k < a.count → (admission_at a j).task ≢ (admission_at a k).task
  -- nobody else began to execute
  pub all : (i : ℕ) → executing s i ≡ false → executing s' i ≡ true → (k : ℕ) × (k < a.count) × ((admission_at a k).task ≡ i)

-- Of any ranking and any session whose m the list has places for.
abbrev pub ScanLists : Type 0
ScanLists = (rank : Ranking) (s : Session) → s.m ≤ 16 → Lists rank s (scan rank s).admitted (scan rank s).session

-- 'One that clashes with no transaction executing at that moment, and has room at that moment, becomes executing': so each one that still waits after the scan clashes with an
-- executing one or has no room, whatever the session was before.
abbrev pub ScanLeaves : Type 0
ScanLeaves =
    (rank : Ranking) → Strict rank → Stays rank → (s : Session) → s.n ≤ 64
    → let s' = (scan rank s).session in
    (i : ℕ) → i < s'.n → waiting s' i ≡ true → Blocked s' (sets_at s' i) ⊎ (room rank s' i ≡ false)
