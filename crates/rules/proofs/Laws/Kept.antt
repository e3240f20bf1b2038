-- What a scan leaves alone, and what it changes: nothing but the state of tasks that waited and now execute.
use Prim.Native.Nat.{ℕ, ◌+◌, ◌≤◌, ◌<◌}
use mathlib.Core.Path.{◌≡◌}
use mathlib.Core.Logic.{◌⊎◌, ◌≢◌}
use mathlib.Core.Bool.{true, false}
use lib.ListN.{length}
use Rattle.objects.specs.Below.{count}
use Rattle.objects.specs.Objects.{clash}
use Rattle.rules.specs.declared.State.TheVariants.{Executing}
use Rattle.rules.specs.declared.Session.{Session}
use Rattle.rules.specs.Ranking.{Ranking, Strict, Stays}
use Rattle.rules.specs.Tasks.{task_at, waiting, executing, sets_at, in_state}
use Rattle.rules.specs.Room.{room}
use Rattle.rules.specs.Contest.{blocked}
use Rattle.rules.specs.Scan.{scan}

pub record Kept (s s' : Session) : Type 0 where
  pub m : s'.m ≡ s.m
  pub n : s'.n ≡ s.n
  pub mode : s'.mode ≡ s.mode
  pub tick : s'.tick ≡ s.tick
  pub accepted : s'.accepted ≡ s.accepted
  pub reads : s'.reads ≡ s.reads
  pub writes : s'.writes ≡ s.writes
  pub size : length s'.tasks ≡ length s.tasks
  pub each : (i : ℕ) → (task_at s' i ≡ task_at s i) ⊎ ((i < s.n) × (waiting s i ≡ true) × (task_at s' i ≡ in_state (task_at s i) Executing))

-- executing transactions never clash with each other
abbrev pub Apart : Session → Type 0
Apart s = (i j : ℕ) → i < s.n → j < s.n → i ≢ j → executing s i ≡ true → executing s j ≡ true → clash (sets_at s i) (sets_at s j) ≡ false

-- a waiting one clashes with an executing one or has no room
abbrev pub Held : Ranking → Session → Type 0
Held rank s = (i : ℕ) → i < s.n → waiting s i ≡ true → (blocked s (sets_at s i) ≡ true) ⊎ (room rank s i ≡ false)

-- the scan keeps, of any session at all
abbrev pub ScanKept : Type 0
ScanKept = (rank : Ranking) (s : Session) → Kept s (scan rank s).session

abbrev pub ScanApart : Type 0
ScanApart = (rank : Ranking) (s : Session) → Apart s → Apart (scan rank s).session

-- each admission is one more that executes, and so there are no more than m
abbrev pub ScanCounts : Type 0
ScanCounts =
    (rank : Ranking) (s : Session)
    → count s.n (executing (scan rank s).session) ≡ count s.n (executing s) + (scan rank s).admitted.count

abbrev pub ScanFits : Type 0
ScanFits = (rank : Ranking) (s : Session) → count s.n (executing s) ≤ s.m → count s.n (executing (scan rank s).session) ≤ s.m

abbrev pub ScanFew : Type 0
ScanFew = (rank : Ranking) (s : Session) → (scan rank s).admitted.count ≤ s.m

-- after a scan each one that still waits is held, whatever held it before
abbrev pub ScanHeld : Type 0
ScanHeld = (rank : Ranking) → Strict rank → Stays rank → (s : Session) → s.n ≤ 64 → Held rank (scan rank s).session
