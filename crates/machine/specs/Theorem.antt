-- What is proved of the words. Start here: each event on words that hold a session gives the answer of the rules' step, and leaves words that hold the session after it.
use Rattle.std.specs.Prelude.{ℕ, ◌+◌, ◌*◌, ◌^◌, ◌≤◌, ◌<◌, ◌≡◌, ◌≢◌, List, cond, length, get_or, Some}
use Rattle.rules.specs.declared.Setup.{Setup}
use Rattle.rules.specs.declared.Session.{Session}
use Rattle.rules.specs.declared.Kind.TheVariants.{Arrive}
use Rattle.rules.specs.declared.Event.{Event}
use Rattle.rules.specs.declared.Admission.{Admission}
use Rattle.rules.specs.declared.Admissions.{Admissions}
use Rattle.rules.specs.declared.Answer.{Answer}
use Rattle.rules.specs.Answers.{number}
use Rattle.rules.specs.Ranking.{Ranking, by_rank}
use Rattle.rules.specs.Tasks.{wait_of, task_at, state_at, waiting}
use Rattle.rules.specs.Setup.{setup_number, fresh, start}
use Rattle.rules.specs.Listed.{admission_at}
use Rattle.rules.specs.Scan.{no_admission}
use Rattle.rules.specs.Events.{step}
use Rattle.machine.specs.Places.{above_of}
use Rattle.machine.specs.Events.{Outcome, refused_in, step_in}
use Rattle.machine.specs.Opened.{opened, read_back}
use Rattle.machine.specs.Holds.{PeriodsFit, Holds}

-- ---- an event

-- the admission at place k of the list
abbrev pub listed_at : List ℕ → ℕ → Admission
listed_at list k = record { task = get_or list (k * 4) 0; clashes = get_or list (k * 4 + 1) 0; retries = get_or list (k * 4 + 2) 0 }

-- the tick of its release, which stands beside it
abbrev pub since_at : List ℕ → ℕ → ℕ
since_at list k = get_or list (k * 4 + 3) 0

-- what the words answer to an event of session s is answer a: what is said, and the admitted ones in their order, each with both its counts; beside them the tick of its
-- release, which is the event's own where it was the one that released
pub record Answers (s : Session) (e : Event) (x : Outcome) (a : Answer) : Type 0 where
  pub said : x.said ≡ a.said
  pub admitted : x.admitted ≡ a.admitted.count
  pub list : (k : ℕ) → k < x.admitted → listed_at x.list k ≡ admission_at a.admitted k
  pub since : (k : ℕ) → k < x.admitted
      → let i = (admission_at a.admitted k).task in
      since_at x.list k ≡ cond (waiting s i) (wait_of (state_at s i)).release e.tick

-- each event on words that hold a session: the answer of the rules' step, and words that hold the session after it. In both modes the ranking is that of the jobs' records.
abbrev pub StepHolds : Type 0
StepHolds =
    (w list : List ℕ) (s : Session) (e : Event) → length list ≡ 64 → Holds by_rank w s
    → Answers s e (step_in w list e) (step by_rank s e) × Holds by_rank (step_in w list e).words (step by_rank s e).session

-- 'A refused event changes no part of the session', and lists no admission: of any words at all, every number that was lent is as it was
abbrev pub RefusedStays : Type 0
RefusedStays =
    (w list : List ℕ) (e : Event)
    → let x = step_in w list e in
    1 ≤ number x.said → (x.words ≡ w) × (x.list ≡ list) × (x.admitted ≡ 0)

-- who ranks above whom moves at an arrival alone: of any words at all, every other event leaves it as it was
abbrev pub AboveStays : Type 0
AboveStays = (w list : List ℕ) (e : Event) → e.kind ≢ Arrive → (i : ℕ) → i < 64 → above_of (step_in w list e).words i ≡ above_of w i

-- ---- opened, and read back

-- the numbers of a session fit their places
pub record Fits (s : Session) : Type 0 where
  pub m : s.m < 2 ^ 8
  pub n : s.n < 2 ^ 8
  pub mode : s.mode < 2 ^ 8
  pub tick : s.tick < 2 ^ 32
  pub accepted : s.accepted < 2 ^ 32
  pub priority : (i : ℕ) → (task_at s i).terms.priority < 2 ^ 16
  pub period : (i : ℕ) → (task_at s i).terms.period < 2 ^ 32
  pub transactions : (i : ℕ) → (task_at s i).terms.transactions < 2 ^ 8
  pub arrival : (i tick : ℕ) → (task_at s i).arrival ≡ Some tick → tick < 2 ^ 32
  pub releases : (i : ℕ) → (task_at s i).releases < 2 ^ 8
  pub release : (i : ℕ) → (wait_of (state_at s i)).release < 2 ^ 32
  pub clashes : (i : ℕ) → (wait_of (state_at s i)).clashes < 2 ^ 32
  pub retries : (i : ℕ) → (wait_of (state_at s i)).retries < 2 ^ 32

-- the tables have their sizes
pub record Sized (s : Session) : Type 0 where
  pub tasks : length s.tasks ≡ 64
  pub reads : length s.reads ≡ 256
  pub writes : length s.writes ≡ 256

-- words into which a session is laid hold it
abbrev pub OpenedHolds : Type 0
OpenedHolds = (w : List ℕ) (s : Session) → length w ≡ 1280 → Sized s → PeriodsFit s → s.n ≤ 64 → Holds by_rank (opened w s) s

-- past n two sessions are the same
pub record Beside (s t : Session) : Type 0 where
  pub tasks : (i : ℕ) → s.n ≤ i → task_at t i ≡ task_at s i
  pub reads : (p : ℕ) → s.n * 4 ≤ p → get_or t.reads p 0 ≡ get_or s.reads p 0
  pub writes : (p : ℕ) → s.n * 4 ≤ p → get_or t.writes p 0 ≡ get_or s.writes p 0

-- 'read back through the row, the same states': words that hold a session give it back, with what stands past n from the session that is handed in
abbrev pub ReadsBack : Type 0
ReadsBack = (rank : Ranking) (w : List ℕ) (s t : Session) → Holds rank w s → Fits s → Sized t → Beside s t → read_back w t ≡ s

-- ---- what the rules' step keeps, of any session at all

-- an event whose tick fits leaves numbers that fit
abbrev pub StepFits : Type 0
StepFits = (rank : Ranking) (s : Session) (e : Event) → e.tick < 2 ^ 32 → Fits s → Fits (step rank s e).session

-- and tables of their sizes
abbrev pub StepSized : Type 0
StepSized = (rank : Ranking) (s : Session) (e : Event) → Sized s → Sized (step rank s e).session

-- and what stands past n: an event that is accepted has its task below n, and so have those that it passes over and those that a scan admits
abbrev pub StepBeside : Type 0
StepBeside = (rank : Ranking) (s : Session) (e : Event) → Beside (step rank s e).session s

-- what is listed has sixteen places, and those past the count are empty: of any session and any event
pub record Sixteen (a : Admissions) : Type 0 where
  pub size : length a.list ≡ 16
  pub few : a.count ≤ 16
  pub unused : (k : ℕ) → a.count ≤ k → admission_at a k ≡ no_admission

-- so does every answer list
abbrev pub StepSixteen : Type 0
StepSixteen = (rank : Ranking) (s : Session) (e : Event) → Sixteen (step rank s e).admitted

-- and the numbers of those that are listed fit their places
pub record ListFits (a : Admissions) : Type 0 where
  pub task : (k : ℕ) → k < a.count → (admission_at a k).task < 64
  pub clashes : (k : ℕ) → k < a.count → (admission_at a k).clashes < 2 ^ 32
  pub retries : (k : ℕ) → k < a.count → (admission_at a k).retries < 2 ^ 32

-- so do those of every answer
abbrev pub StepLists : Type 0
StepLists = (rank : Ranking) (s : Session) (e : Event) → e.tick < 2 ^ 32 → Fits s → ListFits (step rank s e).admitted

-- ---- from a setup

-- words into which the session of a good setup is laid hold it
abbrev pub SetupHolds : Type 0
SetupHolds = (w : List ℕ) (u : Setup) → length w ≡ 1280 → setup_number u ≡ 0 → Holds by_rank (opened w (start u).session) (fresh u)

-- 'A refused setup makes no session; what comes back in its place has m and n 0 and every task absent, so every event and every sum asked of it gets 1': so has every event
-- asked of words into which that is laid, and it leaves them as they are
abbrev pub RefusedSetup : Type 0
RefusedSetup =
    (w list : List ℕ) (u : Setup) (e : Event) → length w ≡ 1280 → 1 ≤ number (start u).said
    → let v = opened w (start u).session in
    step_in v list e ≡ refused_in v list 1
