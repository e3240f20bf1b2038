-- What holds of every session that a setup and events lead to: one record, which the fresh session has and every event keeps. Demand3 says it of every run. And what holds
-- of every answer, on any session at all: what a refused and an accepted event change, how many are admitted, what is said of a wait.
use Rattle.std.specs.Prelude.{ℕ, ◌+◌, ◌*◌, ◌≤◌, ◌<◌, ◌≡◌, ◌⊎◌, ◌≢◌, Err, true, false, length, get_or, Some}
use Rattle.rules.specs.declared.Refusal.TheVariants.{UnknownTask}
use Rattle.objects.specs.Below.{count, Lowest, SoMany}
use Rattle.objects.specs.Objects.{Sets, clash}
use Rattle.rules.specs.declared.Setup.{Setup}
use Rattle.rules.specs.declared.Task.{Task}
use Rattle.rules.specs.declared.Session.{Session}
use Rattle.rules.specs.declared.Event.{Event}
use Rattle.rules.specs.declared.Said.{Said}
use Rattle.rules.specs.declared.Said.TheVariants.{No}
use Rattle.rules.specs.declared.Answer.{Answer}
use Rattle.rules.specs.Answers.{is_wait, number, object, contested, whom}
use Rattle.rules.specs.Ranking.{Ranking, Ranked, Strict, Stays}
use Rattle.rules.specs.Tasks.{is_absent, wait_of, task_at, state_at, waiting, executing, sets_at, sets_of, no_task}
use Rattle.rules.specs.Setup.{setup_number, fresh, start, terms_number}
use Rattle.rules.specs.Room.{room}
use Rattle.rules.specs.Contest.{blocked, lowest_contested, contested_count, ContestedOn, HighestClashing}
use Rattle.rules.specs.Events.{step}
use Rattle.rules.specs.Sum.{summed, sum_number, sum_of}

-- ---- the record

-- group g of task i's two sets is empty
abbrev pub EmptyAt : Session → ℕ → ℕ → Type 0
EmptyAt s i g = (get_or s.reads (i * 4 + g) 0 ≡ 0) × (get_or s.writes (i * 4 + g) 0 ≡ 0)

-- a present job's record: it has arrived, and it has the rank that it got then
abbrev pub Job : ℕ → Task → Type 0
Job mode t = (a : ℕ) × (t.arrival ≡ Some a) × Ranked mode t a

pub record Sound (rank : Ranking) (s : Session) : Type 0 where
  -- the tables' sizes
  pub tasks : length s.tasks ≡ 64
  pub reads : length s.reads ≡ 256
  pub writes : length s.writes ≡ 256
  -- m and n are allowed, and so are the terms of each task
  pub m_low : 1 ≤ s.m
  pub m_high : s.m ≤ 16
  pub n_low : 1 ≤ s.n
  pub n_high : s.n ≤ 64
  pub terms : (i : ℕ) → i < s.n → terms_number (task_at s i).terms ≡ 0
  -- executing transactions never clash with each other, and there are at most m of them
  pub apart : (i j : ℕ) → i < s.n → j < s.n → i ≢ j → executing s i ≡ true → executing s j ≡ true → clash (sets_at s i) (sets_at s j) ≡ false
  pub fit : count s.n (executing s) ≤ s.m
  -- a waiting one clashes with an executing one or has no room
  pub held : (i : ℕ) → i < s.n → waiting s i ≡ true → (blocked s (sets_at s i) ≡ true) ⊎ (room rank s i ≡ false)
  -- releases are at most what the task allows; a clash count is at most the accepted events; a last arrival is at most the last tick
  pub releases : (i : ℕ) → i < s.n → (task_at s i).releases ≤ (task_at s i).terms.transactions
  pub clashes : (i : ℕ) → i < s.n → (wait_of (state_at s i)).clashes ≤ s.accepted
  pub arrivals : (i a : ℕ) → i < s.n → (task_at s i).arrival ≡ Some a → a ≤ s.tick
  pub accepted : s.accepted ≤ 1000000
  -- a present job has its rank
  pub present : (i : ℕ) → i < s.n → is_absent (state_at s i) ≡ false → Job s.mode (task_at s i)
  -- the normal form: a task that is neither waiting nor executing has empty groups; an absent task has no releases and no rank; a task past n is as in a fresh session
  pub emptied : (i g : ℕ) → i < 64 → g < 4 → waiting s i ≡ false → executing s i ≡ false → EmptyAt s i g
  pub gone : (i : ℕ) → i < s.n → is_absent (state_at s i) ≡ true → ((task_at s i).releases ≡ 0) × ((task_at s i).rank ≡ 0)
  pub past : (i : ℕ) → s.n ≤ i → i < 64 → task_at s i ≡ no_task

-- ---- the statements

abbrev pub FreshSound : Type 0
FreshSound = (rank : Ranking) (u : Setup) → setup_number u ≡ 0 → Sound rank (fresh u)

abbrev pub StepSound : Type 0
StepSound = (rank : Ranking) → Strict rank → Stays rank → (s : Session) (e : Event) → Sound rank s → Sound rank (step rank s e).session

-- 'A refused event changes no part of the session': of any session at all
abbrev pub RefusedSame : Type 0
RefusedSame = (rank : Ranking) (s : Session) (e : Event) → 1 ≤ number (step rank s e).said → (step rank s e).session ≡ s

-- an accepted event adds 1 to the accepted count, and its tick is the last one
abbrev pub AcceptedOne : Type 0
AcceptedOne =
    (rank : Ranking) (s : Session) (e : Event) → number (step rank s e).said ≡ 0
    → ((step rank s e).session.accepted ≡ s.accepted + 1) × ((step rank s e).session.tick ≡ e.tick)

-- 'There are never more than m', of any session at all
abbrev pub AdmittedFew : Type 0
AdmittedFew = (rank : Ranking) (s : Session) (e : Event) → (step rank s e).admitted.count ≤ s.m

-- What an answer says, by the definitions of Answers, of any session at all: 'the lowest contested object number, and how many objects are contested', and since request 3
-- 'the highest ranked executing task it clashes with', said plainly. 'In every answer but that of a release that waits, the contested object, the
-- contested count and any task named with them are 0.'
abbrev pub WaitSays : Ranking → Session → Sets → Said → Type 0
WaitSays rank s x said = (object said ≡ lowest_contested s x) × (contested said ≡ contested_count s x) × HighestClashing rank s x (whom said)

abbrev pub OthersSay : Said → Type 0
OthersSay said = (object said ≡ 0) × (contested said ≡ 0) × (whom said ≡ 0)

abbrev pub AnswerSays : Type 0
AnswerSays =
    (rank : Ranking) → Strict rank → (s : Session) (e : Event)
    → (is_wait (step rank s e).said ≡ true → WaitSays rank s (sets_of e.reads e.writes) (step rank s e).said)
    × (is_wait (step rank s e).said ≡ false → OthersSay (step rank s e).said)

-- The object and the number that a wait is answered with, said plainly: a contested object below which none is contested, and as many as are contested.
abbrev pub WaitPlainly : Session → Sets → Said → Type 0
WaitPlainly s x said = Lowest (ContestedOn s x) (object said) × SoMany (ContestedOn s x) (contested said)

abbrev pub WaitsPlainly : Type 0
WaitsPlainly =
    (rank : Ranking) → Strict rank → (s : Session) (e : Event) → is_wait (step rank s e).said ≡ true
    → WaitPlainly s (sets_of e.reads e.writes) (step rank s e).said

-- 'task not below n', of any session at all: 1, no admission, and the session as it was
abbrev pub RefusedBy1 : Session → Answer → Type 0
RefusedBy1 s a = (a.said ≡ No 1) × (a.admitted.count ≡ 0) × (a.session ≡ s)

abbrev pub BadTask : Type 0
BadTask = (rank : Ranking) (s : Session) (e : Event) → s.n ≤ e.task → RefusedBy1 s (step rank s e)

-- 'A refused setup makes no session; what comes back in its place has m and n 0 and every task absent, so every event and every sum asked of it gets 1'
abbrev pub NoSessionAnswers : Type 0
NoSessionAnswers =
    (u : Setup) → 1 ≤ number (start u).said
    → let s = (start u).session in
    ((rank : Ranking) (e : Event) → RefusedBy1 s (step rank s e))
    × ((i length : ℕ) → (summed s i length ≡ Err UnknownTask) × (sum_number (summed s i length) ≡ 1) × (sum_of (summed s i length) ≡ 0))
