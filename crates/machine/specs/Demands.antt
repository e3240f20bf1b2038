-- Demands 2 and 3 of the machine's calls. Start here: the record Promised is what holds at every place of a run of calls, and Demands says that it does. What is assumed of a
-- call is, word for word, what the function's contract ensures. Of a session by value, session/specs/Demand3 says the same; what the calls say of a task (passed, retried,
-- wait_length, ..) is in rules/specs/History.
use Rattle.std.specs.Prelude.{ℕ, zero, suc, ◌*◌, ◌≤◌, ◌<◌, ◌≡◌, List, [], ◌∷◌, ◌++◌, false, length, get_or}
use Rattle.objects.specs.Below.{count}
use Rattle.rules.specs.declared.Setup.{Setup}
use Rattle.rules.specs.declared.Session.{Session}
use Rattle.rules.specs.declared.Event.{Event}
use Rattle.rules.specs.Ranking.{by_rank}
use Rattle.rules.specs.Tasks.{waiting, executing}
use Rattle.rules.specs.Setup.{setup_number, fresh, start}
use Rattle.rules.specs.Events.{step}
use Rattle.rules.specs.History.{Call, lasted, admitted_at}
use Rattle.rules.specs.Demand3.{RunsOn, Held, WaitsCount, AdmissionsCount, Within, AdmissionsWithin, Apart, Told, RanksAsSaid}
use Rattle.machine.specs.Events.{Outcome, step_in}
use Rattle.machine.specs.Opened.{opened}
use Rattle.machine.specs.Holds.{Holds}
use Rattle.machine.specs.Theorem.{Answers}

-- ---- a run of calls

-- the first k tasks that a list names
unfoldable pub tasks_in : List ℕ → ℕ → List ℕ
tasks_in list zero = []
tasks_in list (suc k) = tasks_in list k ++ (get_or list (k * 4) 0 ∷ [])

-- the call of an event that came to this
abbrev pub heard_in : Event → Outcome → Call
heard_in e x = record { event = e; said = x.said; admitted = tasks_in x.list x.admitted }

-- calls one after another, each on the words that the one before left, with any list of sixteen admissions lent; refused ones too
pub data Calls (from : List ℕ) : List ℕ → List Call → Type 0 where
  none : Calls from from []
  then : {w : List ℕ} {calls : List Call} → Calls from w calls → (list : List ℕ) → length list ≡ 64 → (e : Event)
      → Calls from (step_in w list e).words (heard_in e (step_in w list e) ∷ calls)

-- ---- what holds of the words w after these calls, which hold session s; the calls began with the session from

-- the promises
pub record Promised (from s : Session) (w : List ℕ) (calls : List Call) : Type 0 where
  -- the words hold the session
  pub holds : Holds by_rank w s
  -- demand 2: the same yes or refusal number, the same admissions in the same order, the same session after
  pub answers : (list : List ℕ) → length list ≡ 64 → (e : Event)
      → Answers s e (step_in w list e) (step by_rank s e) × Holds by_rank (step_in w list e).words (step by_rank s e).session
  -- demand 3: once running, running until its own commit, with the same sets
  pub running : (w' : List ℕ) (more : List Call) → Calls w w' more → (s' : Session) × Holds by_rank w' s' × RunsOn s s' more
  -- one that waits clashes with a running one or has no processor
  pub held : Held by_rank s
  -- its clash count is the number of clashing transactions that committed while it waited; its retry count is the number of those just before which it ran, and so never
  -- more; and so are those of each admission
  pub counts : WaitsCount by_rank from s calls
  pub admissions : (e : Event) → AdmissionsCount by_rank from e (step by_rank s e) calls
  -- and the clash count is at most the sum for the wait's length; and so is that of each admission, for the wait that its call ends
  pub sum : Within s calls
  pub within : (e : Event) → AdmissionsWithin e (step by_rank s e) calls
  -- a wait that ended has come to the tick of the call that admitted it
  pub ended : (i : ℕ) → i < s.n → waiting s i ≡ false → lasted i calls ≡ admitted_at i calls
  -- no two running transactions clash, and at most m run
  pub apart : Apart s
  pub few : count s.n (executing s) ≤ s.m
  -- history says what the session says
  pub told : (i : ℕ) → i < s.n → Told from s calls i
  -- who ranks above whom, of the jobs that are present, is what the mode's own wording says
  pub ranks : RanksAsSaid s

-- 'Over any run of calls from a fresh setup'
abbrev pub Demands : Type 0
Demands =
    (u : Setup) (w : List ℕ) → length w ≡ 1280 → setup_number u ≡ 0
    → (w' : List ℕ) (calls : List Call) → Calls (opened w (start u).session) w' calls → (s : Session) × Promised (fresh u) s w' calls
