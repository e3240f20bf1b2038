-- Demand 3, of what the functions return. Start here: the record Holds is what is promised at every place of a run of calls, and Demand3 says that it holds. What is
-- assumed of an answer is, word for word, what the function's contract ensures of it. The same over the rules alone, and over any ranking, is in rules/specs/Demand3;
-- what the calls say of a task (passed, retried, wait_length, ..) is in rules/specs/History.
use Rattle.std.specs.Prelude.{ℕ, ◌≤◌, ◌<◌, ◌≡◌, List, [], ◌∷◌, Result, false}
use Rattle.objects.specs.Below.{count}
use Rattle.rules.specs.declared.Setup.{Setup}
use Rattle.rules.specs.declared.Session.{Session}
use Rattle.rules.specs.declared.Kind.TheVariants.{Arrive, Commit, Finish}
use Rattle.rules.specs.declared.Event.{Event}
use Rattle.rules.specs.declared.Answer.{Answer}
use Rattle.rules.specs.declared.Started.{Started}
use Rattle.rules.specs.declared.Refusal.{Refusal}
use Rattle.rules.specs.Answers.{number}
use Rattle.rules.specs.Ranking.{by_rank}
use Rattle.rules.specs.Tasks.{waiting, executing}
use Rattle.rules.specs.Setup.{start}
use Rattle.rules.specs.Events.{arrive, release, commit, finish, step}
use Rattle.rules.specs.Sum.{summed, sum_number, sum_of}
use Rattle.rules.specs.Cases.{plain_event, release_of}
use Rattle.rules.specs.History.{Call, heard, lasted, admitted_at, wait_length, passed}
use Rattle.rules.specs.Demand3.{RunsOn, Held, WaitsCount, AdmissionsCount, AdmissionsWithin, Apart, Told, RanksAsSaid}

-- an answer to a call of one of the functions, with the event that it was asked for
pub data Answered (s : Session) : Event → Answer → Type 0 where
  arrives : (tick task : ℕ) (answer : Answer) → answer ≡ arrive s tick task → Answered s (plain_event Arrive tick task) answer
  releases : (tick task : ℕ) (reads writes : List ℕ) (answer : Answer) → answer ≡ release by_rank s tick task reads writes
      → Answered s (release_of tick task reads writes) answer
  commits : (tick task : ℕ) (answer : Answer) → answer ≡ commit by_rank s tick task → Answered s (plain_event Commit tick task) answer
  finishes : (tick task : ℕ) (answer : Answer) → answer ≡ finish by_rank s tick task → Answered s (plain_event Finish tick task) answer
  steps : (e : Event) (answer : Answer) → answer ≡ step by_rank s e → Answered s e answer

-- calls one after another, each on the session that the one before gave back; refused ones too
pub data Calls (from : Session) : Session → List Call → Type 0 where
  none : Calls from from []
  then : {s : Session} {calls : List Call} → Calls from s calls → (e : Event) (answer : Answer) → Answered s e answer
      → Calls from answer.session (heard e answer ∷ calls)

pub record Holds (from s : Session) (calls : List Call) : Type 0 where
  -- once running, running until its own commit, with the same sets
  pub running : (s' : Session) (more : List Call) → Calls s s' more → RunsOn s s' more
  -- one that waits clashes with a running one or has no processor
  pub held : Held by_rank s
  -- its clash count is the number of clashing transactions that committed while it waited; its retry count is the number of those just before which it ran, and so never
  -- more; and so are those of each admission
  pub counts : WaitsCount by_rank from s calls
  pub admissions : (e : Event) (answer : Answer) → Answered s e answer → AdmissionsCount by_rank from e answer calls
  -- and the clash count is at most the sum that the function answers for the wait's length
  pub sum : (i : ℕ) → i < s.n → (answer : Result ℕ Refusal) → answer ≡ summed s i (wait_length i calls) → (sum_number answer ≡ 0) × (passed i calls ≤ sum_of answer)
  -- and so is that of each admission, for the wait that its call ends
  pub within : (e : Event) (answer : Answer) → Answered s e answer → AdmissionsWithin e answer calls
  -- a wait that ended has come to the tick of the call that admitted it
  pub ended : (i : ℕ) → i < s.n → waiting s i ≡ false → lasted i calls ≡ admitted_at i calls
  -- no two running transactions clash, and at most m run
  pub apart : Apart s
  pub few : count s.n (executing s) ≤ s.m
  -- history says what the session says
  pub told : (i : ℕ) → i < s.n → Told from s calls i
  -- who ranks above whom, of the jobs that are present, is what the mode's own wording says
  pub ranks : RanksAsSaid s

-- 'Over any run of calls from a fresh setup'
abbrev pub Demand3 : Type 0
Demand3 =
    (u : Setup) (started : Started) → started ≡ start u → number started.said ≡ 0
    → (s : Session) (calls : List Call) → Calls started.session s calls → Holds started.session s calls
