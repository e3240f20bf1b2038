-- History: what the list of calls and their answers says, and nothing else. A call holds no session and no count, so nothing here can be a stored count under another
-- name; nor does the start of a run, in which every task is absent. Lists of calls have the latest first.
use Rattle.std.specs.Prelude.{ℕ, ◌+◌, ◌-◌, List, [], ◌∷◌, Bool, true, false, cond, not, ◌&&◌, ◌||◌, eqb, ltb, Option, Some}
use Rattle.objects.specs.Below.{one, count}
use Rattle.objects.specs.Objects.{Sets, clash, nothing}
use Rattle.rules.specs.declared.State.TheVariants.{Plain}
use Rattle.rules.specs.declared.Session.{Session}
use Rattle.rules.specs.declared.Kind.{Kind}
use Rattle.rules.specs.declared.Kind.TheVariants.{Arrive, Release, Commit, Finish}
use Rattle.rules.specs.declared.Event.{Event}
use Rattle.rules.specs.declared.Said.{Said}
use Rattle.rules.specs.declared.Admission.{Admission}
use Rattle.rules.specs.declared.Answer.{Answer}
use Rattle.rules.specs.Answers.{is_wait, number}
use Rattle.rules.specs.Ranking.{Ranking, job_rank}
use Rattle.rules.specs.Tasks.{task_at, sets_of}
use Rattle.rules.specs.Lines.{admissions}

-- ---- calls

-- a call: the event, what was said, and the tasks that its scan admitted, in their order
pub record Call : Type 0 where
  pub event : Event
  pub said : Said
  pub admitted : List ℕ

-- the tasks that are listed, without their counts
unfoldable pub tasks_of : List Admission → List ℕ
tasks_of [] = []
tasks_of (a ∷ more) = a.task ∷ tasks_of more

-- the call of an event that had this answer
abbrev pub heard : Event → Answer → Call
heard e a = record { event = e; said = a.said; admitted = tasks_of (admissions a.admitted) }

-- the list names task i
unfoldable pub names : List ℕ → ℕ → Bool
names [] i = false
names (j ∷ more) i = eqb j i || names more i

-- its scan admitted task i
abbrev pub admits : Call → ℕ → Bool
admits c i = names c.admitted i

-- '0: accepted'
abbrev pub accepted : Call → Bool
accepted c = eqb (number c.said) 0

abbrev pub is_arrive : Kind → Bool
is_arrive Arrive = true
is_arrive Release = false
is_arrive Commit = false
is_arrive Finish = false

abbrev pub is_release : Kind → Bool
is_release Arrive = false
is_release Release = true
is_release Commit = false
is_release Finish = false

abbrev pub is_commit : Kind → Bool
is_commit Arrive = false
is_commit Release = false
is_commit Commit = true
is_commit Finish = false

abbrev pub is_finish : Kind → Bool
is_finish Arrive = false
is_finish Release = false
is_finish Commit = false
is_finish Finish = true

-- the call is an accepted event of task i, and of this kind
abbrev pub by : Call → ℕ → Bool
by c i = accepted c && eqb c.event.task i

abbrev pub arrives : Call → ℕ → Bool
arrives c i = by c i && is_arrive c.event.kind

abbrev pub releases : Call → ℕ → Bool
releases c i = by c i && is_release c.event.kind

abbrev pub commits : Call → ℕ → Bool
commits c i = by c i && is_commit c.event.kind

abbrev pub finishes : Call → ℕ → Bool
finishes c i = by c i && is_finish c.event.kind

-- task i's release was answered with wait
abbrev pub deferred : Call → ℕ → Bool
deferred c i = releases c i && is_wait c.said

-- ---- what they say of a task

-- 'A task is in exactly one of four states'
pub data Stage : Type 0 where
  absent : Stage
  plain : Stage
  waits : Stage
  executes : Stage

abbrev pub stage_after : Kind → Said → Stage
stage_after Arrive said = plain
stage_after Release said = cond (is_wait said) waits executes
stage_after Commit said = plain
stage_after Finish said = absent

-- where the calls leave task i: executing if the last scan to name it came after its own last accepted event, else as that event left it
unfoldable pub stage : ℕ → List Call → Stage
unfolding names
stage i [] = absent
stage i (c ∷ before) = cond (admits c i) executes (cond (by c i) (stage_after c.event.kind c.said) (stage i before))

abbrev pub is_waits : Stage → Bool
is_waits absent = false
is_waits plain = false
is_waits waits = true
is_waits executes = false

abbrev pub in_wait : ℕ → List Call → Bool
in_wait i calls = is_waits (stage i calls)

abbrev pub is_plains : Stage → Bool
is_plains absent = false
is_plains plain = true
is_plains waits = false
is_plains executes = false

abbrev pub is_executes : Stage → Bool
is_executes absent = false
is_executes plain = false
is_executes waits = false
is_executes executes = true

-- the sets of task i's transaction: those of its last accepted release
unfoldable pub transaction : ℕ → List Call → Sets
unfolding nothing
transaction i [] = nothing
transaction i (c ∷ before) = cond (releases c i) (sets_of c.event.reads c.event.writes) (transaction i before)

-- 'the number of releases accepted in its present job (0 while absent)'
unfoldable pub released : ℕ → List Call → ℕ
released i [] = 0
released i (c ∷ before) = cond (arrives c i || finishes c i) 0 (released i before + one (releases c i))

-- ---- its last wait, which may be its present one

-- when it began: the tick of the last release of task i that was answered with wait
unfoldable pub began : ℕ → List Call → ℕ
began i [] = 0
began i (c ∷ before) = cond (deferred c i) c.event.tick (began i before)

-- 'A wait runs from its release's tick to the tick of the event that admits it, or to the last accepted tick if it still waits': the last accepted tick up to the
-- call that ends the wait
unfoldable pub lasted : ℕ → List Call → ℕ
unfolding stage
lasted i [] = 0
lasted i (c ∷ before) = cond (deferred c i || (accepted c && in_wait i before)) c.event.tick (lasted i before)

-- the tick of the last call whose scan admitted task i; 0 where none did
unfoldable pub admitted_at : ℕ → List Call → ℕ
unfolding names
admitted_at i [] = 0
admitted_at i (c ∷ before) = cond (admits c i) c.event.tick (admitted_at i before)

abbrev pub wait_length : ℕ → List Call → ℕ
wait_length i calls = lasted i calls - began i calls

-- how many calls of the wait have f, each with the calls before it. The call that ends the wait is one of them, and the release is not.
unfoldable pub during : (Call → List Call → Bool) → ℕ → List Call → ℕ
unfolding stage
during f i [] = 0
during f i (c ∷ before) = cond (deferred c i) 0 (during f i before + one (in_wait i before && f c before))

-- the call commits a transaction of another task that clashes with task i's
unfoldable pub passes : ℕ → Call → List Call → Bool
unfolding transaction clash
passes i c before =
    let j = c.event.task in
    accepted c && is_commit c.event.kind && not (eqb j i) && clash (transaction j before) (transaction i before)

-- the clash count: 'the number of clashing transactions that committed while it waited'
unfoldable pub passed : ℕ → List Call → ℕ
unfolding during passes
passed i calls = during (passes i) i calls

-- ---- at which of those it ran, in a run from this start, which has m, n, the mode, the terms and the arrivals before it

-- 'its last arrival, if any'
unfoldable pub last_arrival : Session → ℕ → List Call → Option ℕ
last_arrival start i [] = (task_at start i).arrival
last_arrival start i (c ∷ before) = cond (arrives c i) (Some c.event.tick) (last_arrival start i before)

-- the rank of its present job, which its arrival gave it: none before it arrives, and none after it finishes
unfoldable pub ranked : Session → ℕ → List Call → ℕ
unfolding job_rank
ranked start i [] = 0
ranked start i (c ∷ before) =
    cond (arrives c i) (job_rank start.mode (task_at start i).terms c.event.tick) (cond (finishes c i) 0 (ranked start i before))

-- its rank in the ranking, which goes by its terms, its last arrival and the rank of its job
abbrev pub rank_by : Ranking → Session → List Call → ℕ → ℕ
rank_by rank start calls i =
    let arrival = last_arrival start i calls in
    rank (record { terms = (task_at start i).terms; state = Plain; arrival = arrival; releases = 0; rank = ranked start i calls }) i

-- 'executing tasks plus all plain tasks plus waiting tasks ranked above this one are fewer than m', by the calls
unfoldable pub ran_by : Ranking → Session → ℕ → List Call → Bool
unfolding count stage last_arrival ranked
ran_by rank start i calls =
    let executing = count start.n (λ j. is_executes (stage j calls)) in
    let plain = count start.n (λ j. is_plains (stage j calls)) in
    let above = count start.n (λ j. in_wait j calls && ltb (rank_by rank start calls j) (rank_by rank start calls i)) in
    ltb (executing + plain + above) start.m

-- the call passes over task i's transaction, which ran just before it
unfoldable pub reruns : Ranking → Session → ℕ → Call → List Call → Bool
unfolding passes ran_by
reruns rank start i c before = passes i c before && ran_by rank start i before

-- the retry count: 'A retry is booked at a clashing commit only if, just before it, ..'
unfoldable pub retried : Ranking → Session → ℕ → List Call → ℕ
unfolding during reruns
retried rank start i calls = during (reruns rank start i) i calls
