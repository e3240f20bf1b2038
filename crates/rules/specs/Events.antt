-- The four events: the number that refuses one, and the answer with the session after it.
use Rattle.std.specs.Prelude.{ℕ, zero, suc, ◌+◌, min, List, [], ◌∷◌, Bool, false, cond, ◌&&◌, eqb, leb, ltb, set, replicate, Option, None, Some}
use Rattle.objects.specs.Objects.{Sets, clash}
use Rattle.rules.specs.declared.State.{State}
use Rattle.rules.specs.declared.State.TheVariants.{Absent, Plain, Waiting, Executing}
use Rattle.rules.specs.declared.Task.{Task}
use Rattle.rules.specs.declared.Session.{Session}
use Rattle.rules.specs.declared.Kind.TheVariants.{Arrive, Release, Commit, Finish}
use Rattle.rules.specs.declared.Event.{Event}
use Rattle.rules.specs.declared.Said.{Said}
use Rattle.rules.specs.declared.Said.TheVariants.{Ok, Run, Wait, No}
use Rattle.rules.specs.declared.Answer.{Answer}
use Rattle.rules.specs.Ranking.{Ranking, job_rank}
use Rattle.rules.specs.Tasks.{is_absent, is_plain, is_executing, task_at, state_at, waiting, sets_at, sets_of, known, in_state, with_tasks, with_task, with_sets, stamped}
use Rattle.rules.specs.Room.{room, ran}
use Rattle.rules.specs.Contest.{blocked, lowest_contested, contested_count, highest_clashing}
use Rattle.rules.specs.Scan.{none, scan}

-- ---- 'Events try 1 to 7 in that order': the first that is given

-- 1 task not below n; 2 tick below the last accepted event's tick (equal is allowed); 3 1,000,000 events already accepted; then the rest
abbrev pub trying : Session → ℕ → ℕ → ℕ → ℕ
trying s tick i rest = cond (known s i) (cond (ltb tick s.tick) 2 (cond (leb 1000000 s.accepted) 3 rest)) 1

-- '5: arrive less than one period after the last arrival (first arrival is free)'
abbrev pub early : Option ℕ → ℕ → ℕ → Bool
early None period tick = false
early (Some last) period tick = ltb tick (last + period)

-- '4: wrong state: arrive not absent'
unfoldable pub arrive_number : Session → ℕ → ℕ → ℕ
arrive_number s tick i =
    trying s tick i
    (cond (is_absent (state_at s i)) (cond (early (task_at s i).arrival (task_at s i).terms.period tick) 5 0) 4)

-- '4: release or finish not plain'; '6: release or finish by a plain task not on a processor'; '7: release when the job has used its transactions'
unfoldable pub release_number : Ranking → Session → ℕ → ℕ → ℕ
unfolding room
release_number rank s tick i =
    trying s tick i
    (cond (is_plain (state_at s i))
    (cond (room rank s i) (cond (ltb (task_at s i).releases (task_at s i).terms.transactions) 0 7) 6)
    4)

-- '4: commit not executing'
unfoldable pub commit_number : Session → ℕ → ℕ → ℕ
commit_number s tick i = trying s tick i (cond (is_executing (state_at s i)) 0 4)

unfoldable pub finish_number : Ranking → Session → ℕ → ℕ → ℕ
unfolding room
finish_number rank s tick i = trying s tick i (cond (is_plain (state_at s i)) (cond (room rank s i) 0 6) 4)

-- ---- the answers

-- 'A refused event changes no part of the session, the last tick included, and lists no admission.'
abbrev pub refused : Session → ℕ → Answer
refused s k = record { said = No k; admitted = none; session = s }

-- an accepted event with no scan
abbrev pub still : Said → Session → Answer
still said s = record { said = said; admitted = none; session = s }

-- an accepted event, 'and a scan follows'
abbrev pub scanning : Ranking → Said → Session → Answer
scanning rank said s = record { said = said; admitted = (scan rank s).admitted; session = (scan rank s).session }

-- 'arrive: absent becomes plain, releases 0, last arrival set.' Request 5: 'The rank becomes part of a present job's record.' It is set here.
abbrev pub arrived : ℕ → Task → ℕ → Task
arrived mode t tick = record { terms = t.terms; state = Plain; arrival = Some tick; releases = 0; rank = job_rank mode t.terms tick }

unfoldable pub arrive : Session → ℕ → ℕ → Answer
unfolding arrive_number job_rank
arrive s tick i =
    cond (eqb (arrive_number s tick i) 0)
    (still Ok (with_task (stamped s tick) i (arrived s.mode (task_at s i) tick)))
    (refused s (arrive_number s tick i))

-- one more release, and the state that it leads to
abbrev pub released : Task → State → Task
released t state = record { terms = t.terms; state = state; arrival = t.arrival; releases = t.releases + 1; rank = t.rank }

abbrev pub released_into : Session → ℕ → ℕ → List ℕ → List ℕ → State → Session
released_into s tick i reads writes state =
    with_sets (with_task (stamped s tick) i (released (task_at s i) state)) i reads writes

-- a wait that begins at this tick, with both its counts 0
abbrev pub begins : ℕ → State
begins tick = Waiting (record { release = tick; clashes = 0; retries = 0 })

-- 'the answer gives the lowest contested object number, and how many objects are contested'; request 3: 'shall also name the highest ranked executing task it clashes
-- with'
abbrev pub wait_said : Ranking → Session → Sets → Said
wait_said rank s x = Wait (lowest_contested s x) (contested_count s x) (highest_clashing rank s x)

-- 'It clashes with no executing transaction: it becomes executing. Otherwise it becomes waiting with retry count 0, the answer gives' what it waits for, 'and a scan
-- follows.'
unfoldable pub release_accepted : Ranking → Session → ℕ → ℕ → List ℕ → List ℕ → Answer
unfolding blocked lowest_contested contested_count highest_clashing scan
release_accepted rank s tick i reads writes =
    let x = sets_of reads writes in
    let waits = scanning rank (wait_said rank s x) (released_into s tick i reads writes (begins tick)) in
    let runs = still Run (released_into s tick i reads writes Executing) in
    cond (blocked s x) waits runs

unfoldable pub release : Ranking → Session → ℕ → ℕ → List ℕ → List ℕ → Answer
unfolding release_number release_accepted
release rank s tick i reads writes =
    let accepts = release_accepted rank s tick i reads writes in
    cond (eqb (release_number rank s tick i) 0) accepts (refused s (release_number rank s tick i))

-- A count rises by 1, and stops at the largest that is held. A session that a setup led to never gets there: it takes no more than 1,000,000 events.
abbrev pub one_more : ℕ → ℕ
one_more k = min (k + 1) 4294967295

-- The clash count rises by 1, and the retry count too where the transaction ran.
abbrev pub raised_state : Bool → State → State
raised_state hadRun Absent = Absent
raised_state hadRun Plain = Plain
raised_state hadRun (Waiting w) =
    Waiting (record { release = w.release; clashes = one_more w.clashes; retries = cond hadRun (one_more w.retries) w.retries })
raised_state hadRun Executing = Executing

abbrev pub raised_task : Bool → Task → Task
raised_task hadRun t = in_state t (raised_state hadRun t.state)

-- 'the retry count of every waiting transaction that clashes with the committed one rises by 1', which is the clash count now: for the tasks below k, of which those
-- that hadRun names ran just before the commit
unfoldable pub raised : (ℕ → Bool) → Session → Sets → ℕ → List Task
unfolding clash
raised hadRun s x zero = s.tasks
raised hadRun s x (suc k) =
    cond (waiting s k && clash x (sets_at s k)) (set (raised hadRun s x k) k (raised_task (hadRun k) (task_at s k))) (raised hadRun s x k)

-- the groups of an empty set
abbrev pub empty : List ℕ
empty = replicate 4 0

-- 'executing becomes plain', and its sets are gone. 'First the retry count of every waiting transaction that clashes with the committed one rises by 1'. Who ran is
-- asked of the session just before the commit.
abbrev pub committed : Ranking → Session → ℕ → ℕ → Session
committed rank s tick i =
    let raisedSession = with_tasks (stamped s tick) (raised (ran rank s) s (sets_at s i) s.n) in
    let plainSession = with_task raisedSession i (in_state (task_at s i) Plain) in
    with_sets plainSession i empty empty

-- 'then a scan follows.'
unfoldable pub commit : Ranking → Session → ℕ → ℕ → Answer
unfolding commit_number ran raised scan
commit rank s tick i =
    let accepts = scanning rank Ok (committed rank s tick i) in
    cond (eqb (commit_number s tick i) 0) accepts (refused s (commit_number s tick i))

-- 'finish: a plain task on a processor becomes absent, and a scan follows.' Its releases are '0 while absent', and so is its rank, which is of no account then.
abbrev pub finished : Task → Task
finished t = record { terms = t.terms; state = Absent; arrival = t.arrival; releases = 0; rank = 0 }

unfoldable pub finish : Ranking → Session → ℕ → ℕ → Answer
unfolding finish_number scan
finish rank s tick i =
    let accepts = scanning rank Ok (with_task (stamped s tick) i (finished (task_at s i))) in
    cond (eqb (finish_number rank s tick i) 0) accepts (refused s (finish_number rank s tick i))

-- any event
unfoldable pub step : Ranking → Session → Event → Answer
unfolding arrive release commit finish
step rank s e =
    elim e.kind [
      | Arrive ↦ arrive s e.tick e.task
      | Release ↦ release rank s e.tick e.task e.reads e.writes
      | Commit ↦ commit rank s e.tick e.task
      | Finish ↦ finish rank s e.tick e.task
    ]

-- the session after a list of events
unfoldable pub after : Ranking → Session → List Event → Session
unfolding step
after rank s [] = s
after rank s (e ∷ more) = after rank (step rank s e).session more
