-- Document 01's worked cases, one of request 2 and one of request 3, as claims about the lines; then cases at the edge of a rule, and those of request 5.
use Rattle.std.specs.Prelude.{ℕ, ◌^◌, ◌≡◌, List, [], ◌∷◌, ◌++◌, true, false, take, replicate}
use Rattle.rules.specs.declared.Terms.{Terms}
use Rattle.rules.specs.declared.Setup.{Setup}
use Rattle.rules.specs.declared.Session.{Session}
use Rattle.rules.specs.declared.Kind.{Kind}
use Rattle.rules.specs.declared.Kind.TheVariants.{Arrive, Release, Commit, Finish}
use Rattle.rules.specs.declared.Event.{Event}
use Rattle.rules.specs.declared.Said.TheVariants.{Ok, Run, Wait, No}
use Rattle.rules.specs.Ranking.{Ranking, by_rank}
use Rattle.rules.specs.Tasks.{no_terms}
use Rattle.rules.specs.Setup.{setup_number, fresh, same_setup}
use Rattle.rules.specs.Events.{empty, step, after}
use Rattle.rules.specs.Sum.{bound}
use Rattle.rules.specs.Lines.{Line, event, admit, end, event_lines}
use Rattle.rules.specs.History.{Call, tasks_of, heard, began, lasted, wait_length, passed, retried}

-- ---- how a case is written down

abbrev pub terms : ℕ → ℕ → ℕ → Terms
terms priority period transactions = record { priority = priority; period = period; transactions = transactions }

-- a setup of so many tasks, by fixed priority, with these terms and no more
abbrev pub setup_of : ℕ → ℕ → ℕ → List Terms → Setup
setup_of m n spare named = record { m = m; n = n; mode = 0; terms = named ++ replicate spare no_terms }

-- the setup in another mode
abbrev pub in_mode : ℕ → Setup → Setup
in_mode mode u = record { m = u.m; n = u.n; mode = mode; terms = u.terms }

abbrev pub plain_event : Kind → ℕ → ℕ → Event
plain_event kind tick i = record { kind = kind; tick = tick; task = i; reads = empty; writes = empty }

-- the set of one object below 64
abbrev pub only : ℕ → List ℕ
only b = 2 ^ b ∷ 0 ∷ 0 ∷ 0 ∷ []

abbrev pub release_of : ℕ → ℕ → List ℕ → List ℕ → Event
release_of tick i reads writes = record { kind = Release; tick = tick; task = i; reads = reads; writes = writes }

-- ---- 'A whole session'

-- 'Setup: m = 2; tasks 0, 1, 2 with priorities 10, 30, 20, periods 100, 50, 80, transactions 2, 1, 1.'
abbrev pub whole_setup : Setup
whole_setup = setup_of 2 3 61 (terms 10 100 2 ∷ terms 30 50 1 ∷ terms 20 80 1 ∷ [])

-- 'Task 0 writes object 4; task 1 reads 4 and writes 7; task 2 writes 7.'
abbrev pub whole_events : List Event
whole_events =
    plain_event Arrive 0 0 ∷ release_of 1 0 empty (only 4) ∷ plain_event Arrive 2 1 ∷ release_of 3 1 (only 4) (only 7) ∷ plain_event Arrive 4 2
    ∷ release_of 5 2 empty (only 7) ∷ plain_event Commit 6 0 ∷ plain_event Commit 7 2 ∷ plain_event Finish 8 0 ∷ plain_event Commit 8 1
    ∷ plain_event Finish 9 1 ∷ plain_event Finish 10 0 ∷ plain_event Finish 11 2 ∷ plain_event Arrive 12 1 ∷ []

-- the sixteen lines after `setup`, the last included. Request 2: 'in 01's session it becomes `7 admit 1 2 0`'. Request 3: the wait line has task 0, which executes and
-- writes object 4, as its third number.
abbrev pub whole_lines : List Line
whole_lines =
    event 0 Arrive 0 Ok ∷ event 1 Release 0 Run ∷ event 2 Arrive 1 Ok ∷ event 3 Release 1 (Wait 4 1 0) ∷ event 4 Arrive 2 Ok ∷ event 5 Release 2 Run
    ∷ event 6 Commit 0 Ok ∷ event 7 Commit 2 Ok ∷ admit 7 1 2 0 ∷ event 8 Finish 0 (No 6) ∷ event 8 Commit 1 Ok ∷ event 9 Finish 1 Ok
    ∷ event 10 Finish 0 Ok ∷ event 11 Finish 2 Ok ∷ event 12 Arrive 1 (No 5) ∷ end 12 2 ∷ []

abbrev pub WholeSession : Type 0
WholeSession = event_lines by_rank (fresh whole_setup) 0 whole_events ≡ whole_lines

-- the calls that a list of events makes, after those before it, the latest first
unfoldable pub calls_after : Ranking → Session → List Call → List Event → List Call
unfolding step tasks_of
calls_after rank s calls [] = calls
calls_after rank s calls (e ∷ more) = let a = step rank s e in calls_after rank a.session (heard e a ∷ calls) more

abbrev pub whole_calls : List Call
whole_calls = calls_after by_rank (fresh whole_setup) [] whole_events

-- 'Task 1 waited 4 ticks': from its release at tick 3 to tick 7, at which 2 commits and it is admitted, whatever comes after. Both 0 and 2 committed while it waited, and it ran
-- before neither: m = 2, just before 0 commits two were executing, and just before 2 commits one was, with task 0 plain.
abbrev pub WholeWait : Type 0
WholeWait =
    (began 1 whole_calls ≡ 3) × (lasted 1 whole_calls ≡ 7) × (wait_length 1 whole_calls ≡ 4) × (passed 1 whole_calls ≡ 2)
    × (retried by_rank (fresh whole_setup) 1 whole_calls ≡ 0)

-- 'Task 1 waited 4 ticks; the sum is 2×2 + 1×2 = 6.'
abbrev pub WholeSum : Type 0
WholeSum = bound (fresh whole_setup) 1 4 ≡ 6

-- ---- 'Easy to get wrong'

-- tasks whose priorities rise with their numbers, each with one release of one written object a job
abbrev pub rising : ℕ → List Terms → Setup
rising m named = setup_of m 4 60 named

abbrev pub four_tasks : List Terms
four_tasks = terms 10 100 1 ∷ terms 20 100 1 ∷ terms 30 100 1 ∷ terms 40 100 1 ∷ []

abbrev pub writes : ℕ → ℕ → ℕ → Event
writes tick i b = release_of tick i empty (only b)

-- 'Scanning after commits only. With m = 2 and priorities 10, 20, 30, 40 for tasks 0 to 3: 0 executes writing 1; 1 releases writing 1 and waits; 2 executes
-- writing 2; 3 arrives; 0 commits. Task 1 now clashes with none but has no room, since 3 is plain above it. Task 3 releases writing 2 and waits: that scan
-- admits task 1, with retry count 1', which is its clash count. Two transactions were executing just before that commit, so it did not run.
abbrev pub DeferredReleaseScans : Type 0
DeferredReleaseScans =
    event_lines by_rank (fresh (rising 2 four_tasks)) 0
    (plain_event Arrive 0 0 ∷ writes 1 0 1 ∷ plain_event Arrive 2 1 ∷ writes 3 1 1 ∷ plain_event Arrive 4 2 ∷ writes 5 2 2 ∷ plain_event Arrive 6 3
    ∷ plain_event Commit 7 0 ∷ writes 8 3 2 ∷ [])
    ≡ event 0 Arrive 0 Ok ∷ event 1 Release 0 Run ∷ event 2 Arrive 1 Ok ∷ event 3 Release 1 (Wait 1 1 0) ∷ event 4 Arrive 2 Ok ∷ event 5 Release 2 Run
    ∷ event 6 Arrive 3 Ok ∷ event 7 Commit 0 Ok ∷ event 8 Release 3 (Wait 2 1 2) ∷ admit 8 1 1 0 ∷ end 9 0 ∷ []

-- the same, but that 3 finishes: 'a finish and a deferred release scan too, since both can free one'
abbrev pub FinishScans : Type 0
FinishScans =
    event_lines by_rank (fresh (rising 2 four_tasks)) 0
    (plain_event Arrive 0 0 ∷ writes 1 0 1 ∷ plain_event Arrive 2 1 ∷ writes 3 1 1 ∷ plain_event Arrive 4 2 ∷ writes 5 2 2 ∷ plain_event Arrive 6 3
    ∷ plain_event Commit 7 0 ∷ plain_event Finish 8 3 ∷ [])
    ≡ event 0 Arrive 0 Ok ∷ event 1 Release 0 Run ∷ event 2 Arrive 1 Ok ∷ event 3 Release 1 (Wait 1 1 0) ∷ event 4 Arrive 2 Ok ∷ event 5 Release 2 Run
    ∷ event 6 Arrive 3 Ok ∷ event 7 Commit 0 Ok ∷ event 8 Finish 3 Ok ∷ admit 8 1 1 0 ∷ end 9 0 ∷ []

-- 'Testing all waiting ones against the m-set as it was before the scan, and admitting two that clash': 1 and 2 both wait to write what 0 writes; when 0
-- commits there is room for both, and 2, which ranks higher, is admitted alone. It ran: just before that commit one was executing.
abbrev pub clashing_events : List Event
clashing_events =
    plain_event Arrive 0 0 ∷ writes 1 0 1 ∷ plain_event Arrive 2 1 ∷ writes 3 1 1 ∷ plain_event Arrive 4 2 ∷ writes 5 2 1 ∷ plain_event Commit 6 0 ∷ []

abbrev pub OneOfTwoAdmitted : Type 0
OneOfTwoAdmitted =
    event_lines by_rank (fresh (rising 3 four_tasks)) 0 clashing_events
    ≡ event 0 Arrive 0 Ok ∷ event 1 Release 0 Run ∷ event 2 Arrive 1 Ok ∷ event 3 Release 1 (Wait 1 1 0) ∷ event 4 Arrive 2 Ok
    ∷ event 5 Release 2 (Wait 1 1 0) ∷ event 6 Commit 0 Ok ∷ admit 6 2 1 1 ∷ end 7 0 ∷ []

-- 'Letting a task just committed keep its old sets': the four words of task 0's write set are 0 after its commit
abbrev pub CommittedEmpty : Type 0
CommittedEmpty = take 4 (after by_rank (fresh (rising 3 four_tasks)) clashing_events).writes ≡ empty

-- 'the retry count of every waiting transaction that clashes with the committed one rises by 1', and of no other: 2 commits while 1 waits for 0, and does not clash
-- with it. Just before 0 commits, one executes and one is plain, so 1 ran.
abbrev pub OnlyClashingCommits : Type 0
OnlyClashingCommits =
    event_lines by_rank (fresh (rising 3 four_tasks)) 0
    (plain_event Arrive 0 0 ∷ writes 1 0 1 ∷ plain_event Arrive 2 1 ∷ writes 3 1 1 ∷ plain_event Arrive 4 2 ∷ writes 5 2 2 ∷ plain_event Commit 6 2
    ∷ plain_event Commit 7 0 ∷ [])
    ≡ event 0 Arrive 0 Ok ∷ event 1 Release 0 Run ∷ event 2 Arrive 1 Ok ∷ event 3 Release 1 (Wait 1 1 0) ∷ event 4 Arrive 2 Ok ∷ event 5 Release 2 Run
    ∷ event 6 Commit 2 Ok ∷ event 7 Commit 0 Ok ∷ admit 7 1 1 1 ∷ end 8 0 ∷ []

-- ---- request 2: a retry that ran, and some that did not

-- m = 3, priorities 10, 20, 30, 40 for tasks 0 to 3. 0 executes reading 3 and writing 1; 1 executes writing 2; 2 releases writing 3 and waits for 0; 3 releases reading 1
-- and writing 2 and waits for both. By hand:
--   Just before 0 commits: executing 0 and 1, plain none, waiting 2 and 3. Both clash with 0, so both have clash count 1. For task 3: 2 + 0 + 0, since 2 ranks below it,
--   is less than 3: it ran, and has retry count 1. For task 2: 2 + 0 + 1 is not: retry count 0. The scan admits task 2; task 3 clashes with 1.
--   Just before 1 commits: executing 1 and 2, plain 0, waiting 3. It clashes with 1, so it has clash count 2. 2 + 1 + 0 is not less than 3, though 0 ranks below it: it did
--   not run, and its retry count stays 1. The scan admits it.
abbrev pub RanAndDidNot : Type 0
RanAndDidNot =
    event_lines by_rank (fresh (rising 3 four_tasks)) 0
    (plain_event Arrive 0 0 ∷ release_of 1 0 (only 3) (only 1) ∷ plain_event Arrive 2 1 ∷ writes 3 1 2 ∷ plain_event Arrive 4 2 ∷ writes 5 2 3
    ∷ plain_event Arrive 6 3 ∷ release_of 7 3 (only 1) (only 2) ∷ plain_event Commit 8 0 ∷ plain_event Commit 9 1 ∷ [])
    ≡ event 0 Arrive 0 Ok ∷ event 1 Release 0 Run ∷ event 2 Arrive 1 Ok ∷ event 3 Release 1 Run ∷ event 4 Arrive 2 Ok ∷ event 5 Release 2 (Wait 3 1 0)
    ∷ event 6 Arrive 3 Ok ∷ event 7 Release 3 (Wait 1 2 1) ∷ event 8 Commit 0 Ok ∷ admit 8 2 1 0 ∷ event 9 Commit 1 Ok ∷ admit 9 3 2 1 ∷ end 10 0 ∷ []

-- ---- request 3: whom it waits for

-- m = 8, and priorities 20, 10, 25, 30, 30, 60, 50, 70 for tasks 0 to 7.
abbrev pub eight_tasks : Setup
eight_tasks =
    setup_of 8 8 56
    (terms 20 100 1 ∷ terms 10 100 1 ∷ terms 25 100 1 ∷ terms 30 100 1 ∷ terms 30 100 1 ∷ terms 60 100 1 ∷ terms 50 100 1 ∷ terms 70 100 1 ∷ [])

-- the set of objects 1 to 6: 2 + 4 + 8 + 16 + 32 + 64
abbrev pub one_to_six : List ℕ
one_to_six = 126 ∷ 0 ∷ 0 ∷ 0 ∷ []

-- Tasks 0 to 4 execute writing 3, 4, 1, 5 and 6, and task 7 writing 9. 5 reads 3 and writes 2, and waits for 0. Then 6 releases writing 1 to 6. By hand: of the executing
-- ones it clashes with 0 to 4, on 3, 4, 1, 5 and 6, so the lowest contested object is 1 and there are 5: nobody who executes has 2. The highest priority among 0 to 4 is 30, of
-- 3 and of 4, and the lower number ranks higher: it waits for 3. Of the other tasks, 0 is the first in number, 1 ranks lowest, 2 holds the lowest contested object, 4 is
-- the higher number of the two, 5 clashes and ranks higher but waits, and 7 executes and ranks higher but does not clash.
abbrev pub HighestOfSeveral : Type 0
HighestOfSeveral =
    event_lines by_rank (fresh eight_tasks) 0
    (plain_event Arrive 0 0 ∷ plain_event Arrive 0 1 ∷ plain_event Arrive 0 2 ∷ plain_event Arrive 0 3 ∷ plain_event Arrive 0 4 ∷ plain_event Arrive 0 5
    ∷ plain_event Arrive 0 6 ∷ plain_event Arrive 0 7 ∷ writes 1 0 3 ∷ writes 2 1 4 ∷ writes 3 2 1 ∷ writes 4 3 5 ∷ writes 5 4 6 ∷ writes 6 7 9
    ∷ release_of 7 5 (only 3) (only 2) ∷ release_of 8 6 empty one_to_six ∷ [])
    ≡ event 0 Arrive 0 Ok ∷ event 0 Arrive 1 Ok ∷ event 0 Arrive 2 Ok ∷ event 0 Arrive 3 Ok ∷ event 0 Arrive 4 Ok ∷ event 0 Arrive 5 Ok
    ∷ event 0 Arrive 6 Ok ∷ event 0 Arrive 7 Ok ∷ event 1 Release 0 Run ∷ event 2 Release 1 Run ∷ event 3 Release 2 Run ∷ event 4 Release 3 Run
    ∷ event 5 Release 4 Run ∷ event 6 Release 7 Run ∷ event 7 Release 5 (Wait 3 1 0) ∷ event 8 Release 6 (Wait 1 5 3) ∷ end 16 0 ∷ []

-- ---- at the edge of a refusal

-- '7: release when the job has used its transactions': task 0 has one a job
abbrev pub UsedUp : Type 0
UsedUp =
    event_lines by_rank (fresh (rising 2 four_tasks)) 0 (plain_event Arrive 0 0 ∷ writes 1 0 1 ∷ plain_event Commit 2 0 ∷ writes 3 0 1 ∷ [])
    ≡ event 0 Arrive 0 Ok ∷ event 1 Release 0 Run ∷ event 2 Commit 0 Ok ∷ event 3 Release 0 (No 7) ∷ end 3 1 ∷ []

-- '5: arrive less than one period after the last arrival': the period is 100, and an arrival 100 ticks later is accepted
abbrev pub OnePeriodLater : Type 0
OnePeriodLater =
    event_lines by_rank (fresh (rising 2 four_tasks)) 0
    (plain_event Arrive 5 0 ∷ plain_event Finish 6 0 ∷ plain_event Arrive 104 0 ∷ plain_event Arrive 105 0 ∷ [])
    ≡ event 5 Arrive 0 Ok ∷ event 6 Finish 0 Ok ∷ event 104 Arrive 0 (No 5) ∷ event 105 Arrive 0 Ok ∷ end 3 1 ∷ []

-- 'release or finish by a plain task not on a processor' before 'release when the job has used its transactions'. m = 2, and 0 has used its one. While 1 and 2 are plain
-- above it, 0 + 2 is not less than 2, so both numbers refuse its release, and 6 is answered. Once 2 has finished it has room, and 7 is left.
abbrev pub SixBeforeSeven : Type 0
SixBeforeSeven =
    event_lines by_rank (fresh (rising 2 four_tasks)) 0
    (plain_event Arrive 0 0 ∷ writes 1 0 1 ∷ plain_event Commit 2 0 ∷ plain_event Arrive 3 1 ∷ plain_event Arrive 4 2 ∷ writes 5 0 1 ∷ plain_event Finish 6 2
    ∷ writes 7 0 1 ∷ [])
    ≡ event 0 Arrive 0 Ok ∷ event 1 Release 0 Run ∷ event 2 Commit 0 Ok ∷ event 3 Arrive 1 Ok ∷ event 4 Arrive 2 Ok ∷ event 5 Release 0 (No 6)
    ∷ event 6 Finish 2 Ok ∷ event 7 Release 0 (No 7) ∷ end 6 2 ∷ []

-- a session in which nothing has happened but that so many events were accepted, the last at this tick
abbrev pub later : Session → ℕ → ℕ → Session
later s tick accepted =
    record { m = s.m; n = s.n; mode = s.mode; tick = tick; accepted = accepted; tasks = s.tasks; reads = s.reads; writes = s.writes }

-- 'Events try 1 to 7 in that order.' After 999,999 events, the last at tick 5, one more is accepted: the arrival of 0. Then a commit of task 4 at tick 4 meets 1, 2 and 3, as
-- there are four tasks: 1. An arrival of 1 at tick 4 meets 2 and 3: 2. A commit of 0, which is plain, at tick 5 meets 3 and 4: 3. An arrival of 1 at tick 5 meets 3 alone.
abbrev pub FirstNumberAnswered : Type 0
FirstNumberAnswered =
    event_lines by_rank (later (fresh (rising 2 four_tasks)) 5 999999) 0
    (plain_event Arrive 5 0 ∷ plain_event Commit 4 4 ∷ plain_event Arrive 4 1 ∷ plain_event Commit 5 0 ∷ plain_event Arrive 5 1 ∷ [])
    ≡ event 5 Arrive 0 Ok ∷ event 4 Commit 4 (No 1) ∷ event 4 Arrive 1 (No 2) ∷ event 5 Commit 0 (No 3) ∷ event 5 Arrive 1 (No 3) ∷ end 1000000 4 ∷ []

-- '12, 13: setup: priority 0, then period not allowed; lowest task first'. Tasks 1 and 2 of three are bad: 13 in 1 and 12 in 2 gives 13; 12 in 1 and 13 in 2 gives 12; both in
-- 1 and 13 in 2 gives 12. 'setup tries 10, 11' before them, and 10 first.
abbrev pub three_tasks : ℕ → ℕ → Terms → Terms → Setup
three_tasks m n one two = setup_of m n 61 (terms 10 100 1 ∷ one ∷ two ∷ [])

abbrev pub LowestTaskFirst : Type 0
LowestTaskFirst =
    (setup_number (three_tasks 2 3 (terms 10 86400001 1) (terms 0 100 1)) ≡ 13)
    × (setup_number (three_tasks 2 3 (terms 0 100 1) (terms 10 0 1)) ≡ 12)
    × (setup_number (three_tasks 2 3 (terms 0 0 1) (terms 10 0 1)) ≡ 12)
    × (setup_number (three_tasks 2 65 (terms 0 100 1) (terms 10 0 1)) ≡ 11)
    × (setup_number (three_tasks 17 0 (terms 0 100 1) (terms 10 0 1)) ≡ 10)

-- Request 5: '14, unknown mode, tried after 11', and before 12 and 13: with 0 tasks and mode 2 it is 11, and with mode 2 and priority 0 it is 14.
abbrev pub ModeTried : Type 0
ModeTried =
    (setup_number (in_mode 2 (three_tasks 2 0 (terms 10 100 1) (terms 10 100 1))) ≡ 11)
    × (setup_number (in_mode 2 (three_tasks 2 3 (terms 0 100 1) (terms 10 0 1))) ≡ 14)
    × (setup_number (in_mode 1 (three_tasks 2 3 (terms 0 100 1) (terms 10 0 1))) ≡ 12)
    × (setup_number (in_mode 1 (three_tasks 2 3 (terms 10 100 1) (terms 10 100 1))) ≡ 0)

-- ---- one processor, the last object, two admissions

-- m = 1. While 0 executes nobody else has room, so the release of 1 gets 6; and 0 has none either, 1 + 0, but a commit asks for none. Then 1 is plain above 0: 1 has room and 0
-- has not. Nobody waits.
abbrev pub OneProcessor : Type 0
OneProcessor =
    event_lines by_rank (fresh (rising 1 four_tasks)) 0
    (plain_event Arrive 0 0 ∷ writes 1 0 1 ∷ plain_event Arrive 2 1 ∷ writes 3 1 1 ∷ plain_event Commit 4 0 ∷ plain_event Finish 5 0 ∷ writes 6 1 1
    ∷ plain_event Commit 7 1 ∷ plain_event Finish 8 1 ∷ plain_event Finish 9 0 ∷ [])
    ≡ event 0 Arrive 0 Ok ∷ event 1 Release 0 Run ∷ event 2 Arrive 1 Ok ∷ event 3 Release 1 (No 6) ∷ event 4 Commit 0 Ok ∷ event 5 Finish 0 (No 6)
    ∷ event 6 Release 1 Run ∷ event 7 Commit 1 Ok ∷ event 8 Finish 1 Ok ∷ event 9 Finish 0 Ok ∷ end 8 2 ∷ []

-- the set of object 255, bit 63 of word 3, and of objects 64 and 255: 64 is bit 0 of word 1
abbrev pub last_object : List ℕ
last_object = 0 ∷ 0 ∷ 0 ∷ 2 ^ 63 ∷ []

abbrev pub last_and64 : List ℕ
last_and64 = 0 ∷ 1 ∷ 0 ∷ 2 ^ 63 ∷ []

-- m = 3. 0 executes writing 255; 1 reads 255 and waits for it. 2 executes writing 64. 3 releases writing 64 and 255, which 2 and 0 have: the lowest contested
-- object is 64, there are 2, and 2 is the highest ranked that it clashes with.
abbrev pub LastObjectContested : Type 0
LastObjectContested =
    event_lines by_rank (fresh (rising 3 four_tasks)) 0
    (plain_event Arrive 0 0 ∷ release_of 1 0 empty last_object ∷ plain_event Arrive 2 1 ∷ release_of 3 1 last_object empty ∷ plain_event Arrive 4 2
    ∷ release_of 5 2 empty (0 ∷ 1 ∷ 0 ∷ 0 ∷ []) ∷ plain_event Arrive 6 3 ∷ release_of 7 3 empty last_and64 ∷ [])
    ≡ event 0 Arrive 0 Ok ∷ event 1 Release 0 Run ∷ event 2 Arrive 1 Ok ∷ event 3 Release 1 (Wait 255 1 0) ∷ event 4 Arrive 2 Ok ∷ event 5 Release 2 Run
    ∷ event 6 Arrive 3 Ok ∷ event 7 Release 3 (Wait 64 2 2) ∷ end 8 0 ∷ []

-- the set of objects 1 and 2: 2 + 4
abbrev pub one_and_two : List ℕ
one_and_two = 6 ∷ 0 ∷ 0 ∷ 0 ∷ []

-- 'The answer lists the admitted tasks in that order', which is highest rank first. m = 2. 0 executes writing 1 and 2; 1 waits to write 1, and 2 to write 2. Just before 0
-- commits, one executes and nobody is plain: for 2, 1 + 0 + 0 is less than 2, so it ran; for 1, 1 + 0 + 1 is not. Both clash with 0 alone, and not with each other. The scan
-- admits 2, which ranks higher, and then 1: one executes and 0 is plain below it.
abbrev pub TwoAdmitted : Type 0
TwoAdmitted =
    event_lines by_rank (fresh (rising 2 four_tasks)) 0
    (plain_event Arrive 0 0 ∷ release_of 1 0 empty one_and_two ∷ plain_event Arrive 2 1 ∷ writes 3 1 1 ∷ plain_event Arrive 4 2 ∷ writes 5 2 2
    ∷ plain_event Commit 6 0 ∷ [])
    ≡ event 0 Arrive 0 Ok ∷ event 1 Release 0 Run ∷ event 2 Arrive 1 Ok ∷ event 3 Release 1 (Wait 1 1 0) ∷ event 4 Arrive 2 Ok
    ∷ event 5 Release 2 (Wait 2 1 0) ∷ event 6 Commit 0 Ok ∷ admit 6 2 1 1 ∷ admit 6 1 1 0 ∷ end 7 0 ∷ []

-- ---- request 5: the same events in both modes

-- m = 2, and priorities 10, 20, 30, periods 100, 60, 80 for tasks 0 to 2.
abbrev pub two_modes : Setup
two_modes = setup_of 2 3 61 (terms 10 100 2 ∷ terms 20 60 2 ∷ terms 30 80 2 ∷ [])

-- 'Setups are equal only with equal modes.'
abbrev pub ModesApart : Type 0
ModesApart = (same_setup two_modes (in_mode 1 two_modes) ≡ false) × (same_setup two_modes (in_mode 0 two_modes) ≡ true)

-- 0 executes writing 1; 2 arrives and waits to write it, and then 1 does.
abbrev pub two_modes_events : List Event
two_modes_events =
    plain_event Arrive 0 0 ∷ writes 1 0 1 ∷ plain_event Arrive 2 2 ∷ writes 3 2 1 ∷ plain_event Arrive 4 1 ∷ writes 5 1 1 ∷ plain_event Commit 6 0
    ∷ plain_event Commit 7 2 ∷ plain_event Commit 8 1 ∷ plain_event Finish 9 1 ∷ plain_event Commit 10 2 ∷ plain_event Arrive 64 1 ∷ plain_event Finish 65 1
    ∷ plain_event Finish 66 0 ∷ []

-- By fixed priority, by hand: 2 ranks above 1, and 1 above 0.
--   Just before 0 commits one executes and nobody is plain. For 2: 1 + 0 + 0 is less than 2, it ran. For 1, with 2 waiting above it: 1 + 0 + 1 is not. The scan admits 2, and 1
--   clashes with it.
--   2 commits, and 1 clashes with it: its clash count is 2. One was executing and 0 plain: 1 + 1 + 0 is not less than 2. Of the plain ones 2 ranks above 1: 0 + 1 is less than 2,
--   and it is admitted. At tick 10 task 2 is plain, so its commit gets 4.
--   At tick 65 all three are plain, and 2 alone ranks above 1: 0 + 1 is less than 2, and it finishes. So does 0 then, which has 2 above it.
abbrev pub ByPriority : Type 0
ByPriority =
    event_lines by_rank (fresh two_modes) 0 two_modes_events
    ≡ event 0 Arrive 0 Ok ∷ event 1 Release 0 Run ∷ event 2 Arrive 2 Ok ∷ event 3 Release 2 (Wait 1 1 0) ∷ event 4 Arrive 1 Ok
    ∷ event 5 Release 1 (Wait 1 1 0) ∷ event 6 Commit 0 Ok ∷ admit 6 2 1 1 ∷ event 7 Commit 2 Ok ∷ admit 7 1 2 0 ∷ event 8 Commit 1 Ok
    ∷ event 9 Finish 1 Ok ∷ event 10 Commit 2 (No 4) ∷ event 64 Arrive 1 Ok ∷ event 65 Finish 1 Ok ∷ event 66 Finish 0 Ok ∷ end 13 1 ∷ []

-- By deadline, by hand: that of 0 is 0 + 100, of 2 is 2 + 80 = 82, and of 1, which arrives last, 4 + 60 = 64.
--   So 1 overtakes 2, which waits: just before 0 commits it is 1 that ran, 1 + 0 + 0, and 2 did not, 1 + 0 + 1. The scan admits 1, and 2 clashes with it; its commit at tick 7
--   gets 4.
--   1 commits, and 2 clashes with it: its clash count is 2. One was executing and 0 plain: 1 + 1 + 0 is not less than 2. Of the plain ones 1 ranks above 2: 0 + 1 is less than 2,
--   and it is admitted.
--   1 finishes, with the earliest deadline, and at tick 64 it arrives again: now its deadline is 64 + 60 = 124, the last. At tick 65 all three are plain, and 0 and 2 rank above
--   1: 0 + 2 is not less than 2, so it gets 6. 0 finishes, which has 2 above it.
abbrev pub ByDeadline : Type 0
ByDeadline =
    event_lines by_rank (fresh (in_mode 1 two_modes)) 0 two_modes_events
    ≡ event 0 Arrive 0 Ok ∷ event 1 Release 0 Run ∷ event 2 Arrive 2 Ok ∷ event 3 Release 2 (Wait 1 1 0) ∷ event 4 Arrive 1 Ok
    ∷ event 5 Release 1 (Wait 1 1 0) ∷ event 6 Commit 0 Ok ∷ admit 6 1 1 1 ∷ event 7 Commit 2 (No 4) ∷ event 8 Commit 1 Ok ∷ admit 8 2 2 0
    ∷ event 9 Finish 1 Ok ∷ event 10 Commit 2 Ok ∷ event 64 Arrive 1 Ok ∷ event 65 Finish 1 (No 6) ∷ event 66 Finish 0 Ok ∷ end 12 2 ∷ []

-- A deadline may lie past the last tick. m = 1, periods 10 and 95. 1 arrives at 4,294,967,200, so its deadline is 4,294,967,295; 0 arrives at 4,294,967,290, and its deadline
-- is 4,294,967,300, five later. So 1 ranks above 0: the finish of 0 gets 6, and 1 has room.
abbrev pub PastTheLastTick : Type 0
PastTheLastTick =
    event_lines by_rank (fresh (in_mode 1 (setup_of 1 2 62 (terms 10 10 1 ∷ terms 10 95 1 ∷ [])))) 0
    (plain_event Arrive 4294967200 1 ∷ plain_event Arrive 4294967290 0 ∷ plain_event Finish 4294967291 0 ∷ plain_event Finish 4294967292 1 ∷ [])
    ≡ event 4294967200 Arrive 1 Ok ∷ event 4294967290 Arrive 0 Ok ∷ event 4294967291 Finish 0 (No 6) ∷ event 4294967292 Finish 1 Ok ∷ end 3 1 ∷ []
