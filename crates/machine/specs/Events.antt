-- The four events, over any words: the number that refuses one, what is said, and what it leaves in the words and in the list of admissions.
use Rattle.std.specs.Prelude.{ℕ, zero, suc, ◌+◌, ◌-◌, List, Bool, cond, not, ◌&&◌, eqb, leb, ltb, set}
use Rattle.objects.specs.Objects.{bit}
use Rattle.rules.specs.declared.Kind.TheVariants.{Arrive, Release, Commit, Finish}
use Rattle.rules.specs.declared.Event.{Event}
use Rattle.rules.specs.declared.Said.{Said}
use Rattle.rules.specs.declared.Said.TheVariants.{Ok, Run, No}
use Rattle.rules.specs.Events.{one_more, empty}
use Rattle.machine.specs.declared.Reply.{Reply}
use Rattle.machine.specs.Bits.{with_bit, without_bit, ones}
use Rattle.machine.specs.Places.{m_of, tick_of, accepted_of, plain_of, waiting_of, executing_of, row_held, row_task, rank_place, number_place, period_at, transactions_at, arrival_at, releases_at, clashes_at, retries_at, sets_put}
use Rattle.machine.specs.Asked.{known_in, absent_in, left_in, room_in, clash_in, blocked_in, wait_said_in}
use Rattle.machine.specs.Ranks.{ranks_moved, rank_given}
use Rattle.machine.specs.Row.{row_put, scan_in}

-- ---- 'Events try 1 to 7 in that order': the first that is given

-- 1 task not below n; 2 tick below the last accepted event's tick (equal is allowed); 3 1,000,000 events already accepted; then the rest
abbrev pub trying_in : List ℕ → ℕ → ℕ → ℕ → ℕ
trying_in w tick i rest = cond (known_in w i) (cond (ltb tick (tick_of w)) 2 (cond (leb 1000000 (accepted_of w)) 3 rest)) 1

-- '5: arrive less than one period after the last arrival (first arrival is free)', by its number in the words
abbrev pub early_in : ℕ → ℕ → ℕ → Bool
early_in arrival period tick = not (eqb arrival 0) && ltb tick (arrival - 1 + period)

-- '4: wrong state: arrive not absent', and 5
unfoldable pub arrive_number_in : List ℕ → ℕ → ℕ → ℕ
unfolding bit
arrive_number_in w tick i = trying_in w tick i (cond (absent_in w i) (cond (early_in (arrival_at w i) (period_at w i) tick) 5 0) 4)

-- '4: release or finish not plain'; '6: release or finish by a plain task not on a processor'
unfoldable pub finish_number_in : List ℕ → ℕ → ℕ → ℕ
unfolding bit left_in room_in
finish_number_in w tick i = trying_in w tick i (cond (bit (plain_of w) i) (cond (room_in w (left_in w) i) 0 6) 4)

-- and after these '7: release when the job has used its transactions'
unfoldable pub release_number_in : List ℕ → ℕ → ℕ → ℕ
unfolding finish_number_in
release_number_in w tick i =
    let first = finish_number_in w tick i in
    cond (eqb first 0) (cond (ltb (releases_at w i) (transactions_at w i)) 0 7) first

-- '4: commit not executing'
unfoldable pub commit_number_in : List ℕ → ℕ → ℕ → ℕ
unfolding bit
commit_number_in w tick i = trying_in w tick i (cond (bit (executing_of w) i) 0 4)

-- ---- the answers

-- what an event comes to: the words and the list after it, what is said, and how many are admitted
pub record Outcome : Type 0 where
  pub words : List ℕ
  pub list : List ℕ
  pub said : Said
  pub admitted : ℕ

-- what the caller is told of it
abbrev pub saying : Outcome → Reply
saying x = record { said = x.said; admitted = x.admitted }

-- 'A refused event changes no part of the session'
abbrev pub refused_in : List ℕ → List ℕ → ℕ → Outcome
refused_in w list k = record { words = w; list = list; said = No k; admitted = 0 }

-- an accepted event with no scan
abbrev pub still_in : Said → List ℕ → List ℕ → Outcome
still_in said w list = record { words = w; list = list; said = said; admitted = 0 }

-- an accepted event, 'and a scan follows'
abbrev pub scanning_in : Said → List ℕ → List ℕ → Outcome
scanning_in said w list =
    let x = scan_in w list in
    record { words = x.words; list = x.list; said = said; admitted = x.admitted }

-- one more event accepted, at this tick
abbrev pub stamped_in : List ℕ → ℕ → List ℕ
stamped_in w tick = set (set w 2 tick) 3 (accepted_of w + 1)

-- ---- arrive

-- 'arrive: absent becomes plain, releases 0, last arrival set.'
abbrev pub turns_plain : List ℕ → ℕ → ℕ → List ℕ
turns_plain w tick i =
    set (set (set (stamped_in w tick) 4 (with_bit (plain_of w) i)) (number_place i 3) (tick + 1)) (number_place i 4) 0

-- and its job gets its rank: who ranks above whom moves here, and nowhere else
unfoldable pub arrived_in : List ℕ → ℕ → ℕ → List ℕ
unfolding with_bit ranks_moved
arrived_in w tick i =
    let v = turns_plain w tick i in
    ranks_moved (set v (rank_place i) (rank_given v tick i)) i

-- an arrival, where no number refuses it
unfoldable pub arrive_in : List ℕ → List ℕ → ℕ → ℕ → Outcome
unfolding arrive_number_in arrived_in
arrive_in w list tick i =
    let number = arrive_number_in w tick i in
    cond (eqb number 0) (still_in Ok (arrived_in w tick i) list) (refused_in w list number)

-- ---- release

-- one more release, and plain no longer
abbrev pub begun_in : List ℕ → ℕ → ℕ → List ℕ
begun_in w tick i = set (set (stamped_in w tick) 4 (without_bit (plain_of w) i)) (number_place i 4) (releases_at w i + 1)

-- and its sets stand in their place
unfoldable pub released_in : List ℕ → ℕ → ℕ → List ℕ → List ℕ → List ℕ
unfolding without_bit sets_put
released_in w tick i reads writes = sets_put (begun_in w tick i) i reads writes

-- it runs
unfoldable pub runs_in : List ℕ → ℕ → List ℕ
unfolding with_bit
runs_in w i = set w 6 (with_bit (executing_of w) i)

-- a wait from this tick on, with both its counts 0
abbrev pub deferred_in : List ℕ → ℕ → ℕ → List ℕ
deferred_in w tick i = set (set (set (set w 5 (with_bit (waiting_of w) i)) (number_place i 5) tick) (number_place i 6) 0) (number_place i 7) 0

-- it waits so, at its place in the row
unfoldable pub waits_in : List ℕ → ℕ → ℕ → List ℕ
unfolding with_bit row_put
waits_in w tick i = row_put (deferred_in w tick i) i

-- 'It clashes with no executing transaction: it becomes executing. Otherwise it becomes waiting', 'and a scan follows.' Its sets stand in their place before the question is
-- asked, which is of those that execute, and so not of itself.
unfoldable pub release_accepted_in : List ℕ → List ℕ → ℕ → ℕ → List ℕ → List ℕ → Outcome
unfolding released_in runs_in waits_in blocked_in wait_said_in scan_in
release_accepted_in w list tick i reads writes =
    let v = released_in w tick i reads writes in
    cond (blocked_in v i) (scanning_in (wait_said_in v i) (waits_in v tick i) list) (still_in Run (runs_in v i) list)

-- a release, where no number refuses it
unfoldable pub release_in : List ℕ → List ℕ → ℕ → ℕ → List ℕ → List ℕ → Outcome
unfolding release_number_in release_accepted_in
release_in w list tick i reads writes =
    let number = release_number_in w tick i in
    cond (eqb number 0) (release_accepted_in w list tick i reads writes) (refused_in w list number)

-- ---- commit

-- the clash count of task j raised, and its retry count too where it ran
abbrev pub counts_raised : List ℕ → ℕ → Bool → List ℕ
counts_raised w j hadRun =
    set (set w (number_place j 6) (one_more (clashes_at w j))) (number_place j 7) (cond hadRun (one_more (retries_at w j)) (retries_at w j))

-- the one at place p of the row clashes with task i
abbrev pub hit_at : List ℕ → ℕ → ℕ → Bool
hit_at w i p = clash_in w i (row_task w p)

-- it ran: those that are busy, the plain and the executing tasks, and those before it in the row are fewer than m
abbrev pub ran_at : List ℕ → ℕ → ℕ → Bool
ran_at w busy p = ltb (busy + p) (m_of w)

-- where it clashes its counts are raised
abbrev pub raise_at : List ℕ → ℕ → ℕ → ℕ → List ℕ
raise_at w i busy p = cond (hit_at w i p) (counts_raised w (row_task w p) (ran_at w busy p)) w

-- so are those of the first p places, one after the other
unfoldable pub raised_in : List ℕ → ℕ → ℕ → ℕ → List ℕ
unfolding clash_in
raised_in w i busy zero = w
raised_in w i busy (suc p) = raise_at (raised_in w i busy p) i busy p

-- how many are busy: plain or executing
unfoldable pub busy_in : List ℕ → ℕ
unfolding ones
busy_in w = ones (plain_of w) + ones (executing_of w)

-- 'executing becomes plain', and its sets are gone
abbrev pub ended_in : List ℕ → ℕ → ℕ → List ℕ
ended_in w tick i =
    let v = stamped_in w tick in
    sets_put (set (set v 4 (with_bit (plain_of v) i)) 6 (without_bit (executing_of v) i)) i empty empty

-- 'First the retry count of every waiting transaction that clashes with the committed one rises by 1', which is the clash count now: all places of the row, and then the
-- task's own part
unfoldable pub committed_in : List ℕ → ℕ → ℕ → List ℕ
unfolding raised_in busy_in with_bit without_bit sets_put
committed_in w tick i = ended_in (raised_in w i (busy_in w) (row_held w)) tick i

-- a commit, where no number refuses it: 'then a scan follows.'
unfoldable pub commit_in : List ℕ → List ℕ → ℕ → ℕ → Outcome
unfolding commit_number_in committed_in scan_in
commit_in w list tick i =
    let number = commit_number_in w tick i in
    cond (eqb number 0) (scanning_in Ok (committed_in w tick i) list) (refused_in w list number)

-- ---- finish

-- 'finish: a plain task on a processor becomes absent'; its releases and its rank are 0 while it is
abbrev pub finished_in : List ℕ → ℕ → ℕ → List ℕ
finished_in w tick i = set (set (set (stamped_in w tick) 4 (without_bit (plain_of w) i)) (number_place i 4) 0) (rank_place i) 0

-- a finish, where no number refuses it: 'and a scan follows.'
unfoldable pub finish_in : List ℕ → List ℕ → ℕ → ℕ → Outcome
unfolding finish_number_in without_bit scan_in
finish_in w list tick i =
    let number = finish_number_in w tick i in
    cond (eqb number 0) (scanning_in Ok (finished_in w tick i) list) (refused_in w list number)

-- ---- any event, by its kind

unfoldable pub step_in : List ℕ → List ℕ → Event → Outcome
unfolding arrive_in release_in commit_in finish_in
step_in w list e =
    elim e.kind [
      | Arrive ↦ arrive_in w list e.tick e.task
      | Release ↦ release_in w list e.tick e.task e.reads e.writes
      | Commit ↦ commit_in w list e.tick e.task
      | Finish ↦ finish_in w list e.tick e.task
    ]
