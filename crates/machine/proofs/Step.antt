-- Each event on words that hold a session gives the answer of the rules' step, and leaves words that hold the session after it.
use Prim.Native.Nat.{ℕ, ◌≤◌, ◌<◌}
use mathlib.Core.Path.{◌≡◌, refl, sym, ap, subst, ◌∙◌}
use mathlib.Core.Logic.{◌≢◌}
use mathlib.Core.List.{List}
use mathlib.Core.Bool.{Bool, true, false, cond, false≢true}
use native.Mathlib.Nat.{lt_of_lt_of_le, le_of_eq}
use native.Mathlib.Omega.{arith}
use lib.Dec.{eqb, ltb}
use lib.ListN.{length}
use lib.Seq.{get_or-set_same, get_or-set_other}
use borrow.Author.Tests.{eqb-true}
use Rattle.rules.specs.declared.State.{State}
use Rattle.rules.specs.declared.State.TheVariants.{Absent, Plain, Waiting, Executing}
use Rattle.rules.specs.declared.Task.{Task}
use Rattle.rules.specs.declared.Session.{Session}
use Rattle.rules.specs.declared.Kind.TheVariants.{Arrive, Release, Commit, Finish}
use Rattle.rules.specs.declared.Event.{Event}
use Rattle.rules.specs.declared.Said.{Said}
use Rattle.rules.specs.declared.Said.TheVariants.{Ok, Run}
use Rattle.rules.specs.declared.Answer.{Answer}
use Rattle.rules.specs.Ranking.{by_rank, Strict, Stays}
use Rattle.rules.specs.Tasks.{is_absent, is_plain, is_waiting, is_executing, wait_of, task_at, state_at, waiting, sets_at, sets_of, no_task, in_state, with_task, stamped}
use Rattle.rules.specs.Room.{room, ran}
use Rattle.rules.specs.Contest.{blocked}
use Rattle.rules.specs.Scan.{scan}
use Rattle.rules.specs.Listed.{admission_at}
use Rattle.rules.specs.Events.{early, arrive_number, release_number, commit_number, finish_number, refused, still, scanning, arrived, arrive, released_into, begins, released, raised_state, raised_task, raised, wait_said, release_accepted, release, committed, commit, finished, finish, step}
use Rattle.rules.proofs.Laws.Numbers.{must, timely}
use Rattle.rules.proofs.Laws.Tasks.{task_replaced, task_other}
use Rattle.rules.proofs.Laws.Alike.{at_or_other, raised_size}
use Rattle.rules.proofs.Laws.InOrder.{scan_lists}
use Rattle.rules.proofs.Moves.{raises, raised_below}
use Rattle.rules.proofs.Ranking.{rank_strict_and_stays}
use Rattle.rules.proofs.Events.{absent_is, plain_is, executing_is}
use Rattle.machine.specs.Asked.{wait_said_in}
use Rattle.machine.specs.Events.{Outcome, refused_in, still_in, scanning_in, arrived_in, arrive_in, released_in, runs_in, waits_in, release_accepted_in, release_in, committed_in, commit_in, finished_in, finish_in, step_in}
use Rattle.machine.specs.Holds.{Holds}
use Rattle.machine.specs.Theorem.{Answers, StepHolds}
use Rattle.machine.proofs.Laws.Choices.{both}
use Rattle.machine.proofs.Numbers.{arrive_number_lem, release_number_lem, commit_number_lem, finish_number_lem}
use Rattle.machine.proofs.Scan.{ScanAgrees, scan_holds}
use Rattle.machine.proofs.Turns.{arrived_holds, finished_holds}
use Rattle.machine.proofs.Release.{released_blocked, released_said, runs_holds, waits_holds}
use Rattle.machine.proofs.Commit.{committed_holds}

-- a wait whose counts are raised goes on since the same tick
raised_since : (b hadRun : Bool) (t : Task)
    → (is_waiting (cond b (raised_task hadRun t) t).state ≡ is_waiting t.state)
    × ((wait_of (cond b (raised_task hadRun t) t).state).release ≡ (wait_of t.state).release)
raised_since false hadRun t = (refl, refl)
raised_since true hadRun t = go t.state
  where
    go : (state : State)
        → (is_waiting (raised_state hadRun state) ≡ is_waiting state) × ((wait_of (raised_state hadRun state)).release ≡ (wait_of state).release)
    go Absent = (refl, refl)
    go Plain = (refl, refl)
    go (Waiting v) = (refl, refl)
    go Executing = (refl, refl)

-- the ranking is strict, and stays while a job is present
strict : Strict by_rank
strict = rank_strict_and_stays.0

stays : Stays by_rank
stays = rank_strict_and_stays.1

module _ (w list : List ℕ) (s : Session) (e : Event) (size : length list ≡ 64) (holds : Holds by_rank w s) where
  abbrev tick : ℕ
  tick = e.tick

  abbrev i : ℕ
  i = e.task

  -- what the words come to is what the rules come to
  abbrev Comes : Outcome → Answer → Type 0
  Comes x a = Answers s e x a × Holds by_rank x.words a.session

  -- ---- the three ways an event goes

  -- it is refused
  refused_comes : (k : ℕ) → Comes (refused_in w list k) (refused s k)
  refused_comes k =
      (record { said = refl; admitted = refl; list = λ j l. absurd (omega arith); since = λ j l. absurd (omega arith) }, holds)

  -- it is accepted with no scan
  still_comes : (said : Said) (v : List ℕ) (s' : Session) → Holds by_rank v s' → Comes (still_in said v list) (still said s')
  still_comes said v s' after =
      (record { said = refl; admitted = refl; list = λ j l. absurd (omega arith); since = λ j l. absurd (omega arith) }, after)

  -- whoever waits before the scan waits since the tick that is told
  abbrev Since : Session → Type 0
  Since s' = (j : ℕ) → j < s'.n → waiting s' j ≡ true → (wait_of (state_at s' j)).release ≡ cond (waiting s j) (wait_of (state_at s j)).release tick

  -- task i by itself, and every other waits as it did, since the same tick
  since_all : (s' : Session)
      → (waiting s' i ≡ true → (wait_of (state_at s' i)).release ≡ cond (waiting s i) (wait_of (state_at s i)).release tick)
      → ((j : ℕ) → j < s'.n → j ≢ i → (waiting s' j ≡ waiting s j) × ((wait_of (state_at s' j)).release ≡ (wait_of (state_at s j)).release)) → Since s'
  since_all s' own others =
      at_or_other i
      (λ (j : ℕ). j < s'.n → waiting s' j ≡ true → (wait_of (state_at s' j)).release ≡ cond (waiting s j) (wait_of (state_at s j)).release tick)
      (λ l. own)
      (λ j d l is.
      let same = others j l d in
      same.1 ∙ sym (ap (λ (b : Bool). cond b (wait_of (state_at s j)).release tick) (sym same.0 ∙ is)))

  -- one that is as it was
  unchanged : (t u : Task) → u ≡ t → (is_waiting u.state ≡ is_waiting t.state) × ((wait_of u.state).release ≡ (wait_of t.state).release)
  unchanged t u same = (ap (λ (x : Task). is_waiting x.state) same, ap (λ (x : Task). (wait_of x.state).release) same)

  -- a task is in the table
  stands : (j : ℕ) → j < s.n → j < length s.tasks
  stands j l = omega (arith, holds.table.tasks, holds.table.few)

  -- it is accepted, and a scan follows
  scanning_comes : (said said' : Said) (v : List ℕ) (s' : Session) → said ≡ said' → s'.m ≤ 16 → Since s' → Holds by_rank v s'
      → Comes (scanning_in said v list) (scanning by_rank said' s')
  scanning_comes said said' v s' same few since after = (
    record {
      said = same;
      admitted = agrees.admitted;
      list = agrees.listed;
      since = λ k l.
          let listed : k < (scan by_rank s').admitted.count = lt_of_lt_of_le l (le_of_eq agrees.admitted) in
          agrees.since k l
          ∙ since (admission_at (scan by_rank s').admitted k).task ((scan_lists by_rank s' few).below k listed) ((scan_lists by_rank s' few).waited k listed);
    },
    agrees.holds,
  )
    where
      agrees : ScanAgrees by_rank v list s'
      agrees = scan_holds by_rank strict stays v list s' size few after

  -- it is accepted where its number, the same in both, is 0
  by_number : (k k' : ℕ) (x : Outcome) (a : Answer) → k ≡ k' → (k' ≡ 0 → Comes x a)
      → Comes (cond (eqb k 0) x (refused_in w list k)) (cond (eqb k' 0) a (refused s k'))
  by_number k k' x a same accepts = rw same (both Comes refl (λ z. accepts (eqb-true k' 0 z)) (λ z. refused_comes k'))

  -- ---- arrive

  -- one whose number is 0
  arrive_accepts : arrive_number s tick i ≡ 0
      → Comes (still_in Ok (arrived_in w tick i) list) (still Ok (with_task (stamped s tick) i (arrived s.mode (task_at s i) tick)))
  unfolding arrive_number
  arrive_accepts z =
      let late : ℕ = cond (early (task_at s i).arrival (task_at s i).terms.period tick) 5 0 in
      let ok = timely s tick i (cond (is_absent (state_at s i)) late 4) z in
      still_comes Ok (arrived_in w tick i) (with_task (stamped s tick) i (arrived s.mode (task_at s i) tick))
      (arrived_holds w s holds tick i ok.below
      (absent_is (state_at s i) (must (is_absent (state_at s i)) late 4 (omega arith) ok.rest_zero).0))

  -- any
  arrive_comes : Comes (arrive_in w list tick i) (arrive s tick i)
  unfolding arrive_in arrive
  arrive_comes = by_number _ _ _ _ (arrive_number_lem by_rank w s holds.table tick i) arrive_accepts

  -- ---- finish

  -- the session after a finish, before its scan
  abbrev finishes : Session
  finishes = with_task (stamped s tick) i (finished (task_at s i))

  -- whoever waits then waited before
  since_finish : i < s.n → Since finishes
  since_finish below =
      since_all finishes
      (λ is. absurd (false≢true (sym (ap (λ (t : Task). is_waiting t.state) (task_replaced (stamped s tick) i (finished (task_at s i)) (stands i below))) ∙ is)))
      (λ j l d. unchanged (task_at s j) (task_at finishes j) (task_other (stamped s tick) i j (finished (task_at s i)) d))

  -- one whose number is 0
  finish_accepts : finish_number by_rank s tick i ≡ 0 → Comes (scanning_in Ok (finished_in w tick i) list) (scanning by_rank Ok finishes)
  unfolding finish_number
  finish_accepts z =
      let rest : ℕ = cond (is_plain (state_at s i)) (cond (room by_rank s i) 0 6) 4 in
      let ok = timely s tick i rest z in
      scanning_comes Ok Ok (finished_in w tick i) finishes refl ok.m_high (since_finish ok.below)
      (finished_holds by_rank w s holds tick i ok.below
      (plain_is (state_at s i) (must (is_plain (state_at s i)) (cond (room by_rank s i) 0 6) 4 (omega arith) ok.rest_zero).0))

  -- any
  finish_comes : Comes (finish_in w list tick i) (finish by_rank s tick i)
  unfolding finish_in finish
  finish_comes = by_number _ _ _ _ (finish_number_lem by_rank w s holds.table tick i) finish_accepts

  -- ---- commit

  -- the tasks before task i is put among them
  abbrev up_tasks : List Task
  up_tasks = raised (ran by_rank s) s (sets_at s i) s.n

  -- whoever waits then waited before, since the same tick
  since_commit : i < s.n → Since (committed by_rank s tick i)
  since_commit below =
      since_all (committed by_rank s tick i)
      (λ is. absurd (false≢true (sym (ap (λ (t : Task). is_waiting t.state)
      (get_or-set_same up_tasks i (in_state (task_at s i) Plain) no_task (lt_of_lt_of_le (stands i below) (le_of_eq (sym (raised_size (ran by_rank s) s (sets_at s i) s.n)))))) ∙ is)))
      (λ j l d.
      subst (λ (t : Task). (is_waiting t.state ≡ waiting s j) × ((wait_of t.state).release ≡ (wait_of (state_at s j)).release))
      (sym (get_or-set_other up_tasks i j (in_state (task_at s i) Plain) no_task d
      ∙ raised_below (ran by_rank s) s (sets_at s i) s.n j (omega (arith, holds.table.tasks, holds.table.few)) l))
      (raised_since (raises s (sets_at s i) j) (ran by_rank s j) (task_at s j)))

  -- one whose number is 0
  commit_accepts : commit_number s tick i ≡ 0 → Comes (scanning_in Ok (committed_in w tick i) list) (scanning by_rank Ok (committed by_rank s tick i))
  unfolding commit_number
  commit_accepts z =
      let rest : ℕ = cond (is_executing (state_at s i)) 0 4 in
      let ok = timely s tick i rest z in
      scanning_comes Ok Ok (committed_in w tick i) (committed by_rank s tick i) refl ok.m_high (since_commit ok.below)
      (committed_holds by_rank stays w s holds tick i ok.below
      (executing_is (state_at s i) (must (is_executing (state_at s i)) 0 4 (omega arith) ok.rest_zero).0))

  -- any
  commit_comes : Comes (commit_in w list tick i) (commit by_rank s tick i)
  unfolding commit_in commit
  commit_comes = by_number _ _ _ _ (commit_number_lem by_rank w s holds.table tick i) commit_accepts

  -- ---- release

  -- the words after a release, before it runs or waits
  abbrev words : List ℕ
  words = released_in w tick i e.reads e.writes

  -- the session after it, in a state
  abbrev into : State → Session
  into = released_into s tick i e.reads e.writes

  module _ (below : i < s.n) (was : state_at s i ≡ Plain) (few : s.m ≤ 16) where
    -- whoever waits then waited before, or is task i, which waits from this tick on
    since_release : Since (into (begins tick))
    since_release =
        since_all (into (begins tick))
        (λ is.
        ap (λ (t : Task). (wait_of t.state).release) (task_replaced (stamped s tick) i (released (task_at s i) (begins tick)) (stands i below))
        ∙ sym (ap (λ (state : State). cond (is_waiting state) (wait_of state).release tick) was))
        (λ j l d. unchanged (task_at s j) (task_at (into (begins tick)) j) (task_other (stamped s tick) i j (released (task_at s i) (begins tick)) d))

    -- it waits
    waits_comes : blocked s (sets_of e.reads e.writes) ≡ true
        → Comes (scanning_in (wait_said_in words i) (waits_in words tick i) list)
        (scanning by_rank (wait_said by_rank s (sets_of e.reads e.writes)) (into (begins tick)))
    waits_comes b =
        scanning_comes (wait_said_in words i) (wait_said by_rank s (sets_of e.reads e.writes)) (waits_in words tick i) (into (begins tick))
        (released_said by_rank stays w s holds tick i below was e.reads e.writes b) few since_release
        (waits_holds by_rank stays w s holds tick i below was e.reads e.writes strict)

    -- it runs
    runs_comes : Comes (still_in Run (runs_in words i) list) (still Run (into Executing))
    runs_comes = still_comes Run (runs_in words i) (into Executing) (runs_holds by_rank stays w s holds tick i below was e.reads e.writes)

    -- a release that is accepted runs or waits in both
    accepted_comes : Comes (release_accepted_in w list tick i e.reads e.writes) (release_accepted by_rank s tick i e.reads e.writes)
    unfolding release_accepted_in release_accepted
    accepted_comes = both Comes (released_blocked by_rank stays w s holds tick i below was e.reads e.writes) waits_comes (λ b. runs_comes)

  -- one whose number is 0
  release_accepts : release_number by_rank s tick i ≡ 0
      → Comes (release_accepted_in w list tick i e.reads e.writes) (release_accepted by_rank s tick i e.reads e.writes)
  unfolding release_number
  release_accepts z =
      let used : ℕ = cond (room by_rank s i) (cond (ltb (task_at s i).releases (task_at s i).terms.transactions) 0 7) 6 in
      let ok = timely s tick i (cond (is_plain (state_at s i)) used 4) z in
      accepted_comes ok.below
      (plain_is (state_at s i) (must (is_plain (state_at s i)) used 4 (omega arith) ok.rest_zero).0)
      ok.m_high

  -- any
  release_comes : Comes (release_in w list tick i e.reads e.writes) (release by_rank s tick i e.reads e.writes)
  unfolding release_in release
  release_comes = by_number _ _ _ _ (release_number_lem by_rank w s holds.table tick i) release_accepts

-- any event
pub step_holds : StepHolds
unfolding step step_in
step_holds w list s e size holds =
    elim e.kind as (λ k. Comes w list s e size holds
    (elim k [
      | Arrive ↦ arrive_in w list e.tick e.task
      | Release ↦ release_in w list e.tick e.task e.reads e.writes
      | Commit ↦ commit_in w list e.tick e.task
      | Finish ↦ finish_in w list e.tick e.task
    ])
    (elim k [
      | Arrive ↦ arrive s e.tick e.task
      | Release ↦ release by_rank s e.tick e.task e.reads e.writes
      | Commit ↦ commit by_rank s e.tick e.task
      | Finish ↦ finish by_rank s e.tick e.task
    ])) [
      | Arrive ↦ arrive_comes w list s e size holds
      | Release ↦ release_comes w list s e size holds
      | Commit ↦ commit_comes w list s e size holds
      | Finish ↦ finish_comes w list s e size holds
    ]
