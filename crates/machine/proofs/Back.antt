-- Words that hold a session, read back: the tasks below n are those of the words, which are the session's, and what stands past n was the same before.
use Prim.Native.Nat.{ℕ, zero, suc, ◌+◌, ◌-◌, ◌*◌, ◌/◌, ◌%◌, ◌^◌, ◌≤◌, ◌<◌, min}
use mathlib.Core.Path.{◌≡◌, refl, sym, ap, ◌∙◌}
use mathlib.Core.Logic.{◌⊎◌, inl, inr}
use mathlib.Core.List.{List}
use mathlib.Core.Bool.{Bool, true, ◌&&◌}
use native.Mathlib.Nat.{ne_of_lt, ne_of_gt, not-suc-le-zero}
use native.Mathlib.Omega.{arith}
use lib.Dec.{ltb}
use lib.ListN.{length, get_or, set, length-set}
use lib.Seq.{get_or-set_same, get_or-set_other, ext_get_or}
use borrow.Author.Tests.{lt-ltb, ne_eqb}
use Rattle.objects.specs.Objects.{bit}
use Rattle.objects.proofs.Laws.Below.{below_suc, below_or_from}
use Rattle.rules.specs.declared.Wait.{Wait}
use Rattle.rules.specs.declared.State.{State}
use Rattle.rules.specs.declared.State.TheVariants.{Absent, Plain, Waiting, Executing}
use Rattle.std.specs.Prelude.{Option, None, Some}
use Rattle.rules.specs.declared.Task.{Task}
use Rattle.rules.specs.declared.Session.{Session}
use Rattle.rules.specs.Ranking.{Ranking}
use Rattle.rules.specs.Tasks.{is_plain, is_waiting, is_executing, wait_of, no_task, task_at, state_at, with_groups}
use Rattle.rules.proofs.Laws.Rows.{groups_length, groups_other, groups_same}
use Rattle.machine.specs.Places.{m_of, n_of, tick_of, accepted_of, plain_of, waiting_of, executing_of, mode_of, set_place, release_at, clashes_at, retries_at, priority_at, period_at, transactions_at, arrival_at, releases_at}
use Rattle.machine.specs.Opened.{arrival_code, arrival_back, wait_back, state_back, task_back, four_at, tasks_back, read_back}
use Rattle.machine.specs.Holds.{WaitHeld, TaskHeld, Holds}
use Rattle.machine.specs.Theorem.{Fits, Sized, Beside, ReadsBack}

-- ---- a table whose first places are written one after the other

-- place j of such a table is what was written there, and from k on what stood there before
pub tasks_written : (f : ℕ → List Task) (x : ℕ → Task) → ((k : ℕ) → f (suc k) ≡ set (f k) k (x k)) → length (f 0) ≡ 64
    → (k : ℕ) → k ≤ 64
    → (length (f k) ≡ 64) × ((j : ℕ) → j < k → get_or (f k) j no_task ≡ x j) × ((j : ℕ) → k ≤ j → get_or (f k) j no_task ≡ get_or (f 0) j no_task)
tasks_written f x next size zero h = (size, λ j l. absurd (not-suc-le-zero l), λ j l. refl)
tasks_written f x next size (suc k) h =
    let (long, below, past) = tasks_written f x next size k (omega arith) in
    rw (next k) (
      length-set (f k) k (x k) ∙ long,
      λ j l. go j long below (below_suc j k l),
      λ j l. get_or-set_other (f k) k j (x k) no_task (ne_of_gt l) ∙ past j (omega arith),
    )
  where
    go : (j : ℕ) → length (f k) ≡ 64 → ((j : ℕ) → j < k → get_or (f k) j no_task ≡ x j) → (j ≡ k) ⊎ (j < k) → get_or (set (f k) k (x k)) j no_task ≡ x j
    go j long below (inl e) = rw e (get_or-set_same (f k) k (x k) no_task (omega arith))
    go j long below (inr l) = get_or-set_other (f k) k j (x k) no_task (ne_of_lt l) ∙ below j l

-- the same of a row of sets, task by task
pub rows_written : (f : ℕ → List ℕ) (x : ℕ → List ℕ) → ((k : ℕ) → f (suc k) ≡ with_groups (f k) k (x k)) → length (f 0) ≡ 256
    → (k : ℕ) → k ≤ 64
    → (length (f k) ≡ 256) × ((j g : ℕ) → j < k → g < 4 → get_or (f k) (j * 4 + g) 0 ≡ get_or (x j) g 0)
    × ((j g : ℕ) → k ≤ j → g < 4 → get_or (f k) (j * 4 + g) 0 ≡ get_or (f 0) (j * 4 + g) 0)
rows_written f x next size zero h = (size, λ j g l. absurd (not-suc-le-zero l), λ j g l lg. refl)
rows_written f x next size (suc k) h =
    let (long, below, past) = rows_written f x next size k (omega arith) in
    rw (next k) (
      groups_length (f k) k (x k) ∙ long,
      λ j g l lg. go j g lg long below (below_suc j k l),
      λ j g l lg. groups_other (f k) k (x k) j g (ne_of_gt l) lg ∙ past j g (omega arith) lg,
    )
  where
    go : (j g : ℕ) → g < 4 → length (f k) ≡ 256 → ((j g : ℕ) → j < k → g < 4 → get_or (f k) (j * 4 + g) 0 ≡ get_or (x j) g 0) → (j ≡ k) ⊎ (j < k)
        → get_or (with_groups (f k) k (x k)) (j * 4 + g) 0 ≡ get_or (x j) g 0
    go j g lg long below (inl e) = rw e (groups_same (f k) k (x k) g long h lg)
    go j g lg long below (inr l) = groups_other (f k) k (x k) j g (ne_of_lt l) lg ∙ below j g l lg

-- ---- a task

-- a last arrival, from its number
arrival_is : (a : Option ℕ) → ((tick : ℕ) → a ≡ Some tick → tick < 2 ^ 32) → arrival_back (arrival_code a) ≡ a
arrival_is None fits = refl
arrival_is (Some tick) fits =
    let l = fits tick refl in
    let back : (tick + 1 - 1) % 4294967296 ≡ tick = omega arith in
    rw (ne_eqb (tick + 1) 0 (omega arith)) (ap Some back)

-- a wait, from its numbers
wait_is : (w : List ℕ) (i : ℕ) (v : Wait) → WaitHeld w i v → v.release < 2 ^ 32 → v.clashes < 2 ^ 32 → v.retries < 2 ^ 32 → wait_back w i ≡ v
wait_is w i v held a b c =
    let p : release_at w i % 4294967296 ≡ v.release = omega (arith, held.release) in
    let q : clashes_at w i % 4294967296 ≡ v.clashes = omega (arith, held.clashes) in
    let r : retries_at w i % 4294967296 ≡ v.retries = omega (arith, held.retries) in
    λ k. record { release = p k; clashes = q k; retries = r k }

-- a state, from the three bits
state_is : (w : List ℕ) (i : ℕ) (state : State) → bit (plain_of w) i ≡ is_plain state → bit (waiting_of w) i ≡ is_waiting state
    → bit (executing_of w) i ≡ is_executing state → (is_waiting state ≡ true → wait_back w i ≡ wait_of state) → state_back w i ≡ state
unfolding state_back
state_is w i Absent p q r wait = rw (p, q, r)
state_is w i Plain p q r wait = rw p
state_is w i (Waiting v) p q r wait = rw (p, q) (ap Waiting (wait refl))
state_is w i Executing p q r wait = rw (p, q, r)

-- below n a bit says the state alone
within_is : (n j : ℕ) (b : Bool) → j < n → (ltb j n && b) ≡ b
within_is n j b l = rw (lt-ltb j n l)

module _ (rank : Ranking) (w : List ℕ) (s : Session) (holds : Holds rank w s) (fits : Fits s) where
  -- a task below n is as the words have it
  task_is : (i : ℕ) → i < s.n → task_back w i ≡ task_at s i
  unfolding task_back
  task_is i l =
      let held : TaskHeld w i (task_at s i) = holds.table.numbers i l in
      let l64 : i < 64 = omega (arith, holds.table.few) in
      let a : priority_at w i % 65536 ≡ (task_at s i).terms.priority = omega (arith, held.priority, fits.priority i) in
      let b : period_at w i % 4294967296 ≡ (task_at s i).terms.period = omega (arith, held.period, fits.period i) in
      let c : transactions_at w i % 256 ≡ (task_at s i).terms.transactions = omega (arith, held.transactions, fits.transactions i) in
      let d : releases_at w i % 256 ≡ (task_at s i).releases = omega (arith, held.releases, fits.releases i) in
      let e : arrival_back (arrival_at w i) ≡ (task_at s i).arrival = ap arrival_back held.arrival ∙ arrival_is (task_at s i).arrival (fits.arrival i) in
      let f : state_back w i ≡ state_at s i =
      state_is w i (state_at s i)
      (holds.table.plains i l64 ∙ within_is s.n i (is_plain (state_at s i)) l)
      (holds.table.waits i l64 ∙ within_is s.n i (is_waiting (state_at s i)) l)
      (holds.table.executes i l64 ∙ within_is s.n i (is_executing (state_at s i)) l)
      (λ waits. wait_is w i (wait_of (state_at s i)) (held.wait waits) (fits.release i) (fits.clashes i) (fits.retries i)) in
      λ k. record { terms = record { priority = a k; period = b k; transactions = c k }; state = f k; arrival = e k; releases = d k; rank = held.rank k }

-- ---- the session

-- what the loop leaves alone
pub record HeadBack (w : List ℕ) (t : Session) : Type 0 where
  pub m : t.m ≡ m_of w % 256
  pub n : t.n ≡ n_of w % 256
  pub mode : t.mode ≡ mode_of w % 256
  pub tick : t.tick ≡ tick_of w % 4294967296
  pub accepted : t.accepted ≡ accepted_of w % 4294967296

-- the session's own numbers stand from the first step on
head_back : (w : List ℕ) (t : Session) (k : ℕ) → HeadBack w (tasks_back w t k)
unfolding tasks_back
head_back w t zero = record { m = refl; n = refl; mode = refl; tick = refl; accepted = refl }
head_back w t (suc k) =
    let h = head_back w t k in
    record { m = h.m; n = h.n; mode = h.mode; tick = h.tick; accepted = h.accepted }

-- four words from a place on, one by one
pub four_at_lem : (w : List ℕ) (at g : ℕ) → g < 4 → get_or (four_at w at) g 0 ≡ get_or w (at + g) 0
four_at_lem w at zero l = ap (λ (p : ℕ). get_or w p 0) (let e : at ≡ at + 0 = omega arith in e)
four_at_lem w at (suc zero) l = refl
four_at_lem w at (suc (suc zero)) l = refl
four_at_lem w at (suc (suc (suc zero))) l = refl
four_at_lem w at (suc (suc (suc (suc g)))) l = absurd (omega arith)

-- two rows of sets are the same if they are task by task
same_row : (a b : List ℕ) → length a ≡ 256 → length b ≡ 256 → ((j g : ℕ) → j < 64 → g < 4 → get_or a (j * 4 + g) 0 ≡ get_or b (j * 4 + g) 0) → a ≡ b
same_row a b la lb same =
    ext_get_or 0 a b (la ∙ sym lb)
    (λ p l.
    let e : p / 4 * 4 + p % 4 ≡ p = omega arith in
    rw e at (same (p / 4) (p % 4) (omega arith) (omega arith)))

module _ (rank : Ranking) (w : List ℕ) (s t : Session) (holds : Holds rank w s) (fits : Fits s) (sized : Sized t) (beside : Beside s t) where
  -- n tasks are read back
  n_back : min (n_of w) 64 ≡ s.n
  n_back = omega (arith, holds.table.n, holds.table.few)

  -- they are the session's, and those past n are too
  tasks_back_lem : (tasks_back w t s.n).tasks ≡ s.tasks
  unfolding tasks_back
  tasks_back_lem =
      let (long, below, past) = tasks_written (λ k. (tasks_back w t k).tasks) (task_back w) (λ k. refl) sized.tasks s.n holds.table.few in
      ext_get_or no_task (tasks_back w t s.n).tasks s.tasks (long ∙ sym holds.table.tasks)
      (λ i l. go i below past (below_or_from i s.n))
    where
      go : (i : ℕ) → ((j : ℕ) → j < s.n → get_or (tasks_back w t s.n).tasks j no_task ≡ task_back w j)
          → ((j : ℕ) → s.n ≤ j → get_or (tasks_back w t s.n).tasks j no_task ≡ task_at t j) → (i < s.n) ⊎ (s.n ≤ i)
          → get_or (tasks_back w t s.n).tasks i no_task ≡ task_at s i
      go i below past (inl l) = below i l ∙ task_is rank w s holds fits i l
      go i below past (inr l) = past i l ∙ beside.tasks i l

  -- a row of sets is the session's, where the words have it below n, and the other session past n
  row_back : (f : ℕ → List ℕ) (x : ℕ → List ℕ) (row : List ℕ) → ((k : ℕ) → f (suc k) ≡ with_groups (f k) k (x k)) → length (f 0) ≡ 256 → length row ≡ 256
      → ((j g : ℕ) → j < s.n → g < 4 → get_or (x j) g 0 ≡ get_or row (j * 4 + g) 0) → ((p : ℕ) → s.n * 4 ≤ p → get_or (f 0) p 0 ≡ get_or row p 0)
      → f s.n ≡ row
  row_back f x row next size full here there =
      let (long, below, past) = rows_written f x next size s.n holds.table.few in
      same_row (f s.n) row long full
      (λ j g lj lg.
      elim (below_or_from j s.n) [
        | inl l ↦ below j g l lg ∙ here j g l lg
        | inr l ↦ past j g l lg ∙ there (j * 4 + g) (omega arith)
      ])

  -- so are the read sets
  reads_is : (tasks_back w t s.n).reads ≡ s.reads
  unfolding tasks_back
  reads_is =
      row_back (λ k. (tasks_back w t k).reads) (λ k. four_at w (set_place k 0)) s.reads (λ k. refl) sized.reads holds.table.reads
      (λ j g l lg. four_at_lem w (set_place j 0) g lg ∙ (holds.table.sets j l g lg).0)
      beside.reads

  -- and the write sets
  writes_is : (tasks_back w t s.n).writes ≡ s.writes
  unfolding tasks_back
  writes_is =
      row_back (λ k. (tasks_back w t k).writes) (λ k. four_at w (set_place k 4)) s.writes (λ k. refl) sized.writes holds.table.writes
      (λ j g l lg. four_at_lem w (set_place j 4) g lg ∙ (holds.table.sets j l g lg).1)
      beside.writes

  -- so all of it is the session
  back_is : tasks_back w t s.n ≡ s
  back_is =
      let h = head_back w t s.n in
      let a : (tasks_back w t s.n).m ≡ s.m = h.m ∙ (let e : m_of w % 256 ≡ s.m = omega (arith, holds.table.m, fits.m) in e) in
      let b : (tasks_back w t s.n).n ≡ s.n = h.n ∙ (let e : n_of w % 256 ≡ s.n = omega (arith, holds.table.n, fits.n) in e) in
      let f : (tasks_back w t s.n).mode ≡ s.mode = h.mode ∙ (let e : mode_of w % 256 ≡ s.mode = omega (arith, holds.table.mode, fits.mode) in e) in
      let c : (tasks_back w t s.n).tick ≡ s.tick = h.tick ∙ (let e : tick_of w % 4294967296 ≡ s.tick = omega (arith, holds.table.tick, fits.tick) in e) in
      let d : (tasks_back w t s.n).accepted ≡ s.accepted =
      h.accepted ∙ (let e : accepted_of w % 4294967296 ≡ s.accepted = omega (arith, holds.table.accepted, fits.accepted) in e) in
      λ k. record { m = a k; n = b k; mode = f k; tick = c k; accepted = d k; tasks = tasks_back_lem k; reads = reads_is k; writes = writes_is k }

-- words that hold a session give it back
pub reads_back : ReadsBack
unfolding read_back
reads_back rank w s t holds fits sized beside =
    ap (tasks_back w t) (n_back rank w s t holds fits sized beside) ∙ back_is rank w s t holds fits sized beside
