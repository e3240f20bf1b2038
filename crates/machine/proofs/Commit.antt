-- A commit: words that hold a session hold the one after it, before the scan. First the counts of those that wait are raised, then the task's own part is changed.
use Prim.Native.Nat.{ℕ, ◌+◌, ◌≤◌, ◌<◌}
use mathlib.Core.Path.{◌≡◌, refl, sym, ap, ap₂, subst, ◌∙◌}
use mathlib.Core.List.{List}
use mathlib.Core.Bool.{Bool, true, false, cond, not, ◌&&◌, false≢true}
use native.Mathlib.Nat.{lt_of_lt_of_le, le_of_eq}
use native.Mathlib.Omega.{arith}
use lib.Dec.{ltb}
use lib.ListN.{length, get_or, set, length-set}
use borrow.Author.Tests.{lt-ltb, le-ltb}
use Rattle.objects.specs.Below.{count}
use Rattle.objects.specs.Objects.{bit, clash}
use Rattle.rules.specs.declared.Wait.{Wait}
use Rattle.rules.specs.declared.State.{State}
use Rattle.rules.specs.declared.State.TheVariants.{Absent, Plain, Waiting, Executing}
use Rattle.rules.specs.declared.Task.{Task}
use Rattle.rules.specs.declared.Session.{Session}
use Rattle.rules.specs.Ranking.{Ranking, Stays}
use Rattle.rules.specs.Tasks.{is_absent, is_plain, is_waiting, is_executing, wait_of, task_at, state_at, plain, waiting, executing, sets_at, in_state, with_tasks, with_task, with_sets, stamped}
use Rattle.rules.specs.Room.{rank_at, waiting_above, ran}
use Rattle.rules.specs.Events.{one_more, raised_state, raised_task, raised, empty, committed}
use Rattle.rules.proofs.Laws.Alike.{Alike, alike_terms, alike_arrival, alike_releases, alike_rank, alike_state, alike_same, raised_size, raised_alike}
use Rattle.rules.proofs.Moves.{raises, raised_below}
use Rattle.machine.specs.Bits.{with_bit, without_bit}
use Rattle.machine.specs.Places.{plain_of, waiting_of, executing_of, row_size, row_at, row_held, row_task, release_at, clashes_at, retries_at, rank_place, number_place, set_place, sets_in}
use Rattle.machine.specs.Asked.{clash_in}
use Rattle.machine.specs.Events.{stamped_in, hit_at, ran_at, raised_in, busy_in, ended_in, committed_in}
use Rattle.machine.specs.Holds.{WaitHeld, TaskHeld, within, Tabled, Holds}
use Rattle.machine.proofs.Above.{ended_above}
use Rattle.machine.proofs.Laws.Places.{chain}
use Rattle.machine.proofs.Laws.Counting.{row_counted}
use Rattle.machine.proofs.Laws.Agree.{count_within, waiting_bit, busy_agrees, clash_agrees}
use Rattle.machine.proofs.Laws.Gapped.{ordered_stays}
use Rattle.machine.proofs.Laws.Changed.{numbers_like, sets_stay, sets_meet, Ranks, ranks_stay, Leaves, moved_ranks, Edit, edit_holds}
use Rattle.machine.proofs.Laws.Raised.{raised_aside, raised_length, aside_low, aside_number, aside_set, raised_at}
use Rattle.machine.proofs.Laws.Edited.{leaves_stamped, leaves_head, leaves_sets, bit_more, bit_less, bit_same, moved_sets, moved_put}

-- ---- a wait that is raised or not

-- the words hold it where its tick is as it was and its counts are raised or not
raised_held : (v : List ℕ) (j : ℕ) (b hadRun : Bool) (t : Task) → is_waiting t.state ≡ true → release_at v j ≡ (wait_of t.state).release
    → clashes_at v j ≡ cond b (one_more (wait_of t.state).clashes) (wait_of t.state).clashes
    → retries_at v j ≡ cond b (cond hadRun (one_more (wait_of t.state).retries) (wait_of t.state).retries) (wait_of t.state).retries
    → WaitHeld v j (wait_of (cond b (raised_task hadRun t) t).state)
raised_held v j false hadRun t waits release clashes retries = record { release = release; clashes = clashes; retries = retries }
raised_held v j true hadRun t waits release clashes retries = go t.state waits release clashes retries
  where
    go : (state : State) → is_waiting state ≡ true → release_at v j ≡ (wait_of state).release → clashes_at v j ≡ one_more (wait_of state).clashes
        → retries_at v j ≡ cond hadRun (one_more (wait_of state).retries) (wait_of state).retries
        → WaitHeld v j (wait_of (raised_state hadRun state))
    go Absent e a b c = absurd (false≢true e)
    go Plain e a b c = absurd (false≢true e)
    go (Waiting x) e a b c = record { release = a; clashes = b; retries = c }
    go Executing e a b c = absurd (false≢true e)

module _ (rank : Ranking) (stays : Stays rank) (w : List ℕ) (s : Session) (holds : Holds rank w s) (i : ℕ) (below : i < s.n) where
  abbrev table : Tabled rank w s
  table = holds.table

  -- ---- the session with the raised counts

  -- the tasks with the counts of those that clash raised
  abbrev up_tasks : List Task
  up_tasks = raised (ran rank s) s (sets_at s i) s.n

  -- the session with them
  abbrev up_session : Session
  up_session = with_tasks s up_tasks

  -- the tasks stand in the table
  fits : s.n ≤ length s.tasks
  fits = omega (arith, table.few, table.tasks)

  -- but for the counts each task is as it was
  alike : (j : ℕ) → Alike (task_at s j) (task_at up_session j)
  alike = raised_alike (ran rank s) s (sets_at s i) s.n fits

  -- each is in the state that it was in
  state_same : (f : State → Bool) → ((x y : Wait) → f (Waiting x) ≡ f (Waiting y)) → (j : ℕ) → f (state_at up_session j) ≡ f (state_at s j)
  state_same f h j = alike_state f h (task_at s j) (task_at up_session j) (alike j)

  -- below n too
  within_same : (f : State → Bool) → ((x y : Wait) → f (Waiting x) ≡ f (Waiting y)) → (j : ℕ)
      → (ltb j s.n && f (state_at s j)) ≡ (ltb j s.n && f (state_at up_session j))
  within_same f h j = ap (λ (b : Bool). ltb j s.n && b) (sym (state_same f h j))

  -- and has the rank that it had
  rank_same : (j : ℕ) → rank_at rank up_session j ≡ rank_at rank s j
  rank_same j =
      stays (task_at up_session j) (task_at s j) j (alike_terms (task_at s j) (task_at up_session j) (alike j))
      (alike_arrival (task_at s j) (task_at up_session j) (alike j)) (alike_rank (task_at s j) (task_at up_session j) (alike j))

  -- ---- the words with the raised counts

  -- all places of the row passed
  abbrev up_words : List ℕ
  up_words = raised_in w i (busy_in w) (row_held w)

  -- the row has no more than 64 places
  all_places : row_held w ≡ row_size w
  all_places = omega (arith, holds.row.places)

  -- every place before the tasks' numbers is as it was
  low : (q : ℕ) → q < 136 → get_or up_words q 0 ≡ get_or w q 0
  low q l = raised_aside w i (busy_in w) (row_held w) q (aside_low q l)

  -- and so is every number that is no count
  number : (j f : ℕ) → f < 6 → get_or up_words (number_place j f) 0 ≡ get_or w (number_place j f) 0
  number j f l = raised_aside w i (busy_in w) (row_held w) (number_place j f) (aside_number j f l)

  -- and what stands behind them
  behind : (q : ℕ) → 648 ≤ q → get_or up_words q 0 ≡ get_or w q 0
  behind q l = raised_aside w i (busy_in w) (row_held w) q (aside_set q l)

  -- those that wait above the one at place k are k
  waiting_counted : (k : ℕ) → k < row_size w → count s.n (waiting_above rank s (row_at w k)) ≡ k
  waiting_counted k l =
      sym (count_within 64 s.n (λ j. within s waiting j && ltb (rank_at rank s j) (rank_at rank s (row_at w k))) (waiting_above rank s (row_at w k)) table.few
      (λ j h. ap (λ (b : Bool). (b && waiting s j) && ltb (rank_at rank s j) (rank_at rank s (row_at w k))) (lt-ltb j s.n h))
      (λ j from h. ap (λ (b : Bool). (b && waiting s j) && ltb (rank_at rank s j) (rank_at rank s (row_at w k))) (le-ltb j s.n from)))
      ∙ row_counted (within s waiting) (rank_at rank s) w (row_size w) holds.row k l

  -- so it ran where those that are busy and k more are fewer than m
  ran_at_lem : (k : ℕ) → k < row_size w → ran rank s (row_at w k) ≡ ran_at w (busy_in w) k
  unfolding ran
  ran_at_lem k l =
      let before : count s.n (executing s) + count s.n (plain s) + count s.n (waiting_above rank s (row_at w k)) ≡ busy_in w + k =
      omega (arith, waiting_counted k l, busy_agrees rank w s table) in
      ap₂ ltb before (sym table.m)

  -- the one at place k has its wait
  wait_at : (k : ℕ) → k < row_size w → row_at w k < s.n → waiting s (row_at w k) ≡ true
      → WaitHeld up_words (row_at w k) (wait_of (state_at up_session (row_at w k)))
  wait_at k l lj waits =
      let counted = raised_at (within s waiting) (rank_at rank s) w (row_size w) i (busy_in w) holds.row table.size (row_held w) k
      (lt_of_lt_of_le l (le_of_eq (sym all_places))) (le_of_eq all_places) in
      subst (λ (t : Task). WaitHeld up_words (row_at w k) (wait_of t.state)) (sym task)
      (raised_held up_words (row_at w k) (hit_at w i k) (ran_at w (busy_in w) k) (task_at s (row_at w k)) waits
      (number (row_at w k) 5 (omega arith) ∙ held.release)
      (counted.0 ∙ ap (λ (x : ℕ). cond (hit_at w i k) (one_more x) x) held.clashes)
      (counted.1 ∙ ap (λ (x : ℕ). cond (hit_at w i k) (cond (ran_at w (busy_in w) k) (one_more x) x) x) held.retries))
    where
      held : WaitHeld w (row_at w k) (wait_of (state_at s (row_at w k)))
      held = (table.numbers (row_at w k) lj).wait waits

      -- it is raised where it clashes with task i
      raises_it : raises s (sets_at s i) (row_at w k) ≡ hit_at w i k
      raises_it =
          let same : row_task w k ≡ row_at w k = omega (arith, (holds.row.each k l).0) in
          ap (λ (b : Bool). b && clash (sets_at s i) (sets_at s (row_at w k))) waits
          ∙ sym (ap (clash_in w i) same ∙ clash_agrees rank w s table i (row_at w k) below lj)

      task : task_at up_session (row_at w k)
          ≡ cond (hit_at w i k) (raised_task (ran_at w (busy_in w) k) (task_at s (row_at w k))) (task_at s (row_at w k))
      task =
          raised_below (ran rank s) s (sets_at s i) s.n (row_at w k) fits lj
          ∙ ap₂ (λ (b h : Bool). cond b (raised_task h (task_at s (row_at w k))) (task_at s (row_at w k))) raises_it (ran_at_lem k l)

  -- each task's numbers
  up_numbers : (j : ℕ) → j < s.n → TaskHeld up_words j (task_at up_session j)
  up_numbers j l =
      numbers_like w up_words j (task_at s j) (task_at up_session j)
      (alike_terms (task_at s j) (task_at up_session j) (alike j))
      (alike_arrival (task_at s j) (task_at up_session j) (alike j))
      (alike_releases (task_at s j) (task_at up_session j) (alike j))
      (alike_rank (task_at s j) (task_at up_session j) (alike j))
      (λ f h. number j f (omega arith))
      (behind (rank_place j) (omega arith))
      (λ e.
      let waits : waiting s j ≡ true = sym (state_same is_waiting (λ x y. refl) j) ∙ e in
      let place = holds.row.all j (lt_of_lt_of_le l table.few) (ap₂ (λ (a b : Bool). a && b) (lt-ltb j s.n l) waits) in
      subst (λ (x : ℕ). WaitHeld up_words x (wait_of (state_at up_session x))) place.2
      (wait_at place.0 place.1 (subst (λ (x : ℕ). x < s.n) (sym place.2) l) (ap (waiting s) place.2 ∙ waits)))
      (table.numbers j l)

  -- all but the row
  up_table : Tabled rank up_words up_session
  up_table = record {
    size = raised_length w i (busy_in w) (row_held w) ∙ table.size;
    tasks = raised_size (ran rank s) s (sets_at s i) s.n ∙ table.tasks;
    reads = table.reads;
    writes = table.writes;
    few = table.few;
    m = low 0 (omega arith) ∙ table.m;
    n = low 1 (omega arith) ∙ table.n;
    mode = behind 1224 (omega arith) ∙ table.mode;
    tick = low 2 (omega arith) ∙ table.tick;
    accepted = low 3 (omega arith) ∙ table.accepted;
    plains = λ j l. ap (λ (x : ℕ). bit x j) (low 4 (omega arith)) ∙ table.plains j l ∙ within_same is_plain (λ x y. refl) j;
    waits = λ j l. ap (λ (x : ℕ). bit x j) (low 5 (omega arith)) ∙ table.waits j l ∙ within_same is_waiting (λ x y. refl) j;
    executes = λ j l. ap (λ (x : ℕ). bit x j) (low 6 (omega arith)) ∙ table.executes j l ∙ within_same is_executing (λ x y. refl) j;
    above =
        ranks_stay rank w up_words s up_session table.few refl (λ j l. low (72 + j) (omega arith))
        (λ j here. (ap not (sym (state_same is_absent (λ x y. refl) j)) ∙ here, rank_same j)) table.above;
    numbers = up_numbers;
    sets = λ j l.
        sets_meet (sets_in up_words j) (sets_in w j) (sets_at s j)
        (sets_stay w up_words j (λ f m. behind (set_place j f) (omega arith))) (table.sets j l);
    periods = λ j l. rw (alike_terms (task_at s j) (task_at up_session j) (alike j)) (table.periods j l);
  }

  -- the words hold the session with the raised counts
  pub raised_holds : Holds rank up_words up_session
  raised_holds = record {
    table = up_table;
    row =
        rw (low 7 (omega arith))
        (ordered_stays (within s waiting) (within up_session waiting) (rank_at rank s) (rank_at rank up_session) w up_words (row_size w)
        (λ j l. sym (within_same is_waiting (λ x y. refl) j)) rank_same (λ k l. low (8 + k) (omega (arith, holds.row.places))) holds.row);
  }

-- ---- the task's own part

module _ (rank : Ranking) (stays : Stays rank) (v : List ℕ) (s : Session) (holds : Holds rank v s) (tick i : ℕ) (below : i < s.n)
    (was : state_at s i ≡ Executing) where
  -- the words after it
  abbrev after : List ℕ
  after = ended_in v tick i

  -- before the sets are emptied
  abbrev bare : List ℕ
  bare = set (set (stamped_in v tick) 4 (with_bit (plain_of (stamped_in v tick)) i)) 6 (without_bit (executing_of (stamped_in v tick)) i)

  -- the task, plain
  abbrev t : Task
  t = in_state (task_at s i) Plain

  -- the session with it, its sets empty
  abbrev session : Session
  session = with_sets (with_task (stamped s tick) i t) i empty empty

  small : i < 64
  small = lt_of_lt_of_le below holds.table.few

  size : length v ≡ 1280
  size = holds.table.size

  inside : ltb i 64 ≡ true
  inside = lt-ltb i 64 small

  -- no place of another task is touched
  leaves : Leaves i v after
  leaves =
      leaves_sets i v bare empty empty
      (leaves_head i v (set (stamped_in v tick) 4 (with_bit (plain_of (stamped_in v tick)) i)) 6 (without_bit (executing_of (stamped_in v tick)) i) (omega arith)
      (omega arith)
      (leaves_head i v (stamped_in v tick) 4 (with_bit (plain_of (stamped_in v tick)) i) (omega arith) (omega arith) (leaves_stamped i v tick)))

  -- its numbers are as they were
  numbers : TaskHeld after i t
  numbers =
      numbers_like v after i (task_at s i) t refl refl refl refl
      (λ f l.
      let field : ltb f 8 ≡ true = lt-ltb f 8 (omega arith) in
      simp (chain, inside, field))
      (simp (chain, inside)) (λ e. absurd (false≢true e)) (holds.table.numbers i below)

  -- they are as many
  bare_size : length bare ≡ 1280
  bare_size = simp length-set size

  -- so one task alone is changed
  edit : Edit v s i t after session
  edit = record {
    moved = moved_sets rank v s holds.table tick i t small empty empty;
    leaves = leaves;
    size = simp chain size;
    tick = simp (chain, size);
    accepted = simp (chain, size) (ap (λ (k : ℕ). k + 1) holds.table.accepted);
    plains = λ j l. simp (chain, size) (bit_more (plain_of v) i j l);
    waits = λ j l. simp chain (bit_same (waiting_of v) i false (waiting_bit rank v s holds.table i below ∙ ap is_waiting was) j);
    executes = λ j l. simp (chain, size) (bit_less (executing_of v) i j l);
    terms = refl;
    numbers = numbers;
    sets = moved_put rank v s holds.table tick i t small bare empty empty bare_size;
  }

  -- its rank is as it was, and so is who ranks above whom
  ranks : Ranks rank after session
  ranks =
      moved_ranks rank v after s i t session holds.table.few edit.moved (λ j l. ended_above j l v tick i)
      (λ e. (ap (λ (x : State). not (is_absent x)) was, stays t (task_at s i) i refl refl refl)) holds.table.above

  -- the words hold the session in which it is plain
  ended_holds : Holds rank after session
  ended_holds = edit_holds v s i t after session edit rank below (ap is_waiting was) refl ranks holds

-- ---- both

module _ (rank : Ranking) (stays : Stays rank) (w : List ℕ) (s : Session) (holds : Holds rank w s) (tick i : ℕ) (below : i < s.n)
    (was : state_at s i ≡ Executing) where
  -- the session with the raised counts
  abbrev risen : Session
  risen = up_session rank stays w s holds i below

  -- task i does not wait, so its own counts stand
  task_same : task_at risen i ≡ task_at s i
  task_same = alike_same (task_at s i) (task_at risen i) (ap is_waiting was) (alike rank stays w s holds i below i)

  -- the words hold the session after the commit
  pub committed_holds : Holds rank (committed_in w tick i) (committed rank s tick i)
  unfolding committed_in
  committed_holds =
      subst (λ (t : Task). Holds rank (ended_in (raised_in w i (busy_in w) (row_held w)) tick i)
      (with_sets (with_task (stamped risen tick) i (in_state t Plain)) i empty empty))
      task_same
      (ended_holds rank stays (raised_in w i (busy_in w) (row_held w)) risen (raised_holds rank stays w s holds i below) tick i below
      (ap (λ (t : Task). t.state) task_same ∙ was))
