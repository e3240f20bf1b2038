-- A release: words that hold a session hold the one after it, whether it runs or waits; what is asked on the way is what the rules ask.
use Prim.Native.Nat.{ℕ, ◌+◌, ◌<◌}
use mathlib.Core.Path.{◌≡◌, refl, sym, ap, ap₂, ◌∙◌}
use mathlib.Core.List.{List}
use mathlib.Core.Bool.{Bool, true, false, cond, not, ◌||◌, or-false, ◌&&◌, false≢true}
use native.Mathlib.Nat.{lt_of_lt_of_le}
use native.Mathlib.Omega.{arith}
use lib.Dec.{eqb, ltb}
use lib.ListN.{length, get_or, set, length-set}
use borrow.Author.Tests.{eq-eqb, ne_eqb, lt-ltb, ltb-true}
use Rattle.objects.specs.Objects.{bit}
use Rattle.objects.proofs.Laws.Below.{not_both, and_left, and_right, or_left, or_right}
use Rattle.rules.specs.declared.State.{State}
use Rattle.rules.specs.declared.State.TheVariants.{Absent, Plain, Executing}
use Rattle.rules.specs.declared.Task.{Task}
use Rattle.rules.specs.declared.Session.{Session}
use Rattle.rules.specs.Ranking.{Ranking, Strict, Stays}
use Rattle.rules.specs.Tasks.{is_absent, is_plain, is_waiting, is_executing, wait_of, task_at, state_at, waiting, executing, sets_at, sets_of}
use Rattle.rules.specs.Room.{rank_at}
use Rattle.rules.specs.Contest.{blocked}
use Rattle.rules.specs.Demand3.{present_at}
use Rattle.rules.proofs.Laws.Rows.{Agree}
use Rattle.rules.proofs.Laws.Alike.{at_or_other}
use Rattle.rules.specs.Events.{released, released_into, begins, wait_said}
use Rattle.machine.specs.Bits.{with_bit, without_bit}
use Rattle.machine.specs.Places.{plain_of, waiting_of, executing_of, row_size, above_of, job_rank_at, number_place, releases_at, sets_in, sets_put}
use Rattle.machine.specs.Asked.{blocked_in, wait_said_in}
use Rattle.machine.specs.Row.{row_put}
use Rattle.machine.specs.Events.{stamped_in, begun_in, released_in, runs_in, deferred_in, waits_in}
use Rattle.machine.specs.Holds.{Ordered, WaitHeld, TaskHeld, within, Tabled, Holds}
use Rattle.machine.proofs.Above.{begun_above, deferred_above}
use Rattle.machine.proofs.Laws.Places.{chain}
use Rattle.machine.proofs.Laws.Agree.{present, plain_bit, waiting_bit, executing_bit, blocked_agrees, wait_said_agrees}
use Rattle.machine.proofs.Laws.Gapped.{ordered_stays}
use Rattle.machine.proofs.Laws.Changed.{numbers_like, sets_stay, sets_meet, Ranks, Leaves, Moved, moved_ranks, Edit, edit_size, edit_row, edit_table, edit_holds}
use Rattle.machine.proofs.Laws.RowPut.{row_put_length, row_put_kept, row_put_size, row_put_ordered}
use Rattle.machine.proofs.Laws.Asking.{blocked_same, said_same}
use Rattle.machine.proofs.Laws.Edited.{leaves_stamped, leaves_head, leaves_number, leaves_sets, bit_more, bit_less, bit_same, moved_sets, moved_own, moved_put, moved_again, table_stays}

module _ (rank : Ranking) (stays : Stays rank) (w : List ℕ) (s : Session) (holds : Holds rank w s) (tick i : ℕ) (below : i < s.n)
    (was : state_at s i ≡ Plain) (reads writes : List ℕ) where
  -- the words before its sets stand there
  abbrev bare : List ℕ
  bare = begun_in w tick i

  -- and with them
  abbrev between : List ℕ
  between = sets_put bare i reads writes

  -- the task is in no state in between: it is held as one that is absent
  abbrev gone : Task
  gone = released (task_at s i) Absent

  -- the session after the release into a state
  abbrev session : State → Session
  session = released_into s tick i reads writes

  small : i < 64
  small = lt_of_lt_of_le below holds.table.few

  size : length w ≡ 1280
  size = holds.table.size

  inside : ltb i 64 ≡ true
  inside = lt-ltb i 64 small

  -- no place of another task is touched
  between_leaves : Leaves i w between
  between_leaves =
      leaves_sets i w bare reads writes
      (leaves_number i w (set (stamped_in w tick) 4 (without_bit (plain_of w) i)) 4 (releases_at w i + 1) (omega arith)
      (leaves_head i w (stamped_in w tick) 4 (without_bit (plain_of w) i) (omega arith) (omega arith) (leaves_stamped i w tick)))

  -- its numbers, with one release more
  between_numbers : TaskHeld between i gone
  between_numbers =
      let held : TaskHeld w i (task_at s i) = holds.table.numbers i below in
      record {
        priority = simp (chain, inside) held.priority;
        period = simp (chain, inside) held.period;
        transactions = simp (chain, inside) held.transactions;
        arrival = simp (chain, inside) held.arrival;
        releases = simp (chain, size, inside) (ap (λ (k : ℕ). k + 1) held.releases);
        rank = simp (chain, inside) held.rank;
        wait = λ e. absurd (false≢true e);
      }

  -- nothing but the task is another in the session
  moved : (state : State) → Moved s i (released (task_at s i) state) (session state)
  moved state = moved_sets rank w s holds.table tick i (released (task_at s i) state) small reads writes

  -- its rank is as it was
  same_rank : (state : State) → rank (released (task_at s i) state) i ≡ rank_at rank s i
  same_rank state = stays (released (task_at s i) state) (task_at s i) i refl refl refl

  -- every rank is
  into_ranked : (state : State) (j : ℕ) → rank_at rank (session state) j ≡ rank_at rank s j
  into_ranked state =
      at_or_other i (λ (j : ℕ). rank_at rank (session state) j ≡ rank_at rank s j)
      (ap (λ (t : Task). rank t i) (moved state).here ∙ same_rank state)
      (λ j d. ap (λ (t : Task). rank t j) ((moved state).others j d))

  -- and so is who ranks above whom, in words that say what these said of it
  into_ranks : (state : State) (x : List ℕ) → ((j : ℕ) → j < 64 → above_of x j ≡ above_of w j) → Ranks rank x (session state)
  into_ranks state x same =
      moved_ranks rank w x s i (released (task_at s i) state) (session state) holds.table.few (moved state) same
      (λ e. (ap (λ (x : State). not (is_absent x)) was, same_rank state)) holds.table.above

  -- the words are as many
  bare_size : length bare ≡ 1280
  bare_size = simp length-set size

  -- so one task alone is changed
  between_edit : Edit w s i gone between (session Absent)
  between_edit = record {
    moved = moved Absent;
    leaves = between_leaves;
    size = simp chain size;
    tick = simp (chain, size);
    accepted = simp (chain, size) (ap (λ (k : ℕ). k + 1) holds.table.accepted);
    plains = λ j l. simp (chain, size) (bit_less (plain_of w) i j l);
    waits = λ j l. simp chain (bit_same (waiting_of w) i false (waiting_bit rank w s holds.table i below ∙ ap is_waiting was) j);
    executes = λ j l. simp chain (bit_same (executing_of w) i false (executing_bit rank w s holds.table i below ∙ ap is_executing was) j);
    terms = refl;
    numbers = between_numbers;
    sets = moved_put rank w s holds.table tick i gone small bare reads writes bare_size;
  }

  -- who ranks above whom is as it was
  between_above : (j : ℕ) → j < 64 → above_of between j ≡ above_of w j
  between_above j l = begun_above j l w tick i reads writes

  -- and the words in between hold that session
  between_holds : Holds rank between (session Absent)
  between_holds = edit_holds w s i gone between (session Absent) between_edit rank below (ap is_waiting was) refl (into_ranks Absent between between_above) holds

  -- ---- after it

  -- another state
  moved_into : (state : State) → Moved (session Absent) i (released (task_at s i) state) (session state)
  moved_into state = moved_again s tick i gone (released (task_at s i) state) reads writes (moved Absent) (omega (arith, holds.table.tasks))

  -- the state in between is that of one that is absent
  was_absent : (f : State → Bool) → f (state_at (session Absent) i) ≡ f Absent
  was_absent f = ap (λ (t : Task). f t.state) (moved Absent).here

  -- its terms are as they were
  gone_terms : (state : State) → (released (task_at s i) state).terms ≡ (task_at (session Absent) i).terms
  gone_terms state = ap (λ (t : Task). t.terms) (sym (moved Absent).here)

  module _ (v : List ℕ) (held : Holds rank v (session Absent)) (above : (j : ℕ) → j < 64 → above_of v j ≡ above_of w j) where
    abbrev table : Tabled rank v (session Absent)
    table = held.table

    -- its numbers that go by no wait
    into_numbers : (state : State) (x : List ℕ) → ((f : ℕ) → f < 5 → get_or x (number_place i f) 0 ≡ get_or v (number_place i f) 0)
        → job_rank_at x i ≡ job_rank_at v i → (is_waiting state ≡ true → WaitHeld x i (wait_of state)) → TaskHeld x i (released (task_at s i) state)
    into_numbers state x same ranked waits =
        numbers_like v x i gone (released (task_at s i) state) refl refl refl refl same ranked waits (rw (moved Absent).here at (table.numbers i below))

    -- a word of a state that it is not in
    plain_same : (j : ℕ) → bit (plain_of v) j ≡ cond (eqb j i) false (bit (plain_of v) j)
    plain_same = bit_same (plain_of v) i false (plain_bit rank v (session Absent) table i below ∙ was_absent is_plain)

    waiting_same : (j : ℕ) → bit (waiting_of v) j ≡ cond (eqb j i) false (bit (waiting_of v) j)
    waiting_same = bit_same (waiting_of v) i false (waiting_bit rank v (session Absent) table i below ∙ was_absent is_waiting)

    executing_same : (j : ℕ) → bit (executing_of v) j ≡ cond (eqb j i) false (bit (executing_of v) j)
    executing_same = bit_same (executing_of v) i false (executing_bit rank v (session Absent) table i below ∙ was_absent is_executing)

    -- ---- it runs

    -- the words with its bit among those that execute
    abbrev running : List ℕ
    running = set v 6 (with_bit (executing_of v) i)

    -- one bit more
    running_edit : Edit v (session Absent) i (released (task_at s i) Executing) running (session Executing)
    running_edit = record {
      moved = moved_into Executing;
      leaves = leaves_head i v v 6 (with_bit (executing_of v) i) (omega arith) (omega arith) (λ q o. refl);
      size = length-set v 6 (with_bit (executing_of v) i) ∙ table.size;
      tick = simp chain table.tick;
      accepted = simp chain table.accepted;
      plains = λ j l. simp chain (plain_same j);
      waits = λ j l. simp chain (waiting_same j);
      executes = λ j l. simp (chain, table.size) (bit_more (executing_of v) i j l);
      terms = gone_terms Executing;
      numbers = into_numbers Executing running (λ f l. simp chain) (simp chain) (λ e. absurd (false≢true e));
      sets = sets_meet (sets_in running i) (sets_in v i) (sets_at (session Executing) i) (sets_stay v running i (λ f l. simp chain)) (table.sets i below);
    }

    -- the words hold the session in which it executes
    running_holds : Holds rank running (session Executing)
    running_holds =
        edit_holds v (session Absent) i (released (task_at s i) Executing) running (session Executing) running_edit rank below
        (was_absent is_waiting) refl (into_ranks Executing running (λ j l. simp chain (above j l))) held

    -- ---- it waits, before it stands in the row

    -- the words with its wait
    abbrev deferred : List ℕ
    deferred = deferred_in v tick i

    -- no place of another task is touched
    deferred_leaves : Leaves i v deferred
    deferred_leaves =
        leaves_number i v (set (set (set v 5 (with_bit (waiting_of v) i)) (number_place i 5) tick) (number_place i 6) 0) 7 0 (omega arith)
        (leaves_number i v (set (set v 5 (with_bit (waiting_of v) i)) (number_place i 5) tick) 6 0 (omega arith)
        (leaves_number i v (set v 5 (with_bit (waiting_of v) i)) 5 tick (omega arith)
        (leaves_head i v v 5 (with_bit (waiting_of v) i) (omega arith) (omega arith) (λ q o. refl))))

    -- but for its wait its numbers are as they were
    deferred_numbers : (f : ℕ) → f < 5 → get_or deferred (number_place i f) 0 ≡ get_or v (number_place i f) 0
    deferred_numbers f l = simp (chain, ne_eqb 5 f (omega arith), ne_eqb 6 f (omega arith), ne_eqb 7 f (omega arith))

    -- so one task alone is changed
    deferred_edit : Edit v (session Absent) i (released (task_at s i) (begins tick)) deferred (session (begins tick))
    deferred_edit = record {
      moved = moved_into (begins tick);
      leaves = deferred_leaves;
      size = simp length-set table.size;
      tick = simp chain table.tick;
      accepted = simp chain table.accepted;
      plains = λ j l. simp chain (plain_same j);
      waits = λ j l. simp (chain, table.size) (bit_more (waiting_of v) i j l);
      executes = λ j l. simp chain (executing_same j);
      terms = gone_terms (begins tick);
      numbers =
          into_numbers (begins tick) deferred deferred_numbers (simp (chain, inside))
          (λ e. record { release = simp (chain, table.size, inside); clashes = simp (chain, table.size, inside); retries = simp (chain, table.size, inside) });
      sets = sets_meet (sets_in deferred i) (sets_in v i) (sets_at (session (begins tick)) i) (sets_stay v deferred i (λ f l. simp (chain, inside))) (table.sets i below);
    }

    -- all but the row is held
    deferred_table : Tabled rank deferred (session (begins tick))
    deferred_table =
        edit_table v (session Absent) i (released (task_at s i) (begins tick)) deferred (session (begins tick)) deferred_edit rank below table
        (into_ranks (begins tick) deferred (λ j l. deferred_above j l v tick i ∙ above j l))

    -- ---- and in the row

    -- who waited before
    abbrev before : ℕ → Bool
    before = within (session Absent) waiting

    -- the ranks are as they were
    abbrev ranks : ℕ → ℕ
    ranks = rank_at rank (session (begins tick))

    -- the row is as it was: it has those that waited before
    deferred_row : Ordered before ranks deferred (row_size v)
    deferred_row =
        ordered_stays before before (rank_at rank (session Absent)) ranks v deferred (row_size v) (λ j l. refl)
        (λ j. into_ranked (begins tick) j ∙ sym (into_ranked Absent j))
        (λ k l. edit_row v (session Absent) i (released (task_at s i) (begins tick)) deferred (session (begins tick)) deferred_edit k
        (lt_of_lt_of_le l held.row.places))
        held.row

    -- task i did not
    new : before i ≡ false
    new = ap₂ (λ (a b : Bool). a && b) (lt-ltb i s.n below) (was_absent is_waiting)

    -- and now it does too
    waits_too : (j : ℕ) → within (session (begins tick)) waiting j ≡ (before j || eqb j i)
    waits_too =
        at_or_other i (λ (j : ℕ). within (session (begins tick)) waiting j ≡ (before j || eqb j i))
        (ap₂ (λ (a b : Bool). a && b) (lt-ltb i s.n below) (ap (λ (t : Task). is_waiting t.state) (moved_into (begins tick)).here)
        ∙ sym (or_right (before i) (eqb i i) (eq-eqb i i refl)))
        (λ j d.
        ap (λ (t : Task). ltb j s.n && is_waiting t.state) ((moved_into (begins tick)).others j d)
        ∙ sym (ap (λ (b : Bool). before j || b) (ne_eqb j i d) ∙ or-false (before j)))

    -- whoever waits is present
    waits_present : (j : ℕ) → (before j || eqb j i) ≡ true → present_at (session (begins tick)) j ≡ true
    waits_present j e =
        present is_waiting refl (state_at (session (begins tick)) j)
        (and_right (ltb j s.n) (waiting (session (begins tick)) j) (waits_too j ∙ e))

    -- the row's size is as it was
    deferred_size : row_size deferred ≡ row_size v
    deferred_size = edit_size v (session Absent) i (released (task_at s i) (begins tick)) deferred (session (begins tick)) deferred_edit

    -- the row is one longer
    put_size : row_size (row_put deferred i) ≡ row_size v + 1
    put_size = row_put_size before ranks deferred (row_size v) i deferred_table.size deferred_size deferred_row small new

    -- and has task i in its place
    put_row : Strict rank → Ordered (λ j. before j || eqb j i) ranks (row_put deferred i) (row_size v + 1)
    put_row strict =
        row_put_ordered before ranks deferred (row_size v) i deferred_table.size deferred_size deferred_row small new
        (λ j l e.
        deferred_table.above j i (ltb-true j s.n (and_left (ltb j s.n) (waiting (session Absent) j) e)) below
        (waits_present j (or_left (before j) (eqb j i) e)) (waits_present i (or_right (before i) (eqb i i) (eq-eqb i i refl))))
        (λ j l e same. not_both (before i) (ap before (sym (strict (task_at (session (begins tick)) j) (task_at (session (begins tick)) i) j i l small same)) ∙ e) new)

    -- the words hold the session in which it waits
    waiting_holds : Strict rank → Holds rank (row_put deferred i) (session (begins tick))
    waiting_holds strict = record {
      table =
          table_stays rank deferred (row_put deferred i) (session (begins tick)) (row_put_length deferred i ∙ deferred_table.size)
          (row_put_kept deferred i) deferred_table;
      row =
          rw put_size
          (ordered_stays (λ j. before j || eqb j i) (within (session (begins tick)) waiting) ranks ranks (row_put deferred i) (row_put deferred i) (row_size v + 1)
          (λ j l. waits_too j) (λ j. refl) (λ k l. refl) (put_row strict));
    }

  -- ---- what is asked in between

  -- the same tasks execute
  between_executes : (j : ℕ) → executing (session Absent) j ≡ executing s j
  between_executes =
      at_or_other i (λ (j : ℕ). executing (session Absent) j ≡ executing s j) (was_absent is_executing ∙ sym (ap is_executing was))
      (λ j d. ap (λ (t : Task). is_executing t.state) ((moved Absent).others j d))

  -- with the same sets
  between_others : (j : ℕ) → executing s j ≡ true → Agree (sets_at (session Absent) j) (sets_at s j)
  between_others =
      at_or_other i (λ (j : ℕ). executing s j ≡ true → Agree (sets_at (session Absent) j) (sets_at s j))
      (λ e. absurd (not_both (executing s i) e (ap is_executing was)))
      (λ j d e. record { reads = λ g l. ((moved Absent).sets j d g l).0; writes = λ g l. ((moved Absent).sets j d g l).1 })

  -- its own sets are those that it brings
  between_own : Agree (sets_at (session Absent) i) (sets_of reads writes)
  between_own =
      let own = moved_own rank w s holds.table tick i gone small reads writes in
      record { reads = λ g l. (own g l).0; writes = λ g l. (own g l).1 }

  -- ---- the words of a release

  -- before it runs or waits
  abbrev words : List ℕ
  words = released_in w tick i reads writes

  -- they hold the session in which it is in no state
  pub released_holds : Holds rank words (session Absent)
  unfolding released_in
  released_holds = between_holds

  -- and say what was said of who ranks above whom
  released_above : (j : ℕ) → j < 64 → above_of words j ≡ above_of w j
  unfolding released_in
  released_above = between_above

  -- it is blocked where the rules say so
  pub released_blocked : blocked_in words i ≡ blocked s (sets_of reads writes)
  released_blocked =
      blocked_agrees rank words (session Absent) released_holds.table i below
      ∙ blocked_same rank s (session Absent) (sets_of reads writes) (sets_at (session Absent) i) refl between_own (into_ranked Absent) between_executes between_others

  -- what is said of its wait is what the rules say
  pub released_said : blocked s (sets_of reads writes) ≡ true → wait_said_in words i ≡ wait_said rank s (sets_of reads writes)
  released_said e =
      wait_said_agrees rank words (session Absent) released_holds.table i below
      (blocked_same rank s (session Absent) (sets_of reads writes) (sets_at (session Absent) i) refl between_own (into_ranked Absent) between_executes between_others ∙ e)
      ∙ said_same rank s (session Absent) (sets_of reads writes) (sets_at (session Absent) i) refl between_own (into_ranked Absent) between_executes between_others

  -- where it runs they hold the session in which it executes
  pub runs_holds : Holds rank (runs_in words i) (session Executing)
  unfolding runs_in
  runs_holds = running_holds words released_holds released_above

  -- where it waits they hold the session in which it does
  pub waits_holds : Strict rank → Holds rank (waits_in words tick i) (session (begins tick))
  unfolding waits_in
  waits_holds = waiting_holds words released_holds released_above
