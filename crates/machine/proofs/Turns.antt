-- An arrival and a finish: a task turns plain or absent, with its releases 0 and another rank, and its sets stay. Words that hold a session hold the one after it, before the
-- scan of a finish. An arrival moves who ranks above whom, by the ranks in the records; after a finish nobody asks for the task's.
use Prim.Native.Nat.{ℕ, ◌+◌, ◌*◌, ◌≤◌, ◌<◌}
use mathlib.Core.Path.{◌≡◌, refl, sym, ap, ap₂, subst, ◌∙◌}
use mathlib.Core.Logic.{◌≢◌}
use mathlib.Core.List.{List}
use mathlib.Core.Bool.{true, false, cond, not, false≢true}
use native.Mathlib.Nat.{lt_of_lt_of_le, mod-eq_of_lt}
use native.Mathlib.Omega.{arith}
use lib.Dec.{eqb, ltb}
use lib.ListN.{length, get_or, set, length-set}
use lib.Seq.{set-get_or}
use borrow.Author.Tests.{ne_eqb, lt-ltb}
use Rattle.objects.specs.Objects.{bit}
use Rattle.rules.specs.declared.State.TheVariants.{Absent, Plain}
use Rattle.rules.specs.declared.Terms.{Terms}
use Rattle.rules.specs.declared.Task.{Task}
use Rattle.rules.specs.declared.Session.{Session}
use Rattle.rules.specs.Ranking.{Ranking, job_rank, by_rank}
use Rattle.rules.specs.Tasks.{is_absent, is_plain, is_waiting, is_executing, task_at, state_at, sets_at, with_task, stamped}
use Rattle.rules.specs.Room.{rank_at}
use Rattle.rules.specs.Demand3.{present_at}
use Rattle.rules.specs.Events.{arrived, finished}
use Rattle.rules.proofs.Laws.Alike.{at_or_other}
use Rattle.machine.specs.Bits.{with_bit, without_bit}
use Rattle.machine.specs.Places.{n_of, plain_of, waiting_of, executing_of, above_of, rank_place, mode_of, number_place, priority_at, period_at, sets_in}
use Rattle.machine.specs.Ranks.{rank_in, ranks_above, ranks_moved, rank_given}
use Rattle.machine.specs.Events.{stamped_in, turns_plain, arrived_in, finished_in}
use Rattle.machine.specs.Opened.{arrival_code}
use Rattle.machine.specs.Holds.{TaskHeld, Holds}
use Rattle.machine.proofs.Laws.Places.{chain}
use Rattle.machine.proofs.Laws.Agree.{waiting_bit, executing_bit}
use Rattle.machine.proofs.Laws.Ranks.{ranks_size, ranks_kept, ranks_own, ranks_theirs, ranks_others}
use Rattle.machine.proofs.Laws.Changed.{sets_stay, sets_meet, Ranks, moved_ranks, Leaves, Edit, edit_anew, edit_numbers, edit_holds}
use Rattle.machine.proofs.Laws.Edited.{leaves_stamped, leaves_head, leaves_number, leaves_rank, bit_more, bit_less, bit_same, moved_task}

-- ---- a task that neither waits nor executes, before and after

-- this is the word of the plain tasks then, this the code of the task's last arrival, and this its rank
abbrev turned_in : List ℕ → ℕ → ℕ → ℕ → ℕ → ℕ → List ℕ
turned_in w tick i plains arrival given =
    set (set (set (set (stamped_in w tick) 4 plains) (number_place i 3) arrival) (number_place i 4) 0) (rank_place i) given

module _ (rank : Ranking) (w : List ℕ) (s : Session) (holds : Holds rank w s) (tick i : ℕ) (below : i < s.n)
    (waited : is_waiting (state_at s i) ≡ false) (executed : is_executing (state_at s i) ≡ false)
    (t : Task) (waits : is_waiting t.state ≡ false) (executes : is_executing t.state ≡ false) (terms : t.terms ≡ (task_at s i).terms)
    (releases : t.releases ≡ 0) (plains arrival given : ℕ) where
  -- the words after it
  abbrev after : List ℕ
  after = turned_in w tick i plains arrival given

  size : length w ≡ 1280
  size = holds.table.size

  small : i < 64
  small = lt_of_lt_of_le below holds.table.few

  inside : ltb i 64 ≡ true
  inside = lt-ltb i 64 small

  -- no place of another task is touched
  leaves : Leaves i w after
  leaves =
      leaves_rank i w (set (set (set (stamped_in w tick) 4 plains) (number_place i 3) arrival) (number_place i 4) 0) given
      (leaves_number i w (set (set (stamped_in w tick) 4 plains) (number_place i 3) arrival) 4 0 (omega arith)
      (leaves_number i w (set (stamped_in w tick) 4 plains) 3 arrival (omega arith)
      (leaves_head i w (stamped_in w tick) 4 plains (omega arith) (omega arith) (leaves_stamped i w tick))))

  -- its numbers are those of the task
  numbers : arrival ≡ arrival_code t.arrival → given ≡ t.rank → TaskHeld after i t
  numbers coded ranked =
      let held : TaskHeld w i (task_at s i) = holds.table.numbers i below in
      record {
        priority = simp (chain, inside) (held.priority ∙ ap (λ (x : Terms). x.priority) (sym terms));
        period = simp (chain, inside) (held.period ∙ ap (λ (x : Terms). x.period) (sym terms));
        transactions = simp (chain, inside) (held.transactions ∙ ap (λ (x : Terms). x.transactions) (sym terms));
        arrival = simp (chain, size, inside) coded;
        releases = simp (chain, size, inside) (sym releases);
        rank = simp (chain, size, inside) ranked;
        wait = λ e. absurd (false≢true (sym waits ∙ e));
      }

  -- its bit of the plain tasks is that of its state, and it has no other: so one task alone is changed
  turned_edit : arrival ≡ arrival_code t.arrival → given ≡ t.rank
      → ((j : ℕ) → j < 64 → bit plains j ≡ cond (eqb j i) (is_plain t.state) (bit (plain_of w) j))
      → Edit w s i t after (with_task (stamped s tick) i t)
  turned_edit coded ranked own = record {
    moved = moved_task rank w s holds.table tick i t small (s.accepted + 1);
    leaves = leaves;
    size = simp length-set size;
    tick = simp (chain, size);
    accepted = simp (chain, size) (ap (λ (k : ℕ). k + 1) holds.table.accepted);
    plains = λ j l. simp (chain, size) (own j l);
    waits = λ j l. simp chain (bit_same (waiting_of w) i (is_waiting t.state) (waiting_bit rank w s holds.table i below ∙ waited ∙ sym waits) j);
    executes = λ j l. simp chain (bit_same (executing_of w) i (is_executing t.state) (executing_bit rank w s holds.table i below ∙ executed ∙ sym executes) j);
    terms = terms;
    numbers = numbers coded ranked;
    sets = sets_meet (sets_in after i) (sets_in w i) (sets_at s i) (sets_stay w after i (λ f l. simp (chain, inside, lt-ltb f 8 l))) (holds.table.sets i below);
  }

-- ---- an arrival

module _ (w : List ℕ) (s : Session) (holds : Holds by_rank w s) (tick i : ℕ) (below : i < s.n) (was : state_at s i ≡ Absent) where
  -- the task, plain
  abbrev here : Task
  here = arrived s.mode (task_at s i) tick

  -- the session with it
  abbrev session : Session
  session = with_task (stamped s tick) i here

  -- the words before its job gets its rank
  abbrev bare : List ℕ
  bare = turns_plain w tick i

  -- and with it
  abbrev ranked : List ℕ
  ranked = set bare (rank_place i) (rank_given bare tick i)

  low : i < 64
  low = lt_of_lt_of_le below holds.table.few

  -- it gets the rank that the rules give it: the mode, its period and its priority stand in the words
  given_rank : rank_given bare tick i ≡ job_rank s.mode (task_at s i).terms tick
  unfolding job_rank
  given_rank =
      let held : TaskHeld w i (task_at s i) = holds.table.numbers i below in
      let mode : mode_of bare ≡ s.mode = simp (chain, ne_eqb (number_place i 3) 1224 (omega arith), ne_eqb (number_place i 4) 1224 (omega arith)) holds.table.mode in
      let period : period_at bare i ≡ (task_at s i).terms.period = simp chain held.period in
      let priority : priority_at bare i ≡ (task_at s i).terms.priority = simp chain held.priority in
      rw (mode, period, priority, mod-eq_of_lt (holds.table.periods i below))

  -- nothing but the task is changed
  ranked_edit : Edit w s i here ranked session
  ranked_edit =
      turned_edit by_rank w s holds tick i below (ap is_waiting was) (ap is_executing was) here refl refl refl refl
      (with_bit (plain_of w) i) (tick + 1) (rank_given bare tick i) refl given_rank (bit_more (plain_of w) i)

  -- the ranks in the words are those of the session
  rank_in_lem : (j : ℕ) → j < s.n → rank_in ranked j ≡ rank_at by_rank session j
  unfolding by_rank
  rank_in_lem j l = ap (λ (x : ℕ). x * 64 + j) (edit_numbers w s i here ranked session ranked_edit by_rank below holds.table j l).rank

  -- so who ranks above whom by the words does by the rules
  rank_above : (j k : ℕ) → j < s.n → k < s.n → ranks_above ranked j k ≡ ltb (rank_at by_rank session k) (rank_at by_rank session j)
  rank_above j k lj lk = ap₂ ltb (rank_in_lem k lk) (rank_in_lem j lj)

  -- there are as many tasks as before
  ranked_n : n_of ranked ≡ s.n
  ranked_n = simp chain holds.table.n

  -- who ranks above whom of two others is as it was
  others_above : (j k : ℕ) → j ≢ i → k ≢ i → j < s.n → k < s.n → present_at session j ≡ true → present_at session k ≡ true
      → bit (above_of ranked j) k ≡ ltb (rank_at by_rank session k) (rank_at by_rank session j)
  others_above j k dj dk lj lk pj pk =
      let at_j : task_at session j ≡ task_at s j = ranked_edit.moved.others j dj in
      let at_k : task_at session k ≡ task_at s k = ranked_edit.moved.others k dk in
      ap (λ (x : ℕ). bit x k) (simp (chain, lt-ltb j 64 (lt_of_lt_of_le lj holds.table.few)))
      ∙ holds.table.above j k lj lk (ap (λ (t : Task). not (is_absent t.state)) (sym at_j) ∙ pj) (ap (λ (t : Task). not (is_absent t.state)) (sym at_k) ∙ pk)
      ∙ ap₂ ltb (ap (λ (t : Task). by_rank t k) (sym at_k)) (ap (λ (t : Task). by_rank t j) (sym at_j))

  -- the words say it: of task i and another by their ranks, and of two others as before
  moved_above : Ranks by_rank (ranks_moved ranked i) session
  moved_above =
      at_or_other i (λ (j : ℕ). (k : ℕ) → Says j k)
      (λ k lj lk pj pk. ranks_own ranked i k ranked_edit.size low few (fits k lk) ∙ rank_above i k lj lk)
      (λ j dj.
      at_or_other i (Says j)
      (λ lj lk pj pk. ranks_theirs ranked i j ranked_edit.size low few (fits j lj) dj ∙ rank_above j i lj lk)
      (λ k dk lj lk pj pk.
      ranks_others ranked i j k ranked_edit.size low (lt_of_lt_of_le (fits j lj) few) (lt_of_lt_of_le (fits k lk) few) dj dk
      ∙ others_above j k dj dk lj lk pj pk))
    where
      Says : ℕ → ℕ → Type 0
      Says j k =
          j < s.n → k < s.n → present_at session j ≡ true → present_at session k ≡ true
          → bit (above_of (ranks_moved ranked i) j) k ≡ ltb (rank_at by_rank session k) (rank_at by_rank session j)

      few : n_of ranked ≤ 64
      few = rw ranked_n holds.table.few

      fits : (j : ℕ) → j < s.n → j < n_of ranked
      fits j l = rw ranked_n l

  -- the words hold the session after it
  pub arrived_holds : Holds by_rank (arrived_in w tick i) session
  unfolding arrived_in
  arrived_holds =
      edit_holds w s i here (ranks_moved ranked i) session
      (edit_anew w s i here ranked session ranked_edit (ranks_moved ranked i) (ranks_size ranked i ∙ ranked_edit.size) (λ q out. ranks_kept ranked i q low out))
      by_rank below (ap is_waiting was) refl moved_above holds

-- ---- a finish

-- it leaves the last arrival as it is, and the words hold the session after it
pub finished_holds : (rank : Ranking) (w : List ℕ) (s : Session) → Holds rank w s → (tick i : ℕ) → i < s.n → state_at s i ≡ Plain
    → Holds rank (finished_in w tick i) (with_task (stamped s tick) i (finished (task_at s i)))
finished_holds rank w s holds tick i below was =
    subst (λ (x : List ℕ). Holds rank (set (set x (number_place i 4) 0) (rank_place i) 0) (with_task (stamped s tick) i gone)) (set-get_or bare (number_place i 3) 0)
    (edit_holds w s i gone after (with_task (stamped s tick) i gone) edit rank below (ap is_waiting was) refl
    (moved_ranks rank w after s i gone (with_task (stamped s tick) i gone) holds.table.few edit.moved
    (λ j l. simp (chain, lt-ltb j 64 l)) (λ e. absurd (false≢true e)) holds.table.above)
    holds)
  where
    gone : Task
    gone = finished (task_at s i)

    bare : List ℕ
    bare = set (stamped_in w tick) 4 (without_bit (plain_of w) i)

    after : List ℕ
    after = turned_in w tick i (without_bit (plain_of w) i) (get_or bare (number_place i 3) 0) 0

    edit : Edit w s i gone after (with_task (stamped s tick) i gone)
    edit =
        turned_edit rank w s holds tick i below (ap is_waiting was) (ap is_executing was) gone refl refl refl refl
        (without_bit (plain_of w) i) (get_or bare (number_place i 3) 0) 0 (simp chain (holds.table.numbers i below).arrival) refl (bit_less (plain_of w) i)
