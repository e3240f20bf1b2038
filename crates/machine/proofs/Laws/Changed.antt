-- A change of one task: the words leave every place that is not of this task, and the session every other task. Words that hold a session then hold the next one, where they
-- say who ranks above whom in it. The row is no part of it: it stays where the task waits neither before nor after.
use Prim.Native.Nat.{ℕ, ◌+◌, ◌^◌, ◌≤◌, ◌<◌}
use mathlib.Core.Path.{◌≡◌, refl, sym, ap, ap₂, subst, ◌∙◌}
use mathlib.Core.Logic.{◌≢◌, ◌⊎◌, inl, inr}
use mathlib.Core.List.{List}
use mathlib.Core.Bool.{Bool, true, false, cond, not, ◌&&◌}
use native.Mathlib.Nat.{lt_of_lt_of_le}
use native.Mathlib.Omega.{arith}
use lib.Dec.{eqb, ltb}
use lib.ListN.{length, get_or}
use borrow.Author.Tests.{eq-eqb, ne_eqb, lt-ltb}
use Rattle.objects.specs.Objects.{Sets, bit}
use Rattle.objects.proofs.Laws.Below.{not_both, and_right}
use Rattle.rules.specs.declared.Terms.{Terms}
use Rattle.rules.specs.declared.State.{State}
use Rattle.rules.specs.declared.Task.{Task}
use Rattle.rules.specs.declared.Session.{Session}
use Rattle.rules.specs.Ranking.{Ranking}
use Rattle.rules.specs.Tasks.{is_absent, is_plain, is_waiting, is_executing, wait_of, task_at, waiting, sets_at}
use Rattle.rules.specs.Room.{rank_at}
use Rattle.rules.specs.Demand3.{SameSets, present_at}
use Rattle.rules.proofs.Laws.Alike.{at_or_other}
use Rattle.machine.specs.Places.{tick_of, accepted_of, plain_of, waiting_of, executing_of, row_size, row_at, above_of, rank_place, job_rank_at, number_place, set_place, sets_in}
use Rattle.machine.specs.Opened.{arrival_code}
use Rattle.machine.specs.Holds.{WaitHeld, TaskHeld, within, Tabled, Holds}
use Rattle.machine.proofs.Laws.Gapped.{ordered_like}

-- ---- what a task has goes by its words

-- the numbers of a task go by its eight words and that of its rank alone, and those of its wait count only while it waits: so a task has them that differs in its state
pub numbers_like : (w w' : List ℕ) (i : ℕ) (t u : Task) → u.terms ≡ t.terms → u.arrival ≡ t.arrival → u.releases ≡ t.releases → u.rank ≡ t.rank
    → ((f : ℕ) → f < 5 → get_or w' (number_place i f) 0 ≡ get_or w (number_place i f) 0) → job_rank_at w' i ≡ job_rank_at w i
    → (is_waiting u.state ≡ true → WaitHeld w' i (wait_of u.state)) → TaskHeld w i t → TaskHeld w' i u
numbers_like w w' i t u terms arrival releases rank same ranked wait held = record {
  priority = same 0 (omega arith) ∙ held.priority ∙ ap (λ (x : Terms). x.priority) (sym terms);
  period = same 1 (omega arith) ∙ held.period ∙ ap (λ (x : Terms). x.period) (sym terms);
  transactions = same 2 (omega arith) ∙ held.transactions ∙ ap (λ (x : Terms). x.transactions) (sym terms);
  arrival = same 3 (omega arith) ∙ held.arrival ∙ ap arrival_code (sym arrival);
  releases = same 4 (omega arith) ∙ held.releases ∙ sym releases;
  rank = ranked ∙ held.rank ∙ sym rank;
  wait = wait;
}

-- and so has the same task
pub numbers_stay : (w w' : List ℕ) (i : ℕ) (t : Task) → ((f : ℕ) → f < 8 → get_or w' (number_place i f) 0 ≡ get_or w (number_place i f) 0)
    → job_rank_at w' i ≡ job_rank_at w i → TaskHeld w i t → TaskHeld w' i t
numbers_stay w w' i t same ranked held =
    numbers_like w w' i t t refl refl refl refl (λ f l. same f (omega arith)) ranked
    (λ e.
    let wait = held.wait e in
    record {
      release = same 5 (omega arith) ∙ wait.release;
      clashes = same 6 (omega arith) ∙ wait.clashes;
      retries = same 7 (omega arith) ∙ wait.retries;
    })
    held

-- the sets of a task go by its eight words alone
pub sets_stay : (w w' : List ℕ) (i : ℕ) → ((f : ℕ) → f < 8 → get_or w' (set_place i f) 0 ≡ get_or w (set_place i f) 0) → SameSets (sets_in w' i) (sets_in w i)
sets_stay w w' i same g l = (group 0 (omega arith), group 4 (omega arith))
  where
    group : (half : ℕ) → half ≤ 4 → get_or w' (set_place i half + g) 0 ≡ get_or w (set_place i half + g) 0
    group half h =
        let place : set_place i half + g ≡ set_place i (half + g) = omega arith in
        rw place (same (half + g) (omega arith))

-- sets that agree with the same sets agree
pub sets_meet : (x y z : Sets) → SameSets x y → SameSets y z → SameSets x z
sets_meet x y z p q g l = ((p g l).0 ∙ (q g l).0, (p g l).1 ∙ (q g l).1)

-- the other way round
pub sets_back : (x y : Sets) → SameSets x y → SameSets y x
sets_back x y p g l = (sym (p g l).0, sym (p g l).1)

-- ---- who ranks above whom

-- the words say who ranks above whom, of those that are present
abbrev pub Ranks : Ranking → List ℕ → Session → Type 0
Ranks rank w s = (i j : ℕ) → i < s.n → j < s.n → present_at s i ≡ true → present_at s j ≡ true → bit (above_of w i) j ≡ ltb (rank_at rank s j) (rank_at rank s i)

-- task i is t now: if it is present, it was so before, at the same rank
abbrev pub StaysIn : Ranking → Session → ℕ → Task → Type 0
StaysIn rank s i t = not (is_absent t.state) ≡ true → (present_at s i ≡ true) × (rank t i ≡ rank_at rank s i)

-- they say it still where they say what they said, and each task is such a one
pub ranks_stay : (rank : Ranking) (w w' : List ℕ) (s s' : Session) → s.n ≤ 64 → s'.n ≡ s.n → ((j : ℕ) → j < 64 → above_of w' j ≡ above_of w j)
    → ((j : ℕ) → StaysIn rank s j (task_at s' j)) → Ranks rank w s → Ranks rank w' s'
ranks_stay rank w w' s s' few n same kept ranks j k lj lk pj pk =
    ap (λ (x : ℕ). bit x k) (same j (lt_of_lt_of_le (rw n at lj) few))
    ∙ ranks j k (rw n at lj) (rw n at lk) (kept j pj).0 (kept k pk).0
    ∙ ap₂ ltb (sym (kept k pk).1) (sym (kept j pj).1)

-- ---- what a change leaves

-- a place that no event of task i writes, but for the row: not of the tick, the count of events and the states, not of who ranks above whom, and not of the task's numbers, its
-- sets and its rank
pub record Outside (i q : ℕ) : Type 0 where
  pub head : (q < 2) ⊎ (7 ≤ q)
  pub ranks : (q < 72) ⊎ (136 ≤ q)
  pub numbers : (f : ℕ) → f < 8 → number_place i f ≢ q
  pub sets : (f : ℕ) → f < 8 → set_place i f ≢ q
  pub rank : rank_place i ≢ q

-- every such place is as it was
abbrev pub Leaves : ℕ → List ℕ → List ℕ → Type 0
Leaves i w w' = (q : ℕ) → Outside i q → get_or w' q 0 ≡ get_or w q 0

-- the places of m and n
outside_low : (i q : ℕ) → q < 2 → Outside i q
outside_low i q l = record { head = inl l; ranks = inl (omega arith); numbers = λ f m. omega arith; sets = λ f m. omega arith; rank = omega arith }

-- the row
outside_row : (i q : ℕ) → 7 ≤ q → q < 72 → Outside i q
outside_row i q l h = record { head = inr l; ranks = inl h; numbers = λ f m. omega arith; sets = λ f m. omega arith; rank = omega arith }

-- behind the words of who ranks above whom
outside_behind : (i q : ℕ) → 136 ≤ q → ((f : ℕ) → f < 8 → number_place i f ≢ q) → ((f : ℕ) → f < 8 → set_place i f ≢ q) → rank_place i ≢ q → Outside i q
outside_behind i q l numbers sets rank = record { head = inr (omega arith); ranks = inr l; numbers = numbers; sets = sets; rank = rank }

-- the numbers of another task
outside_number : (i j f : ℕ) → j ≢ i → j < 64 → f < 8 → Outside i (number_place j f)
outside_number i j f d l m = outside_behind i (number_place j f) (omega arith) (λ g h. omega arith) (λ g h. omega arith) (omega arith)

-- its sets
outside_set : (i j f : ℕ) → j ≢ i → i < 64 → j < 64 → f < 8 → Outside i (set_place j f)
outside_set i j f d l lj m = outside_behind i (set_place j f) (omega arith) (λ g h. omega arith) (λ g h. omega arith) (omega arith)

-- and its rank
outside_rank : (i j : ℕ) → j ≢ i → i < 64 → Outside i (rank_place j)
outside_rank i j d l = outside_behind i (rank_place j) (omega arith) (λ g h. omega arith) (λ g h. omega arith) (omega arith)

-- the mode
outside_mode : (i : ℕ) → i < 64 → Outside i 1224
outside_mode i l = outside_behind i 1224 (omega arith) (λ g h. omega arith) (λ g h. omega arith) (omega arith)

-- session s' is s but for task i, which is t, its sets, the tick and the count of events
pub record Moved (s : Session) (i : ℕ) (t : Task) (s' : Session) : Type 0 where
  pub tasks : length s'.tasks ≡ 64
  pub reads : length s'.reads ≡ 256
  pub writes : length s'.writes ≡ 256
  pub m : s'.m ≡ s.m
  pub n : s'.n ≡ s.n
  pub mode : s'.mode ≡ s.mode
  pub here : task_at s' i ≡ t
  pub others : (j : ℕ) → j ≢ i → task_at s' j ≡ task_at s j
  pub sets : (j : ℕ) → j ≢ i → SameSets (sets_at s' j) (sets_at s j)

-- words that say what they said of who ranks above whom say it of s' too, where task i, if it is present, was so before, at the same rank
pub moved_ranks : (rank : Ranking) (w w' : List ℕ) (s : Session) (i : ℕ) (t : Task) (s' : Session) → s.n ≤ 64 → Moved s i t s'
    → ((j : ℕ) → j < 64 → above_of w' j ≡ above_of w j) → StaysIn rank s i t → Ranks rank w s → Ranks rank w' s'
moved_ranks rank w w' s i t s' few moved same own =
    ranks_stay rank w w' s s' few moved.n same
    (at_or_other i (λ (j : ℕ). StaysIn rank s j (task_at s' j)) (subst (StaysIn rank s i) (sym moved.here) own)
    (λ j d. subst (StaysIn rank s j) (sym (moved.others j d)) (λ e. (e, refl))))

-- ---- both together: task i is t now, and w' are words of s'

-- the words and the session change in this task alone
pub record Edit (w : List ℕ) (s : Session) (i : ℕ) (t : Task) (w' : List ℕ) (s' : Session) : Type 0 where
  pub moved : Moved s i t s'
  pub leaves : Leaves i w w'
  pub size : length w' ≡ 1280
  pub tick : tick_of w' ≡ s'.tick
  pub accepted : accepted_of w' ≡ s'.accepted
  pub plains : (j : ℕ) → j < 64 → bit (plain_of w') j ≡ cond (eqb j i) (is_plain t.state) (bit (plain_of w) j)
  pub waits : (j : ℕ) → j < 64 → bit (waiting_of w') j ≡ cond (eqb j i) (is_waiting t.state) (bit (waiting_of w) j)
  pub executes : (j : ℕ) → j < 64 → bit (executing_of w') j ≡ cond (eqb j i) (is_executing t.state) (bit (executing_of w) j)
  pub terms : t.terms ≡ (task_at s i).terms
  pub numbers : TaskHeld w' i t
  pub sets : SameSets (sets_in w' i) (sets_at s' i)

module _ (w : List ℕ) (s : Session) (i : ℕ) (t : Task) (w' : List ℕ) (s' : Session) (edit : Edit w s i t w' s') where
  -- the row's places are as they were
  pub edit_size : row_size w' ≡ row_size w
  edit_size = edit.leaves 7 (outside_row i 7 (omega arith) (omega arith))

  pub edit_row : (k : ℕ) → k < 64 → row_at w' k ≡ row_at w k
  edit_row k l = edit.leaves (8 + k) (outside_row i (8 + k) (omega arith) (omega arith))

  -- it is such a change still where who ranks above whom is written anew
  pub edit_anew : (x : List ℕ) → length x ≡ 1280 → ((q : ℕ) → (q < 72) ⊎ (136 ≤ q) → get_or x q 0 ≡ get_or w' q 0) → Edit w s i t x s'
  edit_anew x size same = record {
    moved = edit.moved;
    leaves = λ q o. same q o.ranks ∙ edit.leaves q o;
    size = size;
    tick = same 2 (inl (omega arith)) ∙ edit.tick;
    accepted = same 3 (inl (omega arith)) ∙ edit.accepted;
    plains = λ j l. ap (λ (y : ℕ). bit y j) (same 4 (inl (omega arith))) ∙ edit.plains j l;
    waits = λ j l. ap (λ (y : ℕ). bit y j) (same 5 (inl (omega arith))) ∙ edit.waits j l;
    executes = λ j l. ap (λ (y : ℕ). bit y j) (same 6 (inl (omega arith))) ∙ edit.executes j l;
    terms = edit.terms;
    numbers = numbers_stay w' x i t (λ f l. same (number_place i f) (inr (omega arith))) (same (rank_place i) (inr (omega arith))) edit.numbers;
    sets = sets_meet (sets_in x i) (sets_in w' i) (sets_at s' i) (sets_stay w' x i (λ f l. same (set_place i f) (inr (omega arith)))) edit.sets;
  }

  -- the same tasks wait, where task i waits as before
  edit_waiting : is_waiting t.state ≡ waiting s i → (j : ℕ) → within s' waiting j ≡ within s waiting j
  edit_waiting same =
      at_or_other i (λ (j : ℕ). within s' waiting j ≡ within s waiting j)
      (ap₂ (λ (n : ℕ) (b : Bool). ltb i n && b) edit.moved.n (ap (λ (x : Task). is_waiting x.state) edit.moved.here ∙ same))
      (λ j d. ap₂ (λ (n : ℕ) (x : Task). ltb j n && is_waiting x.state) edit.moved.n (edit.moved.others j d))

  module _ (rank : Ranking) (below : i < s.n) where
    -- a word of one state: its bit is that of the task's state
    state_bit : (f : State → Bool) (x x' : ℕ) → ((j : ℕ) → j < 64 → bit x j ≡ (ltb j s.n && f (task_at s j).state))
        → ((j : ℕ) → j < 64 → bit x' j ≡ cond (eqb j i) (f t.state) (bit x j))
        → (j : ℕ) → j < 64 → bit x' j ≡ (ltb j s'.n && f (task_at s' j).state)
    state_bit f x x' before now =
        at_or_other i (λ (j : ℕ). j < 64 → bit x' j ≡ (ltb j s'.n && f (task_at s' j).state))
        (λ l. now i l ∙ rw (eq-eqb i i refl, edit.moved.n, lt-ltb i s.n below, edit.moved.here))
        (λ j d l. now j l ∙ rw (ne_eqb j i d, edit.moved.n, edit.moved.others j d) (before j l))

    module _ (table : Tabled rank w s) where
      -- each task's number is below 64
      small : (j : ℕ) → j < s'.n → j < 64
      small j l = lt_of_lt_of_le (rw edit.moved.n at l) table.few

      -- each task has its numbers
      pub edit_numbers : (j : ℕ) → j < s'.n → TaskHeld w' j (task_at s' j)
      edit_numbers =
          at_or_other i (λ (j : ℕ). j < s'.n → TaskHeld w' j (task_at s' j)) (λ l. rw edit.moved.here edit.numbers)
          (λ j d l.
          rw (edit.moved.others j d)
          (numbers_stay w w' j (task_at s j) (λ f lf. edit.leaves (number_place j f) (outside_number i j f d (small j l) lf))
          (edit.leaves (rank_place j) (outside_rank i j d (lt_of_lt_of_le below table.few)))
          (table.numbers j (rw edit.moved.n at l))))

      -- the new words hold the new session's tables, where they say who ranks above whom in it
      pub edit_table : Ranks rank w' s' → Tabled rank w' s'
      edit_table ranks = record {
        size = edit.size;
        tasks = edit.moved.tasks;
        reads = edit.moved.reads;
        writes = edit.moved.writes;
        few = rw edit.moved.n table.few;
        m = edit.leaves 0 (outside_low i 0 (omega arith)) ∙ table.m ∙ sym edit.moved.m;
        n = edit.leaves 1 (outside_low i 1 (omega arith)) ∙ table.n ∙ sym edit.moved.n;
        mode = edit.leaves 1224 (outside_mode i (lt_of_lt_of_le below table.few)) ∙ table.mode ∙ sym edit.moved.mode;
        tick = edit.tick;
        accepted = edit.accepted;
        plains = state_bit is_plain (plain_of w) (plain_of w') table.plains edit.plains;
        waits = state_bit is_waiting (waiting_of w) (waiting_of w') table.waits edit.waits;
        executes = state_bit is_executing (executing_of w) (executing_of w') table.executes edit.executes;
        above = ranks;
        numbers = edit_numbers;
        sets =
            at_or_other i (λ (j : ℕ). j < s'.n → SameSets (sets_in w' j) (sets_at s' j)) (λ l. edit.sets)
            (λ j d l.
            sets_meet (sets_in w' j) (sets_in w j) (sets_at s' j)
            (sets_stay w w' j (λ f lf. edit.leaves (set_place j f) (outside_set i j f d (lt_of_lt_of_le below table.few) (small j l) lf)))
            (sets_meet (sets_in w j) (sets_at s j) (sets_at s' j) (table.sets j (rw edit.moved.n at l))
            (sets_back (sets_at s' j) (sets_at s j) (edit.moved.sets j d))));
        periods =
            at_or_other i (λ (j : ℕ). j < s'.n → (task_at s' j).terms.period < 2 ^ 32) (λ l. rw (edit.moved.here, edit.terms) (table.periods i below))
            (λ j d l. rw (edit.moved.others j d) (table.periods j (rw edit.moved.n at l)));
      }

    -- and the new session, where task i waits neither before nor after: so the ranks of those that wait are as they were
    pub edit_holds : waiting s i ≡ false → is_waiting t.state ≡ false → Ranks rank w' s' → Holds rank w s → Holds rank w' s'
    edit_holds waited waits ranks holds = record {
      table = edit_table holds.table ranks;
      row =
          rw edit_size
          (ordered_like (within s waiting) (within s' waiting) (rank_at rank s) (rank_at rank s') w w' (row_size w)
          (λ j l. edit_waiting (waits ∙ sym waited) j)
          (λ j l e.
          ap (λ (x : Task). rank x j)
          (edit.moved.others j (λ same. not_both (waiting s i) (ap (waiting s) (sym same) ∙ and_right (ltb j s.n) (waiting s j) e) waited)))
          (λ k l. edit_row k (lt_of_lt_of_le l holds.row.places))
          holds.row);
    }
