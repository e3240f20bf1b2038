-- Each event keeps a session sound. A refused one changes nothing. One that is accepted changes one task, which is fine at its new state: that makes the
-- session sound where no scan follows, and almost sound where one does.
use Prim.Native.Nat.{ℕ, ◌+◌, ◌*◌, ◌≤◌, ◌<◌, zero-le}
use mathlib.Core.Path.{◌≡◌, refl, sym, ap, ◌∙◌}
use mathlib.Core.Logic.{◌⊎◌, inl, inr, ◌≢◌}
use mathlib.Core.List.{List}
use mathlib.Core.Bool.{Bool, true, false, cond, false≢true, true≢false}
use native.Mathlib.Nat.{zero-add, le_trans, le_of_eq, lt_of_lt_of_le}
use native.Mathlib.Omega.{arith}
use lib.Dec.{ltb}
use lib.ListN.{length, get_or, get_or-replicate}
use borrow.Author.Tests.{ltb-true}
use Rattle.objects.specs.Objects.{groups_at}
use Rattle.objects.proofs.Laws.Below.{not_both}
use Rattle.rules.specs.declared.State.{State}
use Rattle.rules.specs.declared.State.TheVariants.{Absent, Plain, Waiting, Executing}
use Rattle.std.specs.Prelude.{Some}
use Rattle.rules.specs.declared.Session.{Session}
use Rattle.rules.specs.declared.Answer.{Answer}
use Rattle.rules.specs.Ranking.{Ranking, Strict, Stays}
use Rattle.rules.specs.Tasks.{is_absent, is_plain, is_waiting, is_executing, task_at, state_at, sets_at, sets_of, wait_of, in_state, with_groups, with_task, stamped}
use Rattle.rules.specs.Room.{room, ran}
use Rattle.rules.specs.Contest.{blocked}
use Rattle.rules.specs.Scan.{scan}
use Rattle.rules.specs.Events.{early, arrive_number, release_number, commit_number, finish_number, arrived, released, released_into, begins, raised, empty, committed, finished, refused}
use Rattle.rules.specs.Reachable.{EmptyAt, Sound, StepSound}
use Rattle.rules.proofs.Laws.Room.{room_fewer, unblocked_apart}
use Rattle.rules.proofs.Laws.Steps.{arrive_cases, release_cases, commit_cases, finish_cases, step_cases}
use Rattle.rules.proofs.Laws.Rows.{Agree, groups_same, clash_agree}
use Rattle.rules.proofs.Laws.Numbers.{must, must_not, Timely, timely}
use Rattle.rules.proofs.Laws.Alike.{raised_size, raised_alike}
use Rattle.rules.proofs.Laws.Change.{TableBeside, Fine, table_same, rows_same, rows_replaced, scanned_sound, changed_sound}

-- ---- what each number says where it is 0

pub absent_is : (state : State) → is_absent state ≡ true → state ≡ Absent
absent_is Absent e = refl
absent_is Plain e = absurd (false≢true e)
absent_is (Waiting w) e = absurd (false≢true e)
absent_is Executing e = absurd (false≢true e)

pub plain_is : (state : State) → is_plain state ≡ true → state ≡ Plain
plain_is Absent e = absurd (false≢true e)
plain_is Plain e = refl
plain_is (Waiting w) e = absurd (false≢true e)
plain_is Executing e = absurd (false≢true e)

pub executing_is : (state : State) → is_executing state ≡ true → state ≡ Executing
executing_is Absent e = absurd (false≢true e)
executing_is Plain e = absurd (false≢true e)
executing_is (Waiting w) e = absurd (false≢true e)
executing_is Executing e = refl

pub same_tick : (tick a : ℕ) → Some tick ≡ Some a → a ≡ tick
same_tick tick a e = cc

module _ (rank : Ranking) (strict : Strict rank) (stays : Stays rank) (s : Session) (sound : Sound rank s) (tick i : ℕ) where
  -- the groups of a task that neither waits nor executes are empty
  empty_before : i < s.n → is_waiting (state_at s i) ≡ false → is_executing (state_at s i) ≡ false → (g : ℕ) → g < 4 → EmptyAt s i g
  empty_before l w x g lg = sound.emptied i g (lt_of_lt_of_le l sound.n_high) lg w x

  -- a last arrival before is at most this tick
  arrival_before : i < s.n → s.tick ≤ tick → (a : ℕ) → (task_at s i).arrival ≡ Some a → a ≤ tick
  arrival_before l h a e = le_trans (sound.arrivals i a l e) h

  -- ---- arrive

  abbrev arrive_rest_lem : ℕ
  arrive_rest_lem = cond (is_absent (state_at s i)) (cond (early (task_at s i).arrival (task_at s i).terms.period tick) 5 0) 4

  pub arrive_timely : arrive_number s tick i ≡ 0 → Timely s tick i arrive_rest_lem
  unfolding arrive_number
  arrive_timely z = timely s tick i arrive_rest_lem z

  -- it was absent, and its last arrival lies one period back
  pub arrive_was : arrive_number s tick i ≡ 0 → (state_at s i ≡ Absent) × (early (task_at s i).arrival (task_at s i).terms.period tick ≡ false)
  arrive_was z =
      let late = early (task_at s i).arrival (task_at s i).terms.period tick in
      let here = must (is_absent (state_at s i)) (cond late 5 0) 4 (omega arith) (arrive_timely z).rest_zero in
      (absent_is (state_at s i) here.0, (must_not late 0 5 (omega arith) here.1).0)

  arrive_sound : arrive_number s tick i ≡ 0 → Sound rank (with_task (stamped s tick) i (arrived s.mode (task_at s i) tick))
  arrive_sound z =
      changed_sound sound ok (table_same sound i) (rows_same sound i) (arrived s.mode (task_at s i) tick) stays (ap is_executing was) (inl (ap is_plain was)) refl
      (record {
        terms = refl;
        releases = zero-le;
        clashes = zero-le;
        arrivals = λ a e. le_of_eq (same_tick tick a e);
        present = λ e. (tick, refl, refl);
        emptied = λ g l w x. empty_before ok.below (ap is_waiting was) (ap is_executing was) g l;
        gone = λ e. absurd (false≢true e);
        fits = λ e. absurd (false≢true e);
        apart = λ e. absurd (false≢true e);
      })
    where
      ok : Timely s tick i arrive_rest_lem
      ok = arrive_timely z

      was : state_at s i ≡ Absent
      was = (arrive_was z).0

  -- ---- release

  abbrev left : Bool
  left = ltb (task_at s i).releases (task_at s i).terms.transactions

  abbrev left_rest : ℕ
  left_rest = cond left 0 7

  abbrev room_rest : ℕ
  room_rest = cond (room rank s i) left_rest 6

  abbrev release_rest : ℕ
  release_rest = cond (is_plain (state_at s i)) room_rest 4

  module _ (zeroed : release_number rank s tick i ≡ 0) (reads writes : List ℕ) where
    pub release_timely : Timely s tick i release_rest
    unfolding release_number
    release_timely = timely s tick i release_rest zeroed

    pub release_plain : (is_plain (state_at s i) ≡ true) × (room_rest ≡ 0)
    release_plain = must (is_plain (state_at s i)) room_rest 4 (omega arith) release_timely.rest_zero

    release_room : (room rank s i ≡ true) × (left_rest ≡ 0)
    release_room = must (room rank s i) left_rest 6 (omega arith) release_plain.1

    release_left : (task_at s i).releases + 1 ≤ (task_at s i).terms.transactions
    release_left =
        omega (arith, ltb-true (task_at s i).releases (task_at s i).terms.transactions (must left 0 7 (omega arith) release_room.1).0)

    -- the new sets of task i are those that it brings
    pub new_sets : Agree
        (record { reads = groups_at (with_groups s.reads i reads) (i * 4); writes = groups_at (with_groups s.writes i writes) (i * 4) })
        (sets_of reads writes)
    new_sets = record { reads = same s.reads reads sound.reads; writes = same s.writes writes sound.writes }
      where
        same : (row words : List ℕ) → length row ≡ 256 → (g : ℕ) → g < 4 → get_or (with_groups row i words) (i * 4 + g) 0 ≡ get_or words (0 + g) 0
        same row words size g l =
            groups_same row i words g size (lt_of_lt_of_le release_timely.below sound.n_high) l
            ∙ ap (λ (k : ℕ). get_or words k 0) (sym (zero-add g))

    module _ (state : State) where
      abbrev into : Session
      into = released_into s tick i reads writes state

      -- fine where it does not execute, or where it is not blocked
      release_fine : is_absent state ≡ false → (is_waiting state ≡ true) ⊎ (is_executing state ≡ true) → (wait_of state).clashes ≡ 0
          → (is_executing state ≡ true → blocked s (sets_of reads writes) ≡ false) → Fine s i (released (task_at s i) state) into
      release_fine here busy new free = record {
        terms = refl;
        releases = release_left;
        clashes = le_trans (le_of_eq new) zero-le;
        arrivals = arrival_before release_timely.below release_timely.tick;
        emptied = λ g l w x.
            elim busy [ inl y ↦ absurd (not_both (is_waiting state) y w) | inr y ↦ absurd (not_both (is_executing state) y x) ];
        present = λ e. sound.present i release_timely.below (ap is_absent (plain_is (state_at s i) release_plain.0));
        gone = λ e. absurd (not_both (is_absent state) e here);
        fits = λ e. room_fewer rank s i release_room.0;
        apart = λ e j l d x.
            clash_agree (sets_at into i) (sets_at into j) (sets_of reads writes) (sets_at s j) new_sets
            ((rows_replaced sound i reads writes).others j d)
            ∙ unblocked_apart s (sets_of reads writes) (free e) j l x;
      }

    runs_sound : blocked s (sets_of reads writes) ≡ false → Sound rank (released_into s tick i reads writes Executing)
    runs_sound free =
        changed_sound sound release_timely (table_same sound i) (rows_replaced sound i reads writes) (released (task_at s i) Executing) stays
        (ap is_executing (plain_is (state_at s i) release_plain.0))
        (inr refl)
        refl
        (release_fine Executing refl (inr refl) refl (λ e. free))

    waits_sound : Sound rank (scan rank (released_into s tick i reads writes (begins tick))).session
    waits_sound =
        scanned_sound sound release_timely (table_same sound i) (rows_replaced sound i reads writes) (released (task_at s i) newly)
        (release_fine newly refl (inl refl) refl (λ e. absurd (false≢true e)))
        strict
        stays
      where
        newly : State
        newly = begins tick

  -- ---- commit

  abbrev commit_rest_lem : ℕ
  commit_rest_lem = cond (is_executing (state_at s i)) 0 4

  pub commit_timely : commit_number s tick i ≡ 0 → Timely s tick i commit_rest_lem
  unfolding commit_number
  commit_timely z = timely s tick i commit_rest_lem z

  -- it was executing
  pub commit_was : commit_number s tick i ≡ 0 → state_at s i ≡ Executing
  commit_was z = executing_is (state_at s i) (must (is_executing (state_at s i)) 0 4 (omega arith) (commit_timely z).rest_zero).0

  raised_beside : TableBeside s i (raised (ran rank s) s (sets_at s i) s.n)
  raised_beside = record {
    size = raised_size (ran rank s) s (sets_at s i) s.n ∙ sound.tasks;
    others = λ j d. raised_alike (ran rank s) s (sets_at s i) s.n (le_trans sound.n_high (le_of_eq (sym sound.tasks))) j;
  }

  emptied_row : (row : List ℕ) → length row ≡ 256 → i < s.n → (g : ℕ) → g < 4 → get_or (with_groups row i empty) (i * 4 + g) 0 ≡ 0
  emptied_row row size l g lg =
      groups_same row i empty g size (lt_of_lt_of_le l sound.n_high) lg ∙ get_or-replicate 4 g 0 0 lg

  commit_sound : commit_number s tick i ≡ 0 → Sound rank (scan rank (committed rank s tick i)).session
  commit_sound z =
      let ok = commit_timely z in
      scanned_sound sound ok raised_beside (rows_replaced sound i empty empty) (in_state (task_at s i) Plain)
      (record {
        terms = refl;
        releases = sound.releases i ok.below;
        clashes = zero-le;
        arrivals = arrival_before ok.below ok.tick;
        present = λ e. sound.present i ok.below (ap is_absent (commit_was z));
        emptied = λ g l w x. (emptied_row s.reads sound.reads ok.below g l, emptied_row s.writes sound.writes ok.below g l);
        gone = λ e. absurd (false≢true e);
        fits = λ e. absurd (false≢true e);
        apart = λ e. absurd (false≢true e);
      })
      strict
      stays

  -- ---- finish

  abbrev finish_rest_lem : ℕ
  finish_rest_lem = cond (is_plain (state_at s i)) (cond (room rank s i) 0 6) 4

  pub finish_timely : finish_number rank s tick i ≡ 0 → Timely s tick i finish_rest_lem
  unfolding finish_number
  finish_timely z = timely s tick i finish_rest_lem z

  pub finish_was : finish_number rank s tick i ≡ 0 → state_at s i ≡ Plain
  finish_was z =
      plain_is (state_at s i) (must (is_plain (state_at s i)) (cond (room rank s i) 0 6) 4 (omega arith) (finish_timely z).rest_zero).0

  finish_sound : finish_number rank s tick i ≡ 0
      → Sound rank (scan rank (with_task (stamped s tick) i (finished (task_at s i)))).session
  finish_sound z =
      let ok = finish_timely z in
      let was = finish_was z in
      scanned_sound sound ok (table_same sound i) (rows_same sound i) (finished (task_at s i))
      (record {
        terms = refl;
        releases = zero-le;
        clashes = zero-le;
        arrivals = arrival_before ok.below ok.tick;
        present = λ e. absurd (true≢false e);
        emptied = λ g l w x. empty_before ok.below (ap is_waiting was) (ap is_executing was) g l;
        gone = λ e. (refl, refl);
        fits = λ e. absurd (false≢true e);
        apart = λ e. absurd (false≢true e);
      })
      strict
      stays

-- ---- any event

pub step_sound : StepSound
step_sound rank strict stays s e sound =
    step_cases rank s e (λ (a : Answer). Sound rank a.session)
    (λ kind. arrive_cases Keeps s refuses e.tick e.task (arrive_sound rank strict stays s sound e.tick e.task))
    (λ kind. release_cases Keeps s refuses e.tick e.task rank e.reads e.writes
    (λ z b. waits_sound rank strict stays s sound e.tick e.task z e.reads e.writes)
    (λ z b. runs_sound rank strict stays s sound e.tick e.task z e.reads e.writes b))
    (λ kind. commit_cases Keeps s refuses e.tick e.task rank (commit_sound rank strict stays s sound e.tick e.task))
    (λ kind. finish_cases Keeps s refuses e.tick e.task rank (finish_sound rank strict stays s sound e.tick e.task))
  where
    Keeps : Answer → Type 0
    Keeps a = Sound rank a.session

    refuses : (k : ℕ) → k ≢ 0 → Keeps (refused s k)
    refuses k h = sound
