-- How a session stays sound when an event changes one task: that task is replaced and the others stay alike, its four words may be replaced and the others
-- stay. What is asked of the new task is one record; the rest is kept.
use Prim.Native.Nat.{ℕ, ◌+◌, ◌*◌, ◌≤◌, ◌<◌}
use mathlib.Core.Path.{◌≡◌, refl, sym, ap, ◌∙◌}
use mathlib.Core.Logic.{◌⊎◌, inl, inr, ◌≢◌}
use mathlib.Core.List.{List}
use mathlib.Core.Bool.{Bool, true, false, ◌&&◌}
use native.Mathlib.Nat.{le_trans, le_of_eq, lt_of_lt_of_le, ne_of_gt}
use native.Mathlib.Omega.{arith}
use lib.Dec.{ltb}
use lib.ListN.{length, get_or, set, length-set}
use lib.Seq.{get_or-set_same, get_or-set_other}
use borrow.Author.Tests.{ltb-false, le-ltb}
use Rattle.objects.specs.Below.{one, count}
use Rattle.objects.specs.Objects.{groups_at, clash}
use Rattle.objects.proofs.Laws.Below.{not_both, and_left, and_right, and_both, any_mono, one_le, count_change}
use Rattle.objects.proofs.Laws.Clash.{clash_sym}
use Rattle.rules.specs.declared.Wait.{Wait}
use Rattle.rules.specs.declared.State.{State}
use Rattle.rules.specs.declared.State.TheVariants.{Waiting}
use Rattle.std.specs.Prelude.{Some}
use Rattle.rules.specs.declared.Task.{Task}
use Rattle.rules.specs.declared.Session.{Session}
use Rattle.rules.specs.Ranking.{Ranking, Strict, Stays}
use Rattle.rules.specs.Tasks.{is_absent, is_plain, is_waiting, is_executing, wait_of, task_at, state_at, plain, waiting, executing, sets_at, no_task, with_groups}
use Rattle.rules.specs.Setup.{terms_number}
use Rattle.rules.specs.Room.{rank_at, plain_above, room}
use Rattle.rules.specs.Contest.{blocked}
use Rattle.rules.specs.Scan.{scan}
use Rattle.rules.specs.Reachable.{EmptyAt, Job, Sound}
use Rattle.rules.proofs.Laws.Kept.{Apart, Held}
use Rattle.rules.proofs.Laws.Rows.{Agree, groups_length, groups_other, clash_agree}
use Rattle.rules.proofs.Laws.Numbers.{Timely}
use Rattle.rules.proofs.Laws.Alike.{at_or_other, Alike, alike_terms, alike_arrival, alike_releases, alike_rank, alike_state, alike_clashes, alike_same}
use Rattle.rules.proofs.Laws.Almost.{Almost, almost_sound, scanning_sound}

-- ---- the change

-- the session after an accepted event at this tick: task i is t, in a table of tasks and two rows of words
abbrev pub after : Session → ℕ → ℕ → Task → List Task → List ℕ → List ℕ → Session
after s at i t table reads writes = record {
  m = s.m;
  n = s.n;
  mode = s.mode;
  tick = at;
  accepted = s.accepted + 1;
  tasks = set table i t;
  reads = reads;
  writes = writes;
}

-- every task but i stays alike
pub record TableBeside (s : Session) (i : ℕ) (table : List Task) : Type 0 where
  pub size : length table ≡ 64
  pub others : (j : ℕ) → j ≢ i → Alike (task_at s j) (get_or table j no_task)

-- every task but i has the same sets
pub record RowsBeside (s : Session) (i : ℕ) (reads writes : List ℕ) : Type 0 where
  pub reads_size : length reads ≡ 256
  pub writes_size : length writes ≡ 256
  pub others : (j : ℕ) → j ≢ i → Agree (record { reads = groups_at reads (j * 4); writes = groups_at writes (j * 4) }) (sets_at s j)

-- what is asked of the new task t, with s' the session after the event
pub record Fine (s : Session) (i : ℕ) (t : Task) (s' : Session) : Type 0 where
  pub terms : t.terms ≡ (task_at s i).terms
  pub releases : t.releases ≤ t.terms.transactions
  pub clashes : (wait_of t.state).clashes ≤ s.accepted + 1
  pub arrivals : (a : ℕ) → t.arrival ≡ Some a → a ≤ s'.tick
  pub present : is_absent t.state ≡ false → Job s.mode t
  pub emptied : (g : ℕ) → g < 4 → is_waiting t.state ≡ false → is_executing t.state ≡ false → EmptyAt s' i g
  pub gone : is_absent t.state ≡ true → (t.releases ≡ 0) × (t.rank ≡ 0)
  pub fits : is_executing t.state ≡ true → count s.n (executing s) < s.m
  pub apart : is_executing t.state ≡ true → (j : ℕ) → j < s.n → j ≢ i → executing s j ≡ true → clash (sets_at s' i) (sets_at s' j) ≡ false

module _ {rank : Ranking} {s : Session} (sound : Sound rank s) (i : ℕ) where
  pub table_same : TableBeside s i s.tasks
  table_same = record { size = sound.tasks; others = λ j d. inl refl }

  pub rows_same : RowsBeside s i s.reads s.writes
  rows_same = record {
    reads_size = sound.reads;
    writes_size = sound.writes;
    others = λ j d. record { reads = λ g l. refl; writes = λ g l. refl };
  }

  pub rows_replaced : (reads writes : List ℕ) → RowsBeside s i (with_groups s.reads i reads) (with_groups s.writes i writes)
  rows_replaced reads writes = record {
    reads_size = groups_length s.reads i reads ∙ sound.reads;
    writes_size = groups_length s.writes i writes ∙ sound.writes;
    others = λ j d. record { reads = λ g l. groups_other s.reads i reads j g d l; writes = λ g l. groups_other s.writes i writes j g d l };
  }

module _ {rank : Ranking} {s : Session} (sound : Sound rank s) {at i rest : ℕ} (timely : Timely s at i rest) {table : List Task}
    (beside : TableBeside s i table) {reads writes : List ℕ} (rows : RowsBeside s i reads writes) (t : Task) where
  abbrev s' : Session
  s' = after s at i t table reads writes

  below_64 : i < 64
  below_64 = lt_of_lt_of_le timely.below sound.n_high

  here : task_at s' i ≡ t
  here = get_or-set_same table i t no_task (lt_of_lt_of_le below_64 (le_of_eq (sym beside.size)))

  other : (j : ℕ) → j ≢ i → Alike (task_at s j) (task_at s' j)
  other j d = rw (get_or-set_other table i j t no_task d) (beside.others j d)

  other_state : (f : State → Bool) → ((w v : Wait) → f (Waiting w) ≡ f (Waiting v)) → (j : ℕ) → j ≢ i → f (state_at s' j) ≡ f (state_at s j)
  other_state f h j d = alike_state f h (task_at s j) (task_at s' j) (other j d)

  here_state : (f : State → Bool) → f (state_at s' i) ≡ f t.state
  here_state f = ap (λ (x : Task). f x.state) here

  other_executing : (j : ℕ) → j ≢ i → executing s' j ≡ executing s j
  other_executing = other_state is_executing (λ w v. refl)

  other_waiting : (j : ℕ) → j ≢ i → waiting s' j ≡ waiting s j
  other_waiting = other_state is_waiting (λ w v. refl)

  other_clash : (j k : ℕ) → j ≢ i → k ≢ i → clash (sets_at s' j) (sets_at s' k) ≡ clash (sets_at s j) (sets_at s k)
  other_clash j k d e =
      clash_agree (sets_at s' j) (sets_at s' k) (sets_at s j) (sets_at s k) (rows.others j d) (rows.others k e)

  -- how many execute: only task i counts differently
  executing_change : count s.n (executing s') + one (executing s i) ≡ count s.n (executing s) + one (is_executing t.state)
  executing_change =
      count_change s.n (executing s') (executing s) i timely.below (λ j l d. other_executing j d)
      ∙ ap (λ (b : Bool). count s.n (executing s) + one b) (here_state is_executing)

  module _ (fine : Fine s i t s') where
    fit_stays : count s.n (executing s') ≤ s.m
    fit_stays = go (is_executing t.state) refl
      where
        go : (b : Bool) → is_executing t.state ≡ b → count s.n (executing s') ≤ s.m
        go true e = omega (arith, executing_change, ap one e, fine.fits e)
        go false e = omega (arith, executing_change, ap one e, sound.fit)

    apart_here : (j : ℕ) → j < s.n → j ≢ i → executing s' i ≡ true → executing s' j ≡ true → clash (sets_at s' i) (sets_at s' j) ≡ false
    apart_here j l d x y = fine.apart (sym (here_state is_executing) ∙ x) j l d (sym (other_executing j d) ∙ y)

    apart_stays : Apart s'
    apart_stays =
        at_or_other i (λ (j : ℕ). (k : ℕ) → j < s.n → k < s.n → j ≢ k → executing s' j ≡ true → executing s' k ≡ true → clash (sets_at s' j) (sets_at s' k) ≡ false)
        (λ k lj lk d x y. apart_here k lk (λ e. d (sym e)) x y)
        (λ j dj. at_or_other i (λ (k : ℕ). j < s.n → k < s.n → j ≢ k → executing s' j ≡ true → executing s' k ≡ true → clash (sets_at s' j) (sets_at s' k) ≡ false)
        (λ lj lk d x y. clash_sym (sets_at s' j) (sets_at s' i) ∙ apart_here j lj d y x)
        (λ k dk lj lk d x y.
        other_clash j k dj dk ∙ sound.apart j k lj lk d (sym (other_executing j dj) ∙ x) (sym (other_executing k dk) ∙ y)))

    -- a law of the tasks below n, at i and at the others
    everywhere : (P : ℕ → Task → Type 0) → P i t → ((j : ℕ) → j ≢ i → P j (task_at s' j)) → (j : ℕ) → P j (task_at s' j)
    everywhere P a b = at_or_other i (λ (j : ℕ). P j (task_at s' j)) (rw here a) b

    changed_almost : Almost s'
    changed_almost = record {
      tasks = length-set table i t ∙ beside.size;
      reads = rows.reads_size;
      writes = rows.writes_size;
      m_low = sound.m_low;
      m_high = sound.m_high;
      n_low = sound.n_low;
      n_high = sound.n_high;
      terms =
          everywhere (λ (j : ℕ) (x : Task). j < s.n → terms_number x.terms ≡ 0) (λ l. ap terms_number fine.terms ∙ sound.terms i l)
          (λ j d l. ap terms_number (alike_terms (task_at s j) (task_at s' j) (other j d)) ∙ sound.terms j l);
      apart = apart_stays;
      fit = fit_stays;
      releases =
          everywhere (λ (j : ℕ) (x : Task). j < s.n → x.releases ≤ x.terms.transactions) (λ l. fine.releases)
          (λ j d l. rw (alike_releases (task_at s j) (task_at s' j) (other j d), alike_terms (task_at s j) (task_at s' j) (other j d)) (sound.releases j l));
      clashes =
          everywhere (λ (j : ℕ) (x : Task). j < s.n → (wait_of x.state).clashes ≤ s.accepted + 1) (λ l. fine.clashes)
          (λ j d l. omega (arith, alike_clashes (task_at s j) (task_at s' j) (other j d), sound.clashes j l));
      arrivals = λ j a.
          everywhere (λ (j : ℕ) (x : Task). j < s.n → x.arrival ≡ Some a → a ≤ at) (λ l. fine.arrivals a)
          (λ j d l e. le_trans (sound.arrivals j a l (sym (alike_arrival (task_at s j) (task_at s' j) (other j d)) ∙ e)) timely.tick) j;
      accepted = timely.accepted;
      present =
          everywhere (λ (j : ℕ) (x : Task). j < s.n → is_absent x.state ≡ false → Job s.mode x) (λ l. fine.present)
          (λ j d l e.
          let p = sound.present j l (sym (other_state is_absent (λ w v. refl) j d) ∙ e) in (
            p.0,
            alike_arrival (task_at s j) (task_at s' j) (other j d) ∙ p.1,
            rw (alike_rank (task_at s j) (task_at s' j) (other j d), alike_terms (task_at s j) (task_at s' j) (other j d)) p.2,
          ));
      emptied = λ j g.
          everywhere (λ (j : ℕ) (x : Task). j < 64 → g < 4 → is_waiting x.state ≡ false → is_executing x.state ≡ false → EmptyAt s' j g)
          (λ l lg. fine.emptied g lg)
          (λ j d l lg w x.
          let p = sound.emptied j g l lg (sym (other_waiting j d) ∙ w) (sym (other_executing j d) ∙ x) in
          ((rows.others j d).reads g lg ∙ p.0, (rows.others j d).writes g lg ∙ p.1)) j;
      gone =
          everywhere (λ (j : ℕ) (x : Task). j < s.n → is_absent x.state ≡ true → (x.releases ≡ 0) × (x.rank ≡ 0)) (λ l. fine.gone)
          (λ j d l e.
          let p = sound.gone j l (sym (other_state is_absent (λ w v. refl) j d) ∙ e) in
          (alike_releases (task_at s j) (task_at s' j) (other j d) ∙ p.0, alike_rank (task_at s j) (task_at s' j) (other j d) ∙ p.1));
      past = λ j h l.
          let d : j ≢ i = ne_of_gt (lt_of_lt_of_le timely.below h) in
          alike_same (task_at s j) (task_at s' j) (ap (λ (x : Task). is_waiting x.state) (sound.past j h l)) (other j d) ∙ sound.past j h l;
    }

    -- where a scan follows
    pub scanned_sound : Strict rank → Stays rank → Sound rank (scan rank s').session
    scanned_sound strict stays = scanning_sound rank strict stays s' changed_almost

  -- Where no scan follows: the task did not execute and does not wait; it was not plain, or it executes now. So whatever held a waiting task holds it still.
  module _ (stays : Stays rank) (idle : executing s i ≡ false) (moves : (plain s i ≡ false) ⊎ (is_executing t.state ≡ true))
      (quiet : is_waiting t.state ≡ false) where
    other_rank : (j : ℕ) → j ≢ i → rank_at rank s' j ≡ rank_at rank s j
    other_rank j d =
        stays (task_at s' j) (task_at s j) j (alike_terms (task_at s j) (task_at s' j) (other j d)) (alike_arrival (task_at s j) (task_at s' j) (other j d))
        (alike_rank (task_at s j) (task_at s' j) (other j d))

    other_above : (j k : ℕ) → j ≢ i → k ≢ i → plain_above rank s' j k ≡ plain_above rank s j k
    other_above j k d e = rw (other_state is_plain (λ w v. refl) k e, other_rank k e, other_rank j d)

    blocked_stays : (j : ℕ) → j ≢ i → blocked s (sets_at s j) ≡ true → blocked s' (sets_at s' j) ≡ true
    unfolding blocked
    blocked_stays j d =
        any_mono s.n (λ k. executing s k && clash (sets_at s j) (sets_at s k)) (λ k. executing s' k && clash (sets_at s' j) (sets_at s' k))
        (λ k l. at_or_other i (λ (k : ℕ). (executing s k && clash (sets_at s j) (sets_at s k)) ≡ true → (executing s' k && clash (sets_at s' j) (sets_at s' k)) ≡ true)
        (λ b. absurd (not_both (executing s i) (and_left (executing s i) (clash (sets_at s j) (sets_at s i)) b) idle))
        (λ k e b.
        and_both (executing s' k) (clash (sets_at s' j) (sets_at s' k))
        (other_executing k e ∙ and_left (executing s k) (clash (sets_at s j) (sets_at s k)) b)
        (other_clash j k d e ∙ and_right (executing s k) (clash (sets_at s j) (sets_at s k)) b))
        k)

    above_change : (j : ℕ) → j ≢ i
        → count s.n (plain_above rank s' j) + one (plain_above rank s j i) ≡ count s.n (plain_above rank s j) + one (plain_above rank s' j i)
    above_change j d = count_change s.n (plain_above rank s' j) (plain_above rank s j) i timely.below (λ k l e. other_above j k d e)

    crowd_grows : (j : ℕ) → j ≢ i
        → count s.n (executing s) + count s.n (plain_above rank s j) ≤ count s.n (executing s') + count s.n (plain_above rank s' j)
    crowd_grows j d = go moves
      where
        go : (plain s i ≡ false) ⊎ (is_executing t.state ≡ true)
            → count s.n (executing s) + count s.n (plain_above rank s j) ≤ count s.n (executing s') + count s.n (plain_above rank s' j)
        go (inl p) =
            omega (arith, executing_change, above_change j d, ap one idle, ap (λ (b : Bool). one (b && ltb (rank_at rank s i) (rank_at rank s j))) p)
        go (inr x) = omega (arith, executing_change, above_change j d, ap one idle, ap one x, one_le (plain_above rank s j i))

    room_stays : (j : ℕ) → j ≢ i → room rank s j ≡ false → room rank s' j ≡ false
    unfolding room
    room_stays j d e =
        le-ltb (count s.n (executing s') + count s.n (plain_above rank s' j)) s.m
        (le_trans (ltb-false (count s.n (executing s) + count s.n (plain_above rank s j)) s.m e) (crowd_grows j d))

    changed_held : Held rank s'
    changed_held =
        at_or_other i (λ (j : ℕ). j < s.n → waiting s' j ≡ true → (blocked s' (sets_at s' j) ≡ true) ⊎ (room rank s' j ≡ false))
        (λ l w. absurd (not_both (waiting s' i) w (here_state is_waiting ∙ quiet)))
        (λ j d l w.
        elim (sound.held j l (sym (other_waiting j d) ∙ w)) [ inl b ↦ inl (blocked_stays j d b) | inr r ↦ inr (room_stays j d r) ])

    pub changed_sound : Fine s i t s' → Sound rank s'
    changed_sound fine = almost_sound rank s' (changed_almost fine) changed_held
