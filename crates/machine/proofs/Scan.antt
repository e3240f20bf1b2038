-- The scan over words that hold a session is the rules' scan of that session. Place by place, the words hold the session that the rules have come to, the admissions so far
-- stand in the list, and the row has the waiting tasks with a gap: those that stay, and those to come.
use Prim.Native.Nat.{ℕ, zero, suc, ◌+◌, ◌-◌, ◌*◌, ◌≤◌, ◌<◌}
use mathlib.Core.Path.{◌≡◌, refl, sym, ap, ap₂, subst, subst₂, ◌∙◌}
use mathlib.Core.Logic.{◌⊎◌, inl, inr, ◌≢◌}
use mathlib.Core.List.{List, [], ◌∷◌}
use mathlib.Core.Bool.{Bool, true, false, not, ◌&&◌, and_comm, and-false, false≢true}
use native.Mathlib.Nat.{add-zero, lt_of_lt_of_le, le_of_eq, le_of_lt, le_refl, ne_of_lt}
use native.Mathlib.Numerals.{add-one}
use native.Mathlib.Omega.{arith}
use lib.Dec.{ltb}
use lib.ListN.{length, get_or, set, length-set}
use lib.Seq.{get_or-set_same, get_or-set_other}
use borrow.Author.Tests.{ltb-true, lt-ltb}
use Rattle.objects.specs.Below.{count}
use Rattle.objects.proofs.Laws.Below.{below_suc, and_left, and_right, and_both}
use Rattle.rules.specs.declared.State.TheVariants.{Executing}
use Rattle.rules.specs.declared.Task.{Task}
use Rattle.rules.specs.declared.Session.{Session}
use Rattle.rules.specs.declared.Admission.{Admission}
use Rattle.rules.specs.Ranking.{Ranking, Strict, Stays}
use Rattle.rules.specs.Tasks.{is_waiting, wait_of, task_at, state_at, waiting, executing, sets_at, in_state}
use Rattle.rules.specs.Room.{rank_at, room}
use Rattle.rules.specs.Contest.{blocked}
use Rattle.rules.specs.Listed.{admission_at}
use Rattle.rules.specs.Scan.{Scanned, admissible, no_admission, none, admission, admit, tried, scan}
use Rattle.rules.proofs.Laws.Kept.{Kept}
use Rattle.rules.proofs.Laws.Tasks.{waiting_not_plain, waiting_inside, task_replaced, task_other}
use Rattle.rules.proofs.Laws.Rows.{four_length, four_kept, four_put_lem}
use Rattle.rules.proofs.Laws.Alike.{at_or_other}
use Rattle.rules.proofs.Laws.Keeping.{EachKept, admitted, admitted_counts}
use Rattle.rules.proofs.Laws.Listed.{Listing, none_listing, listing_fits, admit_listing}
use Rattle.machine.specs.Bits.{with_bit, without_bit}
use Rattle.machine.specs.Places.{plain_of, waiting_of, executing_of, row_size, row_at, row_held, row_task, clashes_at, retries_at, release_at, sets_in}
use Rattle.machine.specs.Row.{Scan, list_put, executes_in, admit_in, keep_in, admissible_in, look_at, look_to, scan_from, closed_up, scan_in}
use Rattle.machine.specs.Holds.{WaitHeld, within, Tabled, Holds}
use Rattle.machine.specs.Theorem.{listed_at, since_at}
use Rattle.machine.proofs.Laws.Choices.{both}
use Rattle.machine.proofs.Laws.Places.{kept, put, sized, chain}
use Rattle.machine.proofs.Laws.Agree.{present, plain_bit, left_agrees, room_agrees, blocked_agrees}
use Rattle.machine.proofs.Laws.Changed.{numbers_like, sets_stay, sets_meet, Ranks, moved_ranks, Edit, edit_table}
use Rattle.machine.proofs.Laws.Edited.{leaves_head, bit_more, bit_less, bit_same, moved_task, table_stays}
use Rattle.machine.proofs.Laws.Gapped.{ordered_stays, Gapped, gapped_first, gapped_closed, gapped_like, leave, keep}
use Rattle.machine.proofs.Laws.Counting.{but, but_self, but_other}
use Rattle.machine.proofs.Laws.Walked.{Row, walked, walked_later, walked_lasts, scan_walked}

-- a scan of session s over words comes to x, and that of the rules to y: as many admissions, the same in the same order, beside each the tick of its release, and words
-- that hold the session
pub record Agrees (rank : Ranking) (s : Session) (x : Scan) (y : Scanned) : Type 0 where
  pub admitted : x.admitted ≡ y.admitted.count
  pub listed : (k : ℕ) → k < x.admitted → listed_at x.list k ≡ admission_at y.admitted k
  pub since : (k : ℕ) → k < x.admitted → since_at x.list k ≡ (wait_of (state_at s (admission_at y.admitted k).task)).release
  pub holds : Holds rank x.words y.session

-- a scan over words that hold a session, and the rules' scan of it
abbrev pub ScanAgrees : Ranking → List ℕ → List ℕ → Session → Type 0
ScanAgrees rank w list s = Agrees rank s (scan_in w list) (scan rank s)

-- ---- a task becomes executing

-- the row is as it was
executes_row : (w : List ℕ) (i k : ℕ) → row_at (executes_in w i) k ≡ row_at w k
executes_row w i k = simp chain

module _ (rank : Ranking) (stays : Stays rank) (w : List ℕ) (s : Session) (table : Tabled rank w s) (i : ℕ) (below : i < s.n) (waits : waiting s i ≡ true) where
  -- the task, executing
  abbrev now : Task
  now = in_state (task_at s i) Executing

  small : i < 64
  small = lt_of_lt_of_le below table.few

  -- a bit less among the waiting tasks and one more among the executing ones: nothing changes but this task
  executes_edit : Edit w s i now (executes_in w i) (admitted s i)
  executes_edit = record {
    moved = moved_task rank w s table s.tick i now small s.accepted;
    leaves =
        leaves_head i w (set w 5 (without_bit (waiting_of w) i)) 6 (with_bit (executing_of w) i) (omega arith) (omega arith)
        (leaves_head i w w 5 (without_bit (waiting_of w) i) (omega arith) (omega arith) (λ q o. refl));
    size = simp length-set table.size;
    tick = simp chain table.tick;
    accepted = simp chain table.accepted;
    plains = λ j l. simp chain (bit_same (plain_of w) i false (plain_bit rank w s table i below ∙ waiting_not_plain (state_at s i) waits) j);
    waits = λ j l. simp (chain, table.size) (bit_less (waiting_of w) i j l);
    executes = λ j l. simp (chain, table.size) (bit_more (executing_of w) i j l);
    terms = refl;
    numbers = numbers_like w (executes_in w i) i (task_at s i) now refl refl refl refl (λ f l. simp chain) (simp chain) (λ e. absurd (false≢true e)) (table.numbers i below);
    sets = sets_meet (sets_in (executes_in w i) i) (sets_in w i) (sets_at s i) (sets_stay w (executes_in w i) i (λ f l. simp chain)) (table.sets i below);
  }

  -- its rank is as it was, and so is who ranks above whom
  executes_ranks : Ranks rank (executes_in w i) (admitted s i)
  executes_ranks =
      moved_ranks rank w (executes_in w i) s i now (admitted s i) table.few executes_edit.moved (λ j l. simp chain)
      (λ e. (present is_waiting refl (state_at s i) waits, stays now (task_at s i) i refl refl refl)) table.above

  -- so the words hold the tables of the session in which it executes
  executes_tabled : Tabled rank (executes_in w i) (admitted s i)
  executes_tabled = edit_table w s i now (executes_in w i) (admitted s i) executes_edit rank below table executes_ranks

-- ---- one more admission in the list

-- an admission by its three numbers
same_admission : (a b : Admission) → a.task ≡ b.task → a.clashes ≡ b.clashes → a.retries ≡ b.retries → a ≡ b
same_admission a b p q r = λ i. record { task = p i; clashes = q i; retries = r i }

module _ (list : List ℕ) (k task clashes retries release : ℕ) where
  -- the four numbers of an admission
  abbrev four : List ℕ
  four = task ∷ clashes ∷ retries ∷ release ∷ []

  -- the list stays as long
  pub list_length : length (list_put list k task clashes retries release) ≡ length list
  list_length = four_length list (k * 4) four

  -- every other admission is as it was
  list_other : (j g : ℕ) → j ≢ k → g < 4 → get_or (list_put list k task clashes retries release) (j * 4 + g) 0 ≡ get_or list (j * 4 + g) 0
  list_other j g d h = four_kept list (k * 4) four (j * 4 + g) (λ b m. omega arith)

  -- read as an admission too
  listed_other : (j : ℕ) → j ≢ k → listed_at (list_put list k task clashes retries release) j ≡ listed_at list j
  listed_other j d =
      same_admission _ _
      (rw add-zero at (list_other j 0 d (omega arith)))
      (list_other j 1 d (omega arith))
      (list_other j 2 d (omega arith))

  -- the new one has its four numbers
  module _ (l : k * 4 + 4 ≤ length list) where
    -- one by one
    list_own : (g : ℕ) → g < 4 → get_or (list_put list k task clashes retries release) (k * 4 + g) 0 ≡ get_or four g 0
    list_own g h = four_put_lem list (k * 4) four g l h

    -- read as an admission
    listed_own : listed_at (list_put list k task clashes retries release) k ≡ record { task = task; clashes = clashes; retries = retries }
    listed_own = same_admission _ _ (rw add-zero at (list_own 0 (omega arith))) (list_own 1 (omega arith)) (list_own 2 (omega arith))

-- ---- place by place

module _ (rank : Ranking) (strict : Strict rank) (stays : Stays rank) (w : List ℕ) (s : Session) (few : s.m ≤ 16) (held : Holds rank w s) where
  -- a row in order has the waiting tasks
  order : Row rank s (row_at w) (row_size w)
  order = record {
    below = λ k l. ltb-true (row_at w k) s.n (and_left (ltb (row_at w k) s.n) (waiting s (row_at w k)) (held.row.each k l).1);
    waits = λ k l. and_right (ltb (row_at w k) s.n) (waiting s (row_at w k)) (held.row.each k l).1;
    rising = held.row.rising;
    all = λ i l e. held.row.all i (lt_of_lt_of_le l held.table.few) (and_both (ltb i s.n) (waiting s i) (lt-ltb i s.n l) e);
  }

  -- a scan keeps the ranks
  kept_rank : (s' : Session) → Kept s s' → (j : ℕ) → rank_at rank s' j ≡ rank_at rank s j
  kept_rank s' k j = go (k.each j)
    where
      go : EachKept s s' j → rank_at rank s' j ≡ rank_at rank s j
      go (inl e) = ap (λ (t : Task). rank t j) e
      go (inr e) = ap (λ (t : Task). rank t j) e.2 ∙ stays (in_state (task_at s j) Executing) (task_at s j) j refl refl refl

  -- a number put into the row, or how many stand in it, leaves the table
  row_table : (v : List ℕ) (s' : Session) (p x : ℕ) → 7 ≤ p → p < 72 → Tabled rank v s' → Tabled rank (set v p x) s'
  row_table v s' p x low high table = table_stays rank v (set v p x) s' (sized v p x table.size) same table
    where
      same : (q : ℕ) → (q < 7) ⊎ (72 ≤ q) → get_or (set v p x) q 0 ≡ get_or v q 0
      same q (inl l) = kept v p q x (omega arith)
      same q (inr l) = kept v p q x (omega arith)

  -- before place p: how far both scans have come
  record At (p : ℕ) (x : Scan) (y : Scanned) : Type 0 where
    -- the words hold the session but for the row, which has those that wait, with a gap: those that stay, and those to come
    table : Tabled rank x.words y.session
    row : Gapped (within y.session waiting) (rank_at rank s) x.words x.kept p (row_size w)
    -- those to come stand where they stood
    come : (q : ℕ) → p ≤ q → q < row_size w → row_at x.words q ≡ row_at w q
    -- so many more may execute
    left : x.left ≡ y.session.m - count y.session.n (executing y.session)
    -- and both lists have the same admissions
    admitted : x.admitted ≡ y.admitted.count
    size : length x.list ≡ 64
    listed : (k : ℕ) → k < x.admitted → listed_at x.list k ≡ admission_at y.admitted k
    since : (k : ℕ) → k < x.admitted → since_at x.list k ≡ (wait_of (state_at s (admission_at y.admitted k).task)).release

  -- the task at place p, which is as it was
  module _
      (p : ℕ)
      (l : p < row_size w)
      (x : Scan)
      (y : Scanned)
      (a : At p x y)
      (listing : Listing s y)
      (here : task_at y.session (row_at w p) ≡ task_at s (row_at w p))
    where
      -- it is a task, waits, and stands in the row by its number
      here_below : row_at w p < y.session.n
      here_below = lt_of_lt_of_le (order.below p l) (le_of_eq (sym listing.counted.kept.n))

      here_waits : waiting y.session (row_at w p) ≡ true
      here_waits = ap (λ (t : Task). is_waiting t.state) here ∙ order.waits p l

      here_small : row_at w p < 64
      here_small = (held.row.each p l).0

      here_task : row_task x.words p ≡ row_at w p
      here_task = omega (arith, a.come p (omega arith) l, here_small)

      -- it is asked the same
      here_asked : admissible_in x (row_at w p) ≡ admissible rank y.session (row_at w p)
      unfolding admissible
      here_asked =
          ap₂ (λ (b c : Bool). b && not c)
          (room_agrees rank x.words y.session a.table x.left (row_at w p) a.left here_below
          (present is_waiting refl (state_at y.session (row_at w p)) here_waits))
          (blocked_agrees rank x.words y.session a.table (row_at w p) here_below)
          ∙ and_comm (room rank y.session (row_at w p)) (not (blocked y.session (sets_at y.session (row_at w p))))

      -- it stays
      at_keeps : At (suc p) (keep_in x p) y
      unfolding keep_in
      at_keeps = record {
        table = row_table x.words y.session (8 + x.kept) (row_at x.words p) (omega arith) (omega (arith, a.row.gap, a.row.end, a.row.places)) a.table;
        row =
            rw (add-one p) at
            (keep (within y.session waiting) (rank_at rank s) x.words x.kept p (row_size w) a.row l a.table.size);
        come = λ q h m. kept x.words (8 + x.kept) (8 + q) (row_at x.words p) (omega (arith, a.row.gap)) ∙ a.come q (le_of_lt h) m;
        left = a.left;
        admitted = a.admitted;
        size = a.size;
        listed = a.listed;
        since = a.since;
      }

      -- it is admitted
      module _ (free : admissible rank y.session (row_at w p) ≡ true) where
        -- there is a place for it in the list of the rules, and one in the list of numbers
        fits : y.admitted.count < length y.admitted.list
        fits = listing_fits rank s few y (row_at w p) listing free

        place : x.admitted * 4 + 4 ≤ length x.list
        place = omega (arith, fits, listing.size, a.admitted, a.size)

        -- it waits no more, and the others wait as before
        waits_after : (j : ℕ) → within (admit y (row_at w p)).session waiting j ≡ but (within y.session waiting) (row_at w p) j
        waits_after =
            at_or_other (row_at w p) (λ (j : ℕ). within (admit y (row_at w p)).session waiting j ≡ but (within y.session waiting) (row_at w p) j)
            (ap (λ (t : Task). ltb (row_at w p) y.session.n && is_waiting t.state)
            (task_replaced y.session (row_at w p) (in_state (task_at y.session (row_at w p)) Executing) (waiting_inside y.session (row_at w p) here_waits))
            ∙ and-false (ltb (row_at w p) y.session.n) ∙ sym (but_self (within y.session waiting) (row_at w p)))
            (λ j d.
            ap (λ (t : Task). ltb j y.session.n && is_waiting t.state)
            (task_other y.session (row_at w p) j (in_state (task_at y.session (row_at w p)) Executing) d)
            ∙ sym (but_other (within y.session waiting) (row_at w p) j d))

        -- so the row has the tasks that wait, without it
        row_after : Gapped (within (admit y (row_at w p)).session waiting) (rank_at rank s) (executes_in x.words (row_at w p)) x.kept (suc p) (row_size w)
        row_after =
            gapped_like (but (within y.session waiting) (row_at x.words p)) (within (admit y (row_at w p)).session waiting) (rank_at rank s) (rank_at rank s) x.words (executes_in x.words (row_at w p)) x.kept (suc p) (row_size w)
            (rw (add-one p) at
            (leave (within y.session waiting) (rank_at rank s) x.words x.kept p (row_size w) a.row l))
            (λ j m. waits_after j ∙ ap (λ (i : ℕ). but (within y.session waiting) i j) (sym (a.come p (omega arith) l)))
            (λ j m. refl)
            (λ k u. executes_row x.words (row_at w p) k)

        -- the numbers of its wait stand in the words
        wait_held : WaitHeld x.words (row_at w p) (wait_of (state_at y.session (row_at w p)))
        wait_held = (a.table.numbers (row_at w p) here_below).wait here_waits

        -- its admission
        new : Admission
        new = admission (row_at w p) (state_at y.session (row_at w p))

        -- it stands behind the others, which stay
        new_there : admission_at (admit y (row_at w p)).admitted x.admitted ≡ new
        unfolding new
        new_there = rw a.admitted (get_or-set_same y.admitted.list y.admitted.count new no_admission fits)

        old_there : (k : ℕ) → k < x.admitted → admission_at (admit y (row_at w p)).admitted k ≡ admission_at y.admitted k
        unfolding new
        old_there k m = get_or-set_other y.admitted.list y.admitted.count k new no_admission (omega (arith, a.admitted))

        -- the list with it
        abbrev list_after : List ℕ
        list_after =
            list_put x.list x.admitted (row_at w p) (clashes_at x.words (row_at w p)) (retries_at x.words (row_at w p)) (release_at x.words (row_at w p))

        -- both lists have the same admissions
        listed_after : (k : ℕ) → (k ≡ x.admitted) ⊎ (k < x.admitted) → listed_at list_after k ≡ admission_at (admit y (row_at w p)).admitted k
        unfolding new
        listed_after k (inl e) =
            ap (listed_at list_after) e ∙ listed_own x.list x.admitted (row_at w p) _ _ _ place
            ∙ same_admission _ new refl wait_held.clashes wait_held.retries
            ∙ sym (ap (admission_at (admit y (row_at w p)).admitted) e ∙ new_there)
        listed_after k (inr m) =
            listed_other x.list x.admitted (row_at w p) _ _ _ k (ne_of_lt m) ∙ a.listed k m ∙ sym (old_there k m)

        -- with the tick of each one's release
        since_after : (k : ℕ) → (k ≡ x.admitted) ⊎ (k < x.admitted)
            → since_at list_after k ≡ (wait_of (state_at s (admission_at (admit y (row_at w p)).admitted k).task)).release
        unfolding new
        since_after k (inl e) =
            ap (since_at list_after) e ∙ list_own x.list x.admitted (row_at w p) _ _ _ place 3 (omega arith)
            ∙ wait_held.release
            ∙ ap (λ (t : Task). (wait_of t.state).release) here
            ∙ sym (ap (λ (b : Admission). (wait_of (state_at s b.task)).release) (ap (admission_at (admit y (row_at w p)).admitted) e ∙ new_there))
        since_after k (inr m) =
            list_other x.list x.admitted (row_at w p) _ _ _ k 3 (ne_of_lt m) (omega arith) ∙ a.since k m
            ∙ sym (ap (λ (b : Admission). (wait_of (state_at s b.task)).release) (old_there k m))

        -- both are one place on
        at_admits : At (suc p) (admit_in x (row_at w p)) (admit y (row_at w p))
        unfolding admit_in
        at_admits = record {
          table = executes_tabled rank stays x.words y.session a.table (row_at w p) here_below here_waits;
          row = row_after;
          come = λ q h m. executes_row x.words (row_at w p) q ∙ a.come q (le_of_lt h) m;
          left = omega (arith, a.left, admitted_counts y.session (row_at w p) here_below here_waits);
          admitted = ap (λ (k : ℕ). k + 1) a.admitted;
          size = list_length x.list x.admitted (row_at w p) _ _ _ ∙ a.size;
          listed = λ k m. listed_after k (below_suc k x.admitted (omega arith));
          since = λ k m. since_after k (below_suc k x.admitted (omega arith));
        }

      -- either way both are one place on
      at_more : At (suc p) (look_at x p) (tried rank y (row_at w p))
      unfolding look_at
      at_more =
          both (At (suc p)) (ap (admissible_in x) here_task ∙ here_asked)
          (λ e. subst (λ (i : ℕ). At (suc p) (admit_in x i) (admit y (row_at w p))) (sym here_task) (at_admits e))
          (λ e. at_keeps)

  -- ---- all places

  module _ (list : List ℕ) (size : length list ≡ 64) where
    -- the rules' scan before place p
    abbrev before : ℕ → Scanned
    before = walked rank (row_at w) (record { admitted = none; session = s })

    -- what the rules have listed before it
    listing_at : (p : ℕ) → p ≤ row_size w → Listing s (before p)
    listing_at = walked_lasts rank s (row_at w) (row_size w) order (Listing s) (admit_listing rank s few) (none_listing s)

    -- before the first place
    at_first : At 0 (scan_from w list) (record { admitted = none; session = s })
    at_first = record {
      table = held.table;
      row = gapped_first (within s waiting) (rank_at rank s) w (row_size w) held.row;
      come = λ q h m. refl;
      left = left_agrees rank w s held.table;
      admitted = refl;
      size = size;
      listed = λ k m. absurd (omega arith);
      since = λ k m. absurd (omega arith);
    }

    -- before each place
    at_place : (p : ℕ) → p ≤ row_size w → At p (look_to (scan_from w list) p) (before p)
    unfolding look_to walked
    at_place zero h = at_first
    at_place (suc p) h =
        at_more p h (look_to (scan_from w list) p) (before p) (at_place p (le_of_lt h)) (listing_at p (le_of_lt h))
        (walked_later rank s (row_at w) (row_size w) order p p (le_refl p) h)

    -- the row has its places
    all_held : row_held w ≡ row_size w
    all_held = omega (arith, held.row.places)

    -- behind the last place the row is in order again
    at_end : (x : Scan) (y : Scanned) → At (row_size w) x y → Kept s y.session → Agrees rank s (closed_up x) y
    at_end x y a k = record {
      admitted = a.admitted;
      listed = a.listed;
      since = a.since;
      holds = record {
        table = row_table x.words y.session 7 x.kept (omega arith) (omega arith) a.table;
        row =
            rw (put x.words 7 x.kept (omega (arith, a.table.size)))
            (ordered_stays (within y.session waiting) (within y.session waiting) (rank_at rank s) (rank_at rank y.session) x.words (set x.words 7 x.kept) x.kept
            (λ j m. refl)
            (kept_rank y.session k)
            (λ q m. kept x.words 7 (8 + q) x.kept (omega arith))
            (gapped_closed (within y.session waiting) (rank_at rank s) x.words x.kept (row_size w) a.row));
      };
    }

    -- both scans to their end
    all_places : Agrees rank s (scan_in w list) (scan rank s)
    unfolding scan_in
    all_places =
        subst₂ (Agrees rank s) (sym (ap (λ (p : ℕ). closed_up (look_to (scan_from w list) p)) all_held))
        (sym (scan_walked rank s (row_at w) (row_size w) order strict held.table.few))
        (at_end (look_to (scan_from w list) (row_size w)) (before (row_size w)) (at_place (row_size w) (le_refl (row_size w)))
        (listing_at (row_size w) (le_refl (row_size w))).counted.kept)

-- the scan over words that hold a session is the rules' scan of the session
pub scan_holds : (rank : Ranking) → Strict rank → Stays rank → (w list : List ℕ) (s : Session) → length list ≡ 64 → s.m ≤ 16 → Holds rank w s
    → ScanAgrees rank w list s
scan_holds rank strict stays w list s size few held = all_places rank strict stays w s few held list size
