-- A session laid into words and read back, as the loops that do it go: the numbers and the states of the first tasks, and the first tasks read back; and four words
-- copied at once.
use Prim.Native.Nat.{ℕ, suc, ◌+◌, ◌%◌, ◌≤◌, ◌<◌, min}
use mathlib.Core.Path.{◌≡◌, refl, sym, ap, ◌∙◌}
use mathlib.Core.List.{List}
use native.Mathlib.Nat.{add-zero}
use native.Mathlib.Numerals.{add-one}
use native.Mathlib.Omega.{arith}
use lib.ListN.{length, get_or, set}
use lib.Seq.{paste}
use borrow.Rule.Slice.PartMut.{put_mid}
use Rattle.std.proofs.lemmas.List.Edits.{paste_none, paste_more}
use Rattle.std.proofs.lemmas.Slice.{put_mid-paste}
use Rattle.rules.specs.declared.Session.{Session}
use Rattle.rules.specs.Tasks.{task_at, wait_of, with_groups}
use Rattle.machine.specs.Places.{m_of, n_of, tick_of, accepted_of, mode_of, set_place, sets_put}
use Rattle.machine.specs.Ranks.{ranks_moved}
use Rattle.machine.specs.Opened.{head_put, terms_put, wait_put, four_of, numbers_put, state_put, states_put, held, opened, task_back, four_at, tasks_back, read_back}

-- ---- laid in

module _ (w : List ℕ) (s : Session) where
  pub numbers_none : w ≡ numbers_put w s 0
  unfolding numbers_put
  numbers_none = refl

  -- the numbers and the sets of task k put into words
  abbrev numbered_one : List ℕ → ℕ → List ℕ
  numbered_one v k = sets_put (wait_put (terms_put v k (task_at s k)) k (wait_of (task_at s k).state)) k (four_of s.reads k) (four_of s.writes k)

  numbers_next : (k : ℕ) → numbers_put w s (suc k) ≡ numbered_one (numbers_put w s k) k
  unfolding numbers_put
  numbers_next k = refl

  -- one task more
  pub numbers_more : (k : ℕ) (v u : List ℕ) → v ≡ numbers_put w s k → u ≡ numbered_one v k → u ≡ numbers_put w s (k + 1)
  numbers_more k v u e f = rw (add-one k) (f ∙ rw e (sym (numbers_next k)))

  pub states_none : w ≡ states_put w s 0
  unfolding states_put
  states_none = refl

  -- who ranks above task k, and its state, put into words
  abbrev stated_one : List ℕ → ℕ → List ℕ
  stated_one v k = state_put (ranks_moved v k) k (task_at s k).state

  states_next : (k : ℕ) → states_put w s (suc k) ≡ stated_one (states_put w s k) k
  unfolding states_put
  states_next k = refl

  -- one task more
  pub states_more : (k : ℕ) (v u : List ℕ) → v ≡ states_put w s k → u ≡ stated_one v k → u ≡ states_put w s (k + 1)
  states_more k v u e f = rw (add-one k) (f ∙ rw e (sym (states_next k)))

  opened_is : opened w s ≡ states_put (numbers_put (head_put w s) s (held s)) s (held s)
  unfolding opened
  opened_is = refl

  -- every task's numbers, then every task's state
  pub opened_whole : (k j : ℕ) (v u : List ℕ) → k ≡ held s → j ≡ held s → v ≡ numbers_put (head_put w s) s k → u ≡ states_put v s j → u ≡ opened w s
  opened_whole k j v u a b e f = f ∙ rw (e, a, b) (sym opened_is)

-- ---- read back

module _ (w : List ℕ) (s : Session) where
  -- the session's numbers read back; the tables are as they were
  pub back_none : record {
    m = m_of w % 256;
    n = n_of w % 256;
    mode = mode_of w % 256;
    tick = tick_of w % 4294967296;
    accepted = accepted_of w % 4294967296;
    tasks = s.tasks;
    reads = s.reads;
    writes = s.writes;
  } ≡ tasks_back w s 0
  unfolding tasks_back
  back_none = refl

  -- task k and its sets put into a session
  abbrev back_one : Session → ℕ → Session
  back_one t k = record {
    m = t.m;
    n = t.n;
    mode = t.mode;
    tick = t.tick;
    accepted = t.accepted;
    tasks = set t.tasks k (task_back w k);
    reads = with_groups t.reads k (four_at w (set_place k 0));
    writes = with_groups t.writes k (four_at w (set_place k 4));
  }

  back_next : (k : ℕ) → tasks_back w s (suc k) ≡ back_one (tasks_back w s k) k
  unfolding tasks_back
  back_next k = refl

  -- one task more
  pub back_more : (k : ℕ) (t u : Session) → t ≡ tasks_back w s k → u ≡ back_one t k → u ≡ tasks_back w s (k + 1)
  back_more k t u e f = rw (add-one k) (f ∙ rw e (sym (back_next k)))

  read_is : read_back w s ≡ tasks_back w s (min (n_of w) 64)
  unfolding read_back
  read_is = refl

  -- all tasks
  pub back_whole : (k : ℕ) (t : Session) → k ≡ min (n_of w) 64 → t ≡ tasks_back w s k → t ≡ read_back w s
  back_whole k t a e = e ∙ rw a (sym read_is)

-- ---- four words copied

-- the first four of s put into d from a place on
pub four_pasted : (d s : List ℕ) (at : ℕ) → at + 4 ≤ length d → 4 ≤ length s
    → paste d at s 4 ≡ set (set (set (set d at (get_or s 0 0)) (at + 1) (get_or s 1 0)) (at + 2) (get_or s 2 0)) (at + 3) (get_or s 3 0)
four_pasted d s at l m =
    sym (ap (λ x. set x (at + 3) (get_or s 3 0)) (ap (λ x. set x (at + 2) (get_or s 2 0)) (ap (λ x. set x (at + 1) (get_or s 1 0))
    (first ∙ more 0 (omega arith)) ∙ more 1 (omega arith)) ∙ more 2 (omega arith)) ∙ more 3 (omega arith))
  where
    more : (k : ℕ) → k < 4 → set (paste d at s k) (at + k) (get_or s k 0) ≡ paste d at s (k + 1)
    more k below = paste_more d at s k 0 (omega arith) (omega arith)

    first : set d at (get_or s 0 0) ≡ set (paste d at s 0) (at + 0) (get_or s 0 0)
    first = ap (λ x. set x at (get_or s 0 0)) (paste_none d at s) ∙ ap (λ p. set (paste d at s 0) p (get_or s 0 0)) (sym (add-zero at))

-- what `d[at..at + 4]` holds after a write to it
pub four_put : (d s : List ℕ) (at k : ℕ) → k ≡ 4 → at + 4 ≤ length d → length s ≡ 4
    → put_mid at k d s ≡ set (set (set (set d at (get_or s 0 0)) (at + 1) (get_or s 1 0)) (at + 2) (get_or s 2 0)) (at + 3) (get_or s 3 0)
four_put d s at k four l m = put_mid-paste at k d s s 4 refl (sym four) (sym m) ∙ four_pasted d s at l (omega arith)
