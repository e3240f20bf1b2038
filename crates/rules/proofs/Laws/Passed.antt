-- Those that still wait are held: before each look the waiting tasks of the ranks passed are held, and those ahead are no more than the looks left.
use Prim.Native.Nat.{ℕ, suc, ◌+◌, ◌≤◌, ◌<◌}
use mathlib.Core.Path.{◌≡◌, refl, sym, ap, subst, ◌∙◌}
use mathlib.Core.Logic.{◌⊎◌, inl, inr}
use mathlib.Core.Bool.{Bool, true, false, cond}
use native.Mathlib.Nat.{lt_of_lt_of_le, le_of_eq, le_antisymm}
use native.Mathlib.Omega.{arith}
use lib.Dec.{leb}
use borrow.Author.Tests.{leb-true, le-leb}
use Rattle.objects.specs.Below.{count}
use Rattle.objects.proofs.Laws.Below.{below_or_from, not_both, not_true_false, and_left, and_right, and_both, count_less}
use Rattle.rules.specs.declared.Task.{Task}
use Rattle.rules.specs.declared.Session.{Session}
use Rattle.rules.specs.Ranking.{Ranking, Strict}
use Rattle.rules.specs.Tasks.{is_waiting, task_at, state_at, waiting, executing}
use Rattle.rules.specs.Room.{rank_at}
use Rattle.rules.specs.Scan.{next, admissible, Scanned, admit, tried}
use Rattle.rules.proofs.Laws.Kept.{Kept, Held}
use Rattle.rules.proofs.Laws.Tasks.{waiting_not_executing}
use Rattle.rules.proofs.Laws.Foremost.{ahead, Found, next_first}
use Rattle.rules.proofs.Laws.Keeping.{kept_waiting, admitted, admitted_executes}
use Rattle.rules.proofs.Laws.Room.{HeldAt, still_held}
use Rattle.rules.proofs.Laws.Looks.{inadmissible_held}

-- before a look: the waiting tasks of a rank before this one are held, and the others are no more than the looks left
pub record Passed (rank : Ranking) (k from : ℕ) (s : Session) : Type 0 where
  pub size : s.n ≤ 64
  pub behind : (i : ℕ) → i < s.n → waiting s i ≡ true → rank_at rank s i < from → HeldAt rank s i
  pub left : count s.n (ahead rank s from) ≤ k

-- with none ahead, all are held
pub passed_held : (rank : Ranking) (k from : ℕ) (s : Session) → Passed rank k from s
    → ((i : ℕ) → i < s.n → waiting s i ≡ true → from ≤ rank_at rank s i → ⊥) → Held rank s
passed_held rank k from s p nobody i l w = go (below_or_from (rank_at rank s i) from)
  where
    go : (rank_at rank s i < from) ⊎ (from ≤ rank_at rank s i) → HeldAt rank s i
    go (inl b) = p.behind i l w b
    go (inr a) = absurd (nobody i l w a)

-- one look on, at task i, the next: where it still waits it is held, and there is one fewer ahead
module _
    (rank : Ranking)
    (strict : Strict rank)
    (k from : ℕ)
    (s s' : Session)
    (kept : Kept s s')
    (p : Passed rank (suc k) from s)
    (i : ℕ)
    (is : next rank s from ≡ i)
    (found : Found rank s from i)
    (holds : waiting s' i ≡ true → HeldAt rank s i)
  where
    -- one that waits after the look waited before it, and has its rank
    waited : (j : ℕ) → waiting s' j ≡ true → waiting s j ≡ true
    waited j w = ap (λ (t : Task). is_waiting t.state) (sym (kept_waiting s s' kept j w)) ∙ w

    ranked : (j : ℕ) → waiting s' j ≡ true → rank_at rank s' j ≡ rank_at rank s j
    ranked j w = ap (λ (t : Task). rank t j) (kept_waiting s s' kept j w)

    -- up to the rank of i there is only i itself, past those behind
    held_to : (j : ℕ) → j < s.n → waiting s' j ≡ true → rank_at rank s j ≤ rank_at rank s i → HeldAt rank s j
    held_to j l w h = go (below_or_from (rank_at rank s j) from)
      where
        go : (rank_at rank s j < from) ⊎ (from ≤ rank_at rank s j) → HeldAt rank s j
        go (inl b) = p.behind j l (waited j w) b
        go (inr a) =
            let first : rank_at rank s i ≤ rank_at rank s j = rw is at (next_first rank s from p.size j l (waited j w) a).1 in
            let same : i ≡ j =
            strict (task_at s i) (task_at s j) i j
            (lt_of_lt_of_le found.below p.size)
            (lt_of_lt_of_le l p.size)
            (le_antisymm first h) in
            subst (HeldAt rank s) same (holds (subst (λ (a : ℕ). waiting s' a ≡ true) (sym same) w))

    fewer_ahead : count s.n (ahead rank s' (rank_at rank s i + 1)) < count s.n (ahead rank s from)
    fewer_ahead =
        count_less s.n (ahead rank s' (rank_at rank s i + 1)) (ahead rank s from) i found.below onward
        (not_true_false (ahead rank s' (rank_at rank s i + 1) i) past)
        (and_both (waiting s i) (leb from (rank_at rank s i)) found.waits (le-leb from (rank_at rank s i) found.ranked))
      where
        -- one ahead after the look waits, at a rank past that of i
        waits : (j : ℕ) → ahead rank s' (rank_at rank s i + 1) j ≡ true → waiting s' j ≡ true
        waits j = and_left (waiting s' j) (leb (rank_at rank s i + 1) (rank_at rank s' j))

        lower : (j : ℕ) → ahead rank s' (rank_at rank s i + 1) j ≡ true → rank_at rank s i + 1 ≤ rank_at rank s j
        lower j e =
            rw (ranked j (waits j e)) at
            (leb-true (rank_at rank s i + 1) (rank_at rank s' j) (and_right (waiting s' j) (leb (rank_at rank s i + 1) (rank_at rank s' j)) e))

        onward : (j : ℕ) → j < s.n → ahead rank s' (rank_at rank s i + 1) j ≡ true → ahead rank s from j ≡ true
        onward j l e =
            and_both (waiting s j) (leb from (rank_at rank s j)) (waited j (waits j e))
            (le-leb from (rank_at rank s j) (omega (arith, lower j e, found.ranked)))

        past : ahead rank s' (rank_at rank s i + 1) i ≡ true → ⊥
        past e = omega (arith, lower i e)

    pub look_passes : Passed rank k (rank_at rank s i + 1) s'
    look_passes = record {
      size = omega (arith, p.size, kept.n);
      behind = λ j l w b.
          still_held s s' kept rank j w
          (held_to j (lt_of_lt_of_le l (le_of_eq kept.n)) w (omega (arith, ranked j w, b)));
      left = rw kept.n (omega (arith, p.left, fewer_ahead));
    }

-- a task that is tried waits no more or is held
pub tried_holds : (rank : Ranking) (x : Scanned) (i : ℕ) → i < x.session.n → waiting x.session i ≡ true
    → waiting (tried rank x i).session i ≡ true → HeldAt rank x.session i
tried_holds rank x i l w = go (admissible rank x.session i) refl
  where
    go : (b : Bool) → admissible rank x.session i ≡ b
        → waiting (cond b (admit x i) x).session i ≡ true → HeldAt rank x.session i
    go true e v =
        absurd
        (not_both (executing (admitted x.session i) i) (admitted_executes x.session i l w)
        (waiting_not_executing (state_at (admitted x.session i) i) v))
    go false e v = inadmissible_held rank x.session i e
