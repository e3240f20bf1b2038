-- What is booked: items, and what they make of a task's figures and of a row of waits.
use Rattle.std.specs.Prelude.{ℕ, ◌+◌, ◌%◌, min, max, List, [], ◌∷◌, Bool, true, cond, ◌&&◌, eqb, leb, length, get_or, set}
use Rattle.objects.specs.Below.{one, sum}
use Rattle.report.specs.declared.Figures.{Figures}

-- 'transactions committed, how many of them had waited': a commit of a task, and whether that transaction had waited.
-- 'A wait and its retries are booked when the task is admitted': a task's wait, in ticks; and since request 2, where 'CR 1's total splits in two', its clash
-- count and its retry count.
pub data Item : Type 0 where
  commit : ℕ → Bool → Item
  wait : ℕ → ℕ → ℕ → ℕ → Item

abbrev pub task_of : Item → ℕ
task_of (commit i waited) = i
task_of (wait i ticks clashes retries) = i

-- ---- a task's figures

abbrev pub no_figures : Figures
no_figures = record { committed = 0; waited = 0; clashes = 0; retries = 0; longest = 0; ticks = 0; waits = 0 }

-- 'transactions committed, how many of them had waited, total retries, longest wait in ticks, and mean wait as two whole numbers, ticks and waits'; the total
-- retries 'splits in two', the clashes and the retries
abbrev pub after : Figures → Item → Figures
after f (commit i waited) = record {
  committed = f.committed + 1;
  waited = f.waited + one waited;
  clashes = f.clashes;
  retries = f.retries;
  longest = f.longest;
  ticks = f.ticks;
  waits = f.waits;
}
after f (wait i ticks clashes retries) = record {
  committed = f.committed;
  waited = f.waited;
  clashes = f.clashes + clashes;
  retries = f.retries + retries;
  longest = max f.longest ticks;
  ticks = f.ticks + ticks;
  waits = f.waits + 1;
}

-- '41, a total would pass 4,294,967,295'
abbrev pub within : ℕ → Bool
within total = leb total 4294967295

-- no total that the item adds to passes; the longest wait is no total
abbrev pub fits : Figures → Item → Bool
fits f (commit i waited) = within (f.committed + 1) && within (f.waited + one waited)
fits f (wait i ticks clashes retries) =
    within (f.clashes + clashes) && within (f.retries + retries) && within (f.ticks + ticks) && within (f.waits + 1)

-- ---- the figures of all tasks

abbrev pub figures_at : List Figures → ℕ → Figures
figures_at all i = get_or all i no_figures

-- with one item more, in the figures of its task
abbrev pub enter : List Figures → Item → List Figures
enter all x = set all (task_of x) (after (figures_at all (task_of x)) x)

-- with items, one after another
unfoldable pub entered : List Figures → List Item → List Figures
entered all [] = all
entered all (x ∷ more) = entered (enter all x) more

-- and no total passes
unfoldable pub enterable : List Figures → List Item → Bool
enterable all [] = true
enterable all (x ∷ more) = fits (figures_at all (task_of x)) x && enterable (enter all x) more

-- how many waits are booked, of all tasks
unfoldable pub waits_booked : List Figures → ℕ
unfolding sum
waits_booked all = sum 64 (λ i. (figures_at all i).waits)

-- ---- the row of waits

-- the waits among items, in ticks and in their order
unfoldable pub waits_in : List Item → List ℕ
waits_in [] = []
waits_in (commit i waited ∷ more) = waits_in more
waits_in (wait i ticks clashes retries ∷ more) = ticks ∷ waits_in more

-- 'wait i, from 0, goes to place i mod the lesser of 4,096 and its places, if any'
abbrev pub places_of : List ℕ → ℕ
places_of row = min 4096 (length row)

abbrev pub put_wait : List ℕ → ℕ → ℕ → List ℕ
put_wait row i ticks = cond (eqb (places_of row) 0) row (set row (i % places_of row) ticks)

-- the row with waits, the first of which is wait i
unfoldable pub written : List ℕ → ℕ → List ℕ → List ℕ
written row i [] = row
written row i (ticks ∷ more) = written (put_wait row i ticks) (i + 1) more
