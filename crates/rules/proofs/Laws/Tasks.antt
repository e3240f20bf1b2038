-- Where a task is replaced the new one stands at its place and every other task stays; and a task is in one state alone.
use Prim.Native.Nat.{ℕ, ◌≤◌, ◌<◌}
use mathlib.Core.Path.{◌≡◌, refl, sym, ap, ◌∙◌}
use mathlib.Core.Logic.{◌⊎◌, inl, inr, ◌≢◌}
use mathlib.Core.Bool.{true, false, false≢true}
use lib.ListN.{length, get_or-eq_default}
use lib.Seq.{get_or-set_same, get_or-set_other}
use Rattle.objects.proofs.Laws.Below.{below_or_from}
use Rattle.rules.specs.declared.State.{State}
use Rattle.rules.specs.declared.State.TheVariants.{Absent, Plain, Waiting, Executing}
use Rattle.rules.specs.declared.Task.{Task}
use Rattle.rules.specs.declared.Session.{Session}
use Rattle.rules.specs.Tasks.{is_absent, is_plain, is_waiting, is_executing, task_at, waiting, no_task, with_task}

-- ---- states

pub waiting_not_absent : (state : State) → is_waiting state ≡ true → is_absent state ≡ false
waiting_not_absent Absent e = absurd (false≢true e)
waiting_not_absent Plain e = refl
waiting_not_absent (Waiting w) e = refl
waiting_not_absent Executing e = refl

pub waiting_not_plain : (state : State) → is_waiting state ≡ true → is_plain state ≡ false
waiting_not_plain Absent e = refl
waiting_not_plain Plain e = absurd (false≢true e)
waiting_not_plain (Waiting w) e = refl
waiting_not_plain Executing e = refl

pub waiting_not_executing : (state : State) → is_waiting state ≡ true → is_executing state ≡ false
waiting_not_executing Absent e = refl
waiting_not_executing Plain e = refl
waiting_not_executing (Waiting w) e = refl
waiting_not_executing Executing e = absurd (false≢true e)

-- ---- places

-- past the table every task is absent, so one that waits stands in it
pub waiting_inside : (s : Session) (i : ℕ) → waiting s i ≡ true → i < length s.tasks
waiting_inside s i w = go (below_or_from i (length s.tasks))
  where
    go : (i < length s.tasks) ⊎ (length s.tasks ≤ i) → i < length s.tasks
    go (inl l) = l
    go (inr l) =
        absurd (false≢true (ap (λ (t : Task). is_waiting t.state) (sym (get_or-eq_default s.tasks no_task l)) ∙ w))

pub task_replaced : (s : Session) (i : ℕ) (t : Task) → i < length s.tasks → task_at (with_task s i t) i ≡ t
task_replaced s i t l = get_or-set_same s.tasks i t no_task l

pub task_other : (s : Session) (i j : ℕ) (t : Task) → j ≢ i → task_at (with_task s i t) j ≡ task_at s j
task_other s i j t d = get_or-set_other s.tasks i j t no_task d
