-- A task's number, which counts mod 64; and a number that is at most another, as a loop's end is.
use Prim.Native.Nat.{ℕ, ◌%◌, ◌≤◌, ◌<◌, min}
use mathlib.Core.Path.{◌≡◌, ap, sym, ◌∙◌}
use native.Mathlib.Nat.{mod-eq_of_lt, le_of_lt, min-eq_left, min-eq_right}

-- a task's number
pub task_mod : (i : ℕ) → i < 64 → i % 64 ≡ i
task_mod i h = mod-eq_of_lt h

-- what was answered of a task's number mod 64 is the answer of the task
pub own : (A : Type 0) (f : ℕ → A) (i : ℕ) (answer : A) → i < 64 → answer ≡ f (i % 64) → f i ≡ answer
own A f i answer h e = sym (e ∙ ap f (task_mod i h))

-- a number that is at most another, where it is the smaller, and where it is not
pub at_most_below : (x most end : ℕ) → x < most → end ≡ x → end ≡ min x most
at_most_below x most end h e = e ∙ sym (min-eq_left (le_of_lt h))

pub at_most_reached : (x most end : ℕ) → most ≤ x → end ≡ most → end ≡ min x most
at_most_reached x most end h e = e ∙ sym (min-eq_right h)
