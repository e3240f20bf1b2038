-- The sum of the other tasks' shares: one task more at a time, and how large a share can be, so that no sum of them wraps.
use Prim.Native.Nat.{ℕ, ◌+◌, ◌*◌, ◌/◌, ◌^◌, ◌≤◌, ◌<◌}
use mathlib.Core.Path.{◌≡◌}
use mathlib.Core.Bool.{cond}
use native.Mathlib.Nat.{mul-le-mul, div-le_self}
use native.Mathlib.Omega.{arith}
use lib.Dec.{eqb}
use Rattle.objects.specs.Below.{sum}
use Rattle.objects.proofs.Laws.Below.{sum_empty, sum_more}
use Rattle.rules.specs.declared.Terms.{Terms}
use Rattle.rules.specs.declared.Session.{Session}
use Rattle.rules.specs.Tasks.{task_at}
use Rattle.rules.specs.Sum.{share}

-- the most that a share can be: 255 transactions, and a period of 1 in the longest wait
pub share_most : (length : ℕ) (t : Terms) → length < 2 ^ 32 → t.transactions < 256 → share length t ≤ 255 * (2 ^ 32 + 1)
share_most length t l k =
    let few : t.transactions ≤ 255 = omega arith in
    let long : length / t.period + 2 ≤ 4294967297 = omega (arith, div-le_self length t.period) in
    mul-le-mul few long

-- the share of each other task
abbrev pub others : Session → ℕ → ℕ → ℕ → ℕ
others s i length j = cond (eqb j i) 0 (share length (task_at s j).terms)

module _ (s : Session) (i length : ℕ) where
  -- no task
  pub total_none : sum 0 (others s i length) ≡ 0
  total_none = sum_empty (others s i length)

  -- one task more
  pub total_more : (j : ℕ) → sum (j + 1) (others s i length) ≡ sum j (others s i length) + others s i length j
  total_more j = sum_more j (others s i length)
