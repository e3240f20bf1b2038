-- The sum of demand 3.
use Rattle.std.specs.Prelude.{ℕ, ◌+◌, ◌*◌, ◌/◌, ◌≤◌, ◌≡◌, Result, Ok, Err, cond, eqb}
use Rattle.objects.specs.Below.{sum}
use Rattle.rules.specs.declared.Terms.{Terms}
use Rattle.rules.specs.declared.Session.{Session}
use Rattle.rules.specs.declared.Refusal.{Refusal}
use Rattle.rules.specs.declared.Refusal.TheVariants.{UnknownTask}
use Rattle.rules.specs.Refusals.{result_number}
use Rattle.rules.specs.Tasks.{task_at, known}

-- 'transactions per job × (⌊length / period⌋ + 2)'. A period of 0, which no setup allows, counts as one that never passes: ⌊length / 0⌋ is 0.
abbrev pub share : ℕ → Terms → ℕ
share length t = t.transactions * (length / t.period + 2)

-- 'the sum over every other task of transactions per job × (⌊length / period⌋ + 2)'
unfoldable pub bound : Session → ℕ → ℕ → ℕ
unfolding sum
bound s i length = sum s.n (λ j. cond (eqb j i) 0 (share length (task_at s j).terms))

-- 'A bad task gives number 1 and sum 0.'
unfoldable pub summed : Session → ℕ → ℕ → Result ℕ Refusal
unfolding bound
summed s i length = cond (known s i) (Ok (bound s i length)) (Err UnknownTask)

-- the number of an answer for the sum, and the sum that it says
abbrev pub sum_number : Result ℕ Refusal → ℕ
sum_number answer = result_number answer

abbrev pub sum_of : Result ℕ Refusal → ℕ
sum_of (Ok total) = total
sum_of (Err refusal) = 0

-- The same said plainly, of any session, any task and any length.
abbrev pub BadTaskSum : Type 0
BadTaskSum =
    (s : Session) (i length : ℕ) → s.n ≤ i
    → (summed s i length ≡ Err UnknownTask) × (sum_number (summed s i length) ≡ 1) × (sum_of (summed s i length) ≡ 0)

-- 'With n = 1 the sum is 0.'
abbrev pub AloneSum : Type 0
AloneSum = (s : Session) (i length : ℕ) → s.n ≡ 1 → sum_of (summed s i length) ≡ 0
