-- Who ranks above whom, in words: by the rank of each job and then by the task's number, and how it moves where a job gets its rank.
use Rattle.std.specs.Prelude.{ℕ, zero, suc, ◌+◌, ◌-◌, ◌*◌, ◌%◌, min, List, Bool, cond, ◌&&◌, ltb, set}
use Rattle.objects.specs.Objects.{word}
use Rattle.rules.specs.Ranking.{by_deadline}
use Rattle.machine.specs.Bits.{with_bit, without_bit}
use Rattle.machine.specs.Places.{n_of, above_of, job_rank_at, mode_of, priority_at, period_at}

-- ---- by the ranks that stand in the words

-- the rank of task i, as one number: that of its job, and its own number
abbrev pub rank_in : List ℕ → ℕ → ℕ
rank_in w i = job_rank_at w i * 64 + i

-- task j ranks above task i
abbrev pub ranks_above : List ℕ → ℕ → ℕ → Bool
ranks_above w i j = ltb (rank_in w j) (rank_in w i)

-- who ranks above task i: a bit for each task that does
unfoldable pub above_word : List ℕ → ℕ → ℕ
unfolding word
above_word w i = word 64 (λ j. ltb j (n_of w) && ranks_above w i j)

-- ---- moved, for one task whose rank is new

-- its bit in the word of task k, unless task k ranks above it
abbrev pub bit_moved : List ℕ → ℕ → ℕ → ℕ
bit_moved w i k = cond (ranks_above w i k) (without_bit (above_of w k) i) (with_bit (above_of w k) i)

-- in the words of the tasks below k, one after the other
unfoldable pub bits_moved : List ℕ → ℕ → ℕ → List ℕ
unfolding with_bit without_bit
bits_moved w i zero = w
bits_moved w i (suc k) =
    let v = bits_moved w i k in
    set v (72 + k) (bit_moved v i k)

-- in those of all tasks, and then who ranks above it
unfoldable pub ranks_moved : List ℕ → ℕ → List ℕ
unfolding bits_moved above_word
ranks_moved w i = set (bits_moved w i (min (n_of w) 64)) (72 + i) (above_word w i)

-- ---- the rank that a job gets

-- a job of task i that arrives at this tick ranks by its deadline or by its priority; of a period, as long as one can be
abbrev pub rank_given : List ℕ → ℕ → ℕ → ℕ
rank_given w tick i = cond (by_deadline (mode_of w)) (tick + period_at w i % 4294967296) (65535 - priority_at w i)
