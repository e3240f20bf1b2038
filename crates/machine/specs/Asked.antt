-- What the events ask of the words: room, clash, what a transaction waits for, and for whom.
use Rattle.std.specs.Prelude.{ℕ, zero, suc, ◌+◌, ◌-◌, ◌*◌, List, Bool, cond, not, ◌&&◌, ◌||◌, eqb, ltb}
use Rattle.objects.specs.Below.{any}
use Rattle.objects.specs.Objects.{Groups, bit, word, clash, clash_on, lowest_object, how_many}
use Rattle.rules.specs.declared.Said.{Said}
use Rattle.rules.specs.declared.Said.TheVariants.{Wait}
use Rattle.rules.specs.Tasks.{allowed}
use Rattle.machine.specs.Bits.{ones, common}
use Rattle.machine.specs.Places.{m_of, n_of, plain_of, waiting_of, executing_of, above_of, sets_in}

-- the words have such a task: else '1: task not below n', or m or n is not allowed
abbrev pub known_in : List ℕ → ℕ → Bool
known_in w i = allowed 16 (m_of w) && allowed 64 (n_of w) && ltb i (n_of w)

-- a task is absent where no word has its bit
abbrev pub absent_in : List ℕ → ℕ → Bool
absent_in w i = not (bit (plain_of w) i || (bit (waiting_of w) i || bit (executing_of w) i))

-- how many more than those that execute may: m less the ones of executing
unfoldable pub left_in : List ℕ → ℕ
unfolding ones
left_in w = m_of w - ones (executing_of w)

-- 'the number of executing tasks plus the number of plain tasks that rank above it is less than m': with so many left, fewer plain ones rank above it
unfoldable pub room_in : List ℕ → ℕ → ℕ → Bool
unfolding common
room_in w left i = ltb (common (plain_of w) (above_of w i)) left

-- the transactions of tasks i and j clash
unfoldable pub clash_in : List ℕ → ℕ → ℕ → Bool
unfolding clash
clash_in w i j = clash (sets_in w i) (sets_in w j)

-- task j executes, and the transaction of task i clashes with its
abbrev pub clashing_in : List ℕ → ℕ → ℕ → Bool
clashing_in w i j = bit (executing_of w) j && clash (sets_in w i) (sets_in w j)

-- the transaction of task i clashes with an executing one
unfoldable pub blocked_in : List ℕ → ℕ → Bool
unfolding any bit clash
blocked_in w i = any 64 (clashing_in w i)

-- it clashes with an executing one on object b: the object is contested
unfoldable pub contested_in : List ℕ → ℕ → ℕ → Bool
unfolding any bit clash_on
contested_in w i b = any 64 (λ j. bit (executing_of w) j && clash_on (sets_in w i) (sets_in w j) b)

-- 'the highest ranked executing task it clashes with', of the tasks below k; 64 where there is none
unfoldable pub highest_below : List ℕ → ℕ → ℕ → ℕ
unfolding bit clash
highest_below w i zero = 64
highest_below w i (suc k) =
    let best = highest_below w i k in
    cond (clashing_in w i k && (eqb best 64 || bit (above_of w best) k)) k best

-- of all tasks
unfoldable pub highest_in : List ℕ → ℕ → ℕ
unfolding highest_below
highest_in w i = highest_below w i 64

-- the contested objects, as four groups
unfoldable pub contested_groups : List ℕ → ℕ → Groups
unfolding word contested_in
contested_groups w i g = word 64 (λ b. contested_in w i (g * 64 + b))

-- what is said of a release that waits: the lowest contested object, how many are contested, and whom it waits for
unfoldable pub wait_said_in : List ℕ → ℕ → Said
unfolding lowest_object how_many contested_groups highest_in
wait_said_in w i = Wait (lowest_object (contested_groups w i)) (how_many (contested_groups w i)) (highest_in w i)
