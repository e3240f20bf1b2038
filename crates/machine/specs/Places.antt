-- What stands where in the machine's words. A place past them reads as 0.
use Rattle.std.specs.Prelude.{ℕ, ◌+◌, ◌*◌, ◌%◌, min, List, get_or, set}
use Rattle.objects.specs.Objects.{Sets, groups_at}

-- ---- the session's numbers

-- m, how many processors there are
abbrev pub m_of : List ℕ → ℕ
m_of w = get_or w 0 0

-- n, how many tasks there are
abbrev pub n_of : List ℕ → ℕ
n_of w = get_or w 1 0

-- the tick of the last accepted event
abbrev pub tick_of : List ℕ → ℕ
tick_of w = get_or w 2 0

-- how many events were accepted
abbrev pub accepted_of : List ℕ → ℕ
accepted_of w = get_or w 3 0

-- ---- the states: a bit for each task, in the word of its state; an absent task has none

-- who is plain
abbrev pub plain_of : List ℕ → ℕ
plain_of w = get_or w 4 0

-- who waits
abbrev pub waiting_of : List ℕ → ℕ
waiting_of w = get_or w 5 0

-- who executes
abbrev pub executing_of : List ℕ → ℕ
executing_of w = get_or w 6 0

-- ---- the row of the waiting tasks, in rank order

-- how many stand in it
abbrev pub row_size : List ℕ → ℕ
row_size w = get_or w 7 0

-- what stands at place k of its 64: the number of a task
abbrev pub row_at : List ℕ → ℕ → ℕ
row_at w k = get_or w (8 + k) 0

-- how many of them count: no more than it has places, whatever stands there
abbrev pub row_held : List ℕ → ℕ
row_held w = min (row_size w) 64

-- the task at place k: a number below 64, whatever stands there
abbrev pub row_task : List ℕ → ℕ → ℕ
row_task w k = row_at w k % 64

-- ---- the ranks

-- who ranks above task i: a bit for each task that does; of no account of one that is absent, here and there
abbrev pub above_of : List ℕ → ℕ → ℕ
above_of w i = get_or w (72 + i) 0

-- where the rank of its present job stands
abbrev pub rank_place : ℕ → ℕ
rank_place i = 1160 + i

-- what its present job ranks by, smaller is higher
abbrev pub job_rank_at : List ℕ → ℕ → ℕ
job_rank_at w i = get_or w (rank_place i) 0

-- the mode, which says by what a job ranks
abbrev pub mode_of : List ℕ → ℕ
mode_of w = get_or w 1224 0

-- ---- the numbers of task i, eight beside each other: its terms, its last arrival, its releases, and its wait's numbers

-- where its number f stands
abbrev pub number_place : ℕ → ℕ → ℕ
number_place i f = 136 + i * 8 + f

-- its priority
abbrev pub priority_at : List ℕ → ℕ → ℕ
priority_at w i = get_or w (number_place i 0) 0

-- its period
abbrev pub period_at : List ℕ → ℕ → ℕ
period_at w i = get_or w (number_place i 1) 0

-- how many transactions a job of it has
abbrev pub transactions_at : List ℕ → ℕ → ℕ
transactions_at w i = get_or w (number_place i 2) 0

-- its last arrival: 0 where there was none, and else one more than its tick
abbrev pub arrival_at : List ℕ → ℕ → ℕ
arrival_at w i = get_or w (number_place i 3) 0

-- how many transactions its job has released
abbrev pub releases_at : List ℕ → ℕ → ℕ
releases_at w i = get_or w (number_place i 4) 0

-- the tick of the release that waits
abbrev pub release_at : List ℕ → ℕ → ℕ
release_at w i = get_or w (number_place i 5) 0

-- the wait's clash count
abbrev pub clashes_at : List ℕ → ℕ → ℕ
clashes_at w i = get_or w (number_place i 6) 0

-- the wait's retry count
abbrev pub retries_at : List ℕ → ℕ → ℕ
retries_at w i = get_or w (number_place i 7) 0

-- ---- the sets of task i: four groups of its read set, and beside them four of its write set

-- where group g stands, of the eight
abbrev pub set_place : ℕ → ℕ → ℕ
set_place i g = 648 + i * 8 + g

-- both its sets
abbrev pub sets_in : List ℕ → ℕ → Sets
sets_in w i = record { reads = groups_at w (set_place i 0); writes = groups_at w (set_place i 4) }

-- four words put beside each other, from a place on
abbrev pub four_put : List ℕ → ℕ → List ℕ → List ℕ
four_put w at words =
    set (set (set (set w at (get_or words 0 0)) (at + 1) (get_or words 1 0)) (at + 2) (get_or words 2 0)) (at + 3) (get_or words 3 0)

-- the sets of task i put in their place
unfoldable pub sets_put : List ℕ → ℕ → List ℕ → List ℕ → List ℕ
sets_put w i reads writes = four_put (four_put w (set_place i 0) reads) (set_place i 4) writes
