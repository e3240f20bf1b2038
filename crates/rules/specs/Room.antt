-- Who has a processor: room, and of those that wait, who ran.
use Rattle.std.specs.Prelude.{ℕ, ◌+◌, Bool, ◌&&◌, ltb}
use Rattle.objects.specs.Below.{count}
use Rattle.rules.specs.declared.Session.{Session}
use Rattle.rules.specs.Ranking.{Ranking}
use Rattle.rules.specs.Tasks.{task_at, plain, waiting, executing}

abbrev pub rank_at : Ranking → Session → ℕ → ℕ
rank_at rank s i = rank (task_at s i) i

-- 'plain tasks that rank above it'
abbrev pub plain_above : Ranking → Session → ℕ → ℕ → Bool
plain_above rank s i j = plain s j && ltb (rank_at rank s j) (rank_at rank s i)

-- 'A task has room if the number of executing tasks plus the number of plain tasks that rank above it is less than m.'
-- 'A plain task is on a processor exactly if it has room.'
unfoldable pub room : Ranking → Session → ℕ → Bool
unfolding count
room rank s i = ltb (count s.n (executing s) + count s.n (plain_above rank s i)) s.m

-- 'waiting tasks ranked above this one'
abbrev pub waiting_above : Ranking → Session → ℕ → ℕ → Bool
waiting_above rank s i j = waiting s j && ltb (rank_at rank s j) (rank_at rank s i)

-- Request 2: 'A retry is booked at a clashing commit only if, just before it, executing tasks plus all plain tasks plus waiting tasks ranked above this one are
-- fewer than m.' So a processor was left on which the transaction of task i, which waits, ran and now runs again.
unfoldable pub ran : Ranking → Session → ℕ → Bool
unfolding count
ran rank s i = ltb (count s.n (executing s) + count s.n (plain s) + count s.n (waiting_above rank s i)) s.m
