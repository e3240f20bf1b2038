-- Words that a session is laid into, and a session that is read back from them.
use Rattle.std.specs.Prelude.{ℕ, zero, suc, ◌+◌, ◌-◌, ◌*◌, ◌%◌, min, List, [], ◌∷◌, cond, eqb, get_or, set, Option, None, Some}
use Rattle.objects.specs.Objects.{bit}
use Rattle.rules.specs.declared.Wait.{Wait}
use Rattle.rules.specs.declared.State.{State}
use Rattle.rules.specs.declared.State.TheVariants.{Absent, Plain, Waiting, Executing}
use Rattle.rules.specs.declared.Task.{Task}
use Rattle.rules.specs.declared.Session.{Session}
use Rattle.rules.specs.Tasks.{task_at, wait_of, with_groups}
use Rattle.machine.specs.Bits.{with_bit}
use Rattle.machine.specs.Places.{m_of, n_of, tick_of, accepted_of, plain_of, waiting_of, executing_of, rank_place, job_rank_at, mode_of, number_place, priority_at, period_at, transactions_at, arrival_at, releases_at, release_at, clashes_at, retries_at, set_place, sets_put}
use Rattle.machine.specs.Ranks.{ranks_moved}
use Rattle.machine.specs.Row.{row_put}

-- ---- laid in

-- the session's numbers, with nobody in any state and nobody in the row
abbrev pub head_put : List ℕ → Session → List ℕ
head_put w s =
    set (set (set (set (set (set (set (set (set w 0 s.m) 1 s.n) 2 s.tick) 3 s.accepted) 4 0) 5 0) 6 0) 7 0) 1224 s.mode

-- 0 where there was no arrival, and else one more than its tick
abbrev pub arrival_code : Option ℕ → ℕ
arrival_code None = 0
arrival_code (Some tick) = tick + 1

-- the numbers of a task but for its wait
abbrev pub terms_put : List ℕ → ℕ → Task → List ℕ
terms_put w i t =
    set
    (set
    (set
    (set
    (set (set w (number_place i 0) t.terms.priority) (number_place i 1) t.terms.period)
    (number_place i 2)
    t.terms.transactions)
    (number_place i 3)
    (arrival_code t.arrival))
    (number_place i 4)
    t.releases)
    (rank_place i)
    t.rank

-- those of its wait
abbrev pub wait_put : List ℕ → ℕ → Wait → List ℕ
wait_put w i v = set (set (set w (number_place i 5) v.release) (number_place i 6) v.clashes) (number_place i 7) v.retries

-- four words from a place on
abbrev pub four_at : List ℕ → ℕ → List ℕ
four_at w at = get_or w at 0 ∷ get_or w (at + 1) 0 ∷ get_or w (at + 2) 0 ∷ get_or w (at + 3) 0 ∷ []

-- those of task i in a row of sets
abbrev pub four_of : List ℕ → ℕ → List ℕ
four_of row i = four_at row (i * 4)

-- the numbers and the sets of the tasks below k
unfoldable pub numbers_put : List ℕ → Session → ℕ → List ℕ
unfolding sets_put
numbers_put w s zero = w
numbers_put w s (suc k) =
    let v = wait_put (terms_put (numbers_put w s k) k (task_at s k)) k (wait_of (task_at s k).state) in
    sets_put v k (four_of s.reads k) (four_of s.writes k)

-- task i in its state: its bit in that state's word, and where it waits its place in the row
abbrev pub state_put : List ℕ → ℕ → State → List ℕ
state_put w i Absent = w
state_put w i Plain = set w 4 (with_bit (plain_of w) i)
state_put w i (Waiting v) = row_put (set w 5 (with_bit (waiting_of w) i)) i
state_put w i Executing = set w 6 (with_bit (executing_of w) i)

-- who ranks above each task below k, and its state
unfoldable pub states_put : List ℕ → Session → ℕ → List ℕ
unfolding ranks_moved with_bit row_put
states_put w s zero = w
states_put w s (suc k) = state_put (ranks_moved (states_put w s k) k) k (task_at s k).state

-- how many tasks are laid in: a table has 64
abbrev pub held : Session → ℕ
held s = min s.n 64

-- a session laid into the words: its own numbers, those of its tasks, then their ranks and states
unfoldable pub opened : List ℕ → Session → List ℕ
unfolding numbers_put states_put
opened w s = states_put (numbers_put (head_put w s) s (held s)) s (held s)

-- ---- read back

-- a last arrival, from its number
abbrev pub arrival_back : ℕ → Option ℕ
arrival_back code = cond (eqb code 0) None (Some ((code - 1) % 4294967296))

-- a wait, from its numbers
abbrev pub wait_back : List ℕ → ℕ → Wait
wait_back w i = record {
  release = release_at w i % 4294967296;
  clashes = clashes_at w i % 4294967296;
  retries = retries_at w i % 4294967296;
}

-- a task's state, by the word that has its bit
unfoldable pub state_back : List ℕ → ℕ → State
unfolding bit
state_back w i =
    cond (bit (plain_of w) i) Plain (cond (bit (waiting_of w) i) (Waiting (wait_back w i)) (cond (bit (executing_of w) i) Executing Absent))

-- a task, from its numbers and its state
unfoldable pub task_back : List ℕ → ℕ → Task
unfolding state_back
task_back w i = record {
  terms = record { priority = priority_at w i % 65536; period = period_at w i % 4294967296; transactions = transactions_at w i % 256 };
  state = state_back w i;
  arrival = arrival_back (arrival_at w i);
  releases = releases_at w i % 256;
  rank = job_rank_at w i;
}

-- the tasks below k and their sets; the others are those of the session that is handed in
unfoldable pub tasks_back : List ℕ → Session → ℕ → Session
unfolding task_back
tasks_back w s zero = record {
  m = m_of w % 256;
  n = n_of w % 256;
  mode = mode_of w % 256;
  tick = tick_of w % 4294967296;
  accepted = accepted_of w % 4294967296;
  tasks = s.tasks;
  reads = s.reads;
  writes = s.writes;
}
tasks_back w s (suc k) =
    let t = tasks_back w s k in
    record {
      m = t.m;
      n = t.n;
      mode = t.mode;
      tick = t.tick;
      accepted = t.accepted;
      tasks = set t.tasks k (task_back w k);
      reads = with_groups t.reads k (four_at w (set_place k 0));
      writes = with_groups t.writes k (four_at w (set_place k 4));
    }

-- a session read back: n tasks, and past them what the one that is handed in has
unfoldable pub read_back : List ℕ → Session → Session
unfolding tasks_back
read_back w s = tasks_back w s (min (n_of w) 64)
