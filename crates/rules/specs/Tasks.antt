-- A session's tasks and their sets: read, and replaced.
use Rattle.std.specs.Prelude.{ℕ, ◌+◌, ◌*◌, List, Bool, true, false, ◌&&◌, leb, ltb, get_or, set, None}
use Rattle.objects.specs.Objects.{Sets, groups_at}
use Rattle.rules.specs.declared.Terms.{Terms}
use Rattle.rules.specs.declared.Wait.{Wait}
use Rattle.rules.specs.declared.State.{State}
use Rattle.rules.specs.declared.State.TheVariants.{Absent, Plain, Waiting, Executing}
use Rattle.rules.specs.declared.Task.{Task}
use Rattle.rules.specs.declared.Session.{Session}

-- 'A task is in exactly one of four states: absent; plain (its job runs ordinary code); waiting (in the n-set, with release tick and retry count);
-- executing (in the m-set).' Since request 2 the count that 01 speaks of is the clash count, and the retry count stands beside it.
abbrev pub is_absent : State → Bool
is_absent Absent = true
is_absent Plain = false
is_absent (Waiting w) = false
is_absent Executing = false

abbrev pub is_plain : State → Bool
is_plain Absent = false
is_plain Plain = true
is_plain (Waiting w) = false
is_plain Executing = false

abbrev pub is_waiting : State → Bool
is_waiting Absent = false
is_waiting Plain = false
is_waiting (Waiting w) = true
is_waiting Executing = false

abbrev pub is_executing : State → Bool
is_executing Absent = false
is_executing Plain = false
is_executing (Waiting w) = false
is_executing Executing = true

-- the wait of a task that does not wait
abbrev pub no_wait : Wait
no_wait = record { release = 0; clashes = 0; retries = 0 }

-- the wait that a state holds
abbrev pub wait_of : State → Wait
wait_of Absent = no_wait
wait_of Plain = no_wait
wait_of (Waiting w) = w
wait_of Executing = no_wait

-- 'A fresh session has every task absent with no arrival': a task at these terms.
abbrev pub fresh_task : Terms → Task
fresh_task terms = record { terms = terms; state = Absent; arrival = None; releases = 0; rank = 0 }

-- the terms of a task that a setup does not name
abbrev pub no_terms : Terms
no_terms = record { priority = 0; period = 0; transactions = 0 }

abbrev pub no_task : Task
no_task = fresh_task no_terms

abbrev pub task_at : Session → ℕ → Task
task_at s i = get_or s.tasks i no_task

abbrev pub state_at : Session → ℕ → State
state_at s i = (task_at s i).state

abbrev pub plain : Session → ℕ → Bool
plain s i = is_plain (state_at s i)

abbrev pub waiting : Session → ℕ → Bool
waiting s i = is_waiting (state_at s i)

abbrev pub executing : Session → ℕ → Bool
executing s i = is_executing (state_at s i)

-- 'A waiting or executing task has a read set and a write set of objects': group g of task i stands at place i * 4 + g.
abbrev pub sets_at : Session → ℕ → Sets
sets_at s i = record { reads = groups_at s.reads (i * 4); writes = groups_at s.writes (i * 4) }

-- the two sets that an event brings, each as four words
abbrev pub sets_of : List ℕ → List ℕ → Sets
sets_of reads writes = record { reads = groups_at reads 0; writes = groups_at writes 0 }

-- 'processors m: 1 to 16', 'tasks n, numbered from 0: 1 to 64'. No setup gives another session than such a one; any other session is treated as the one
-- that a refused setup gives.
abbrev pub allowed : ℕ → ℕ → Bool
allowed most k = leb 1 k && leb k most

-- 'task not below n' has the number 1: here the task is below n, and the session's m and n are allowed
abbrev pub known : Session → ℕ → Bool
known s i = allowed 16 s.m && allowed 64 s.n && ltb i s.n

-- ---- replaced

-- the task in another state
abbrev pub in_state : Task → State → Task
in_state t state = record { terms = t.terms; state = state; arrival = t.arrival; releases = t.releases; rank = t.rank }

-- the session with other tasks
abbrev pub with_tasks : Session → List Task → Session
with_tasks s tasks = record {
  m = s.m;
  n = s.n;
  mode = s.mode;
  tick = s.tick;
  accepted = s.accepted;
  tasks = tasks;
  reads = s.reads;
  writes = s.writes;
}

-- the session with another task i
abbrev pub with_task : Session → ℕ → Task → Session
with_task s i t = with_tasks s (set s.tasks i t)

-- the row with these four words as the groups of task i
abbrev pub with_groups : List ℕ → ℕ → List ℕ → List ℕ
with_groups row i words =
    set
    (set (set (set row (i * 4) (get_or words 0 0)) (i * 4 + 1) (get_or words 1 0)) (i * 4 + 2) (get_or words 2 0))
    (i * 4 + 3)
    (get_or words 3 0)

-- the session with these sets of task i
abbrev pub with_sets : Session → ℕ → List ℕ → List ℕ → Session
with_sets s i reads writes = record {
  m = s.m;
  n = s.n;
  mode = s.mode;
  tick = s.tick;
  accepted = s.accepted;
  tasks = s.tasks;
  reads = with_groups s.reads i reads;
  writes = with_groups s.writes i writes;
}

-- the session with one more event accepted, at this tick
abbrev pub stamped : Session → ℕ → Session
stamped s tick = record {
  m = s.m;
  n = s.n;
  mode = s.mode;
  tick = tick;
  accepted = s.accepted + 1;
  tasks = s.tasks;
  reads = s.reads;
  writes = s.writes;
}
