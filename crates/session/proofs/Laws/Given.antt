-- What a function is told of a session that it is given: how long the tables are, and that every number fits its place. It is told each field's own relation, in the order
-- of the fields; that of an array says how long the array is.
use Prim.Native.Nat.{ℕ, zero, suc, ◌<◌, ◌^◌}
use mathlib.Core.Path.{◌≡◌}
use mathlib.Core.List.{List, [], ◌∷◌}
use native.Mathlib.Omega.{arith}
use mir.Val.{Val}
use denote.Array.{each}
use denote.Shadow.{shadow}
use denote.Laws.{Is}
use denote.Struct.Declared.{row}
use Rattle.rules.specs.declared.Wait.{Wait}
use Rattle.rules.specs.declared.State.{State}
use Rattle.rules.specs.declared.State.TheVariants.{Absent, Plain, Waiting, Executing}
use Rattle.std.specs.Prelude.{Option, None, Some}
use Rattle.rules.specs.declared.Task.{Task}
use Rattle.rules.specs.declared.Session.{Session}
use Rattle.rules.specs.Tasks.{wait_of, no_task}
use Rattle.rules.specs.contracts.Task as task
use Rattle.rules.specs.contracts.Session as session
use Rattle.machine.specs.Theorem.{Fits, Sized}
use Rattle.machine.proofs.Fits.{TaskFits, TasksFit, fits_of}

pub sized : (s : Session) (values : List Val) → Is (row session.the_type) s values → Sized s
sized s values is = record {
  tasks = is.1.1.1.1.1.1.1.0.1.0.1;
  reads = is.1.1.1.1.1.1.1.1.0.1.0.1;
  writes = is.1.1.1.1.1.1.1.1.1.0.1.0.1;
}

-- what is told of tasks, each at its machine value
abbrev Told : List Task → List Val → Type 0
Told ts us = shadow (each (task.the_row).Denot (task.the_row).own_val ts us)

-- with another state or another arrival
abbrev with_state : Task → State → Task
with_state t r = record { terms = t.terms; state = r; arrival = t.arrival; releases = t.releases; rank = t.rank }

abbrev with_arrival : Task → Option ℕ → Task
with_arrival t a = record { terms = t.terms; state = t.state; arrival = a; releases = t.releases; rank = t.rank }

record WaitFits (v : Wait) : Type 0 where
  release : v.release < 2 ^ 32
  clashes : v.clashes < 2 ^ 32
  retries : v.retries < 2 ^ 32

-- of the first of some tasks
module _ (t : Task) (ts : List Task) (u : Val) (us : List Val) where
  state_fits : (r : State) → Told (with_state t r ∷ ts) (u ∷ us) → WaitFits (wait_of r)
  state_fits Absent p = record { release = omega arith; clashes = omega arith; retries = omega arith }
  state_fits Plain p = record { release = omega arith; clashes = omega arith; retries = omega arith }
  state_fits (Waiting v) p =
      let q = p.0.1.1.1.0.1.1.1.1.0.1.1 in
      record { release = q.0.1; clashes = q.1.0.1; retries = q.1.1.0.1 }
  state_fits Executing p = record { release = omega arith; clashes = omega arith; retries = omega arith }

  arrival_fits : (a : Option ℕ) → Told (with_arrival t a ∷ ts) (u ∷ us) → (tick : ℕ) → a ≡ Some tick → tick < 2 ^ 32
  arrival_fits None p tick e = let z : ◌≡◌ {A = ℕ} 0 1 = cc in absurd (omega arith)
  arrival_fits (Some now) p tick e =
      let fits : now < 2 ^ 32 = p.0.1.1.1.1.0.1.1.1.1.0.1 in
      let same : now ≡ tick = cc in
      rw same at fits

  first_fits : Told (t ∷ ts) (u ∷ us) → TaskFits t
  first_fits p =
      let terms = p.0.1.1.0.1.1 in
      let wait = state_fits t.state p in
      record {
        priority = terms.0.1;
        period = terms.1.0.1;
        transactions = terms.1.1.0.1;
        arrival = arrival_fits t.arrival p;
        releases = p.0.1.1.1.1.1.0.1;
        release = wait.release;
        clashes = wait.clashes;
        retries = wait.retries;
      }

no_task_fits : TaskFits no_task
no_task_fits = record {
  priority = omega arith;
  period = omega arith;
  transactions = omega arith;
  arrival = λ tick e. let z : ◌≡◌ {A = ℕ} 0 1 = cc in absurd (omega arith);
  releases = omega arith;
  release = omega arith;
  clashes = omega arith;
  retries = omega arith;
}

tasks_told : (ts : List Task) (us : List Val) → Told ts us → TasksFit ts
tasks_told [] us p j = no_task_fits
tasks_told (t ∷ ts) [] p j = absurd p
tasks_told (t ∷ ts) (u ∷ us) p zero = first_fits t ts u us p
tasks_told (t ∷ ts) (u ∷ us) p (suc j) = tasks_told ts us p.1 j

pub session_fits : (s : Session) (values : List Val) → Is (row session.the_type) s values → Fits s
session_fits s values is =
    fits_of s is.1.1.0.1 is.1.1.1.0.1 is.1.1.1.1.0.1 is.1.1.1.1.1.0.1 is.1.1.1.1.1.1.0.1
    (tasks_told s.tasks is.1.1.1.1.1.1.1.0.0 is.1.1.1.1.1.1.1.0.1.1)
