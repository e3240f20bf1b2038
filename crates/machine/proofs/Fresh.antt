-- Words into which the session of a setup is laid: they hold it, and where the setup is refused every event gets 1.
use Prim.Native.Nat.{ℕ, zero, suc, ◌^◌, ◌≤◌, ◌<◌}
use mathlib.Core.Path.{◌≡◌, refl, ap, subst, ◌∙◌}
use mathlib.Core.List.{List}
use mathlib.Core.Bool.{Bool, true, false, cond}
use native.Mathlib.Nat.{not-suc-le-zero}
use native.Mathlib.Omega.{arith}
use lib.Dec.{eqb, ltb}
use lib.ListN.{length, replicate, length-replicate}
use borrow.Author.Tests.{eqb-true}
use Rattle.rules.specs.declared.Terms.{Terms}
use Rattle.rules.specs.declared.Setup.{Setup}
use Rattle.rules.specs.declared.Session.{Session}
use Rattle.rules.specs.declared.Started.{Started}
use Rattle.rules.specs.declared.Event.{Event}
use Rattle.rules.specs.declared.Said.TheVariants.{Ok, No}
use Rattle.rules.specs.Ranking.{by_rank}
use Rattle.rules.specs.Tasks.{allowed, fresh_task, no_terms, no_task, task_at}
use Rattle.rules.specs.Setup.{terms_at, setup_number, fresh_tasks, fresh, no_session, start}
use Rattle.rules.proofs.Laws.Numbers.{allowed_zero}
use Rattle.rules.proofs.Laws.Rows.{filled_with}
use Rattle.rules.proofs.Fresh.{fresh_size, fresh_sound, period_bounds, mode_within, n_within}
use Rattle.rules.proofs.NoTask.{refused_start}
use Rattle.machine.specs.Places.{m_of, transactions_at, releases_at}
use Rattle.machine.specs.Events.{trying_in, Outcome, arrive_number_in, finish_number_in, release_number_in, commit_number_in, refused_in, still_in, scanning_in, arrived_in, arrive_in, release_accepted_in, release_in, committed_in, commit_in, finished_in, finish_in, step_in}
use Rattle.machine.specs.Opened.{opened}
use Rattle.machine.specs.Holds.{PeriodsFit, Holds}
use Rattle.machine.specs.Theorem.{Fits, Sized, SetupHolds, RefusedSetup}
use Rattle.machine.proofs.Laws.Choices.{event_cases}
use Rattle.machine.proofs.Fits.{TaskFits, TasksFit, fits_of, set_fits}
use Rattle.machine.proofs.Opened.{opened_holds}

-- ---- what a setup starts

-- the one session or the other, by its number
by_number : (u : Setup) (P : Session → Type 0) → (setup_number u ≡ 0 → P (fresh u)) → P no_session → P (start u).session
unfolding start
by_number u P good bad = go (eqb (setup_number u) 0) refl
  where
    go : (b : Bool) → eqb (setup_number u) 0 ≡ b
        → P (cond {A = Started} b (record { said = Ok; session = fresh u }) (record { said = No (setup_number u); session = no_session })).session
    go true e = good (eqb-true (setup_number u) 0 e)
    go false e = bad

-- the tables of what a setup starts have their sizes
pub start_sized : (u : Setup) → Sized (start u).session
unfolding fresh no_session
start_sized u =
    let row = length-replicate {A = ℕ} 256 0 in
    by_number u Sized (λ z. record { tasks = fresh_size u u.n; reads = row; writes = row })
    (record { tasks = length-replicate 64 no_task; reads = row; writes = row })

-- and it has no more than 64 tasks
pub start_few : (u : Setup) → (start u).session.n ≤ 64
unfolding fresh no_session
start_few u = by_number u (λ s. s.n ≤ 64) (n_within u) (omega arith)

-- the periods of its tasks fit
pub start_periods : (u : Setup) → PeriodsFit (start u).session
unfolding no_session
start_periods u =
    by_number u PeriodsFit (λ z i l. omega (arith, (period_bounds (task_at (fresh u) i).terms ((fresh_sound by_rank u z).terms i l)).1)) (λ i l. absurd (not-suc-le-zero l))

-- and its numbers fit where those of each task's terms do
fresh_fits : (t : Terms) → t.priority < 2 ^ 16 → t.period < 2 ^ 32 → t.transactions < 2 ^ 8 → TaskFits (fresh_task t)
fresh_fits t a b c = record {
  priority = a;
  period = b;
  transactions = c;
  arrival = λ tick e. absurd (let z : ◌≡◌ {A = ℕ} 0 1 = cc in omega arith);
  releases = omega arith;
  release = omega arith;
  clashes = omega arith;
  retries = omega arith;
}

-- tasks that no setup names fit
none_fit : (k : ℕ) → TasksFit (replicate k no_task)
none_fit k j = rw (filled_with k j no_task) (fresh_fits no_terms (omega arith) (omega arith) (omega arith))

-- fresh tasks at terms that fit do
fresh_fit : (u : Setup) (k : ℕ) → ((i : ℕ) → TaskFits (fresh_task (terms_at u i))) → TasksFit (fresh_tasks u k)
unfolding fresh_tasks
fresh_fit u zero each = none_fit 64
fresh_fit u (suc k) each = set_fits (fresh_tasks u k) k (fresh_task (terms_at u k)) (each k) (fresh_fit u k each)

-- and so does what a setup starts
pub start_fits : (u : Setup) → ((i : ℕ) → (terms_at u i).priority < 2 ^ 16) → ((i : ℕ) → (terms_at u i).period < 2 ^ 32)
    → ((i : ℕ) → (terms_at u i).transactions < 2 ^ 8) → Fits (start u).session
unfolding fresh no_session
start_fits u a b c =
    by_number u Fits
    (λ z.
    fits_of (fresh u) (omega (arith, (fresh_sound by_rank u z).m_high)) (omega (arith, n_within u z)) (omega (arith, mode_within u z)) (omega arith)
    (omega arith) (fresh_fit u u.n (λ i. fresh_fits (terms_at u i) (a i) (b i) (c i))))
    (fits_of no_session (omega arith) (omega arith) (omega arith) (omega arith) (omega arith) (none_fit 64))

-- words into which it is laid hold it
start_holds : (w : List ℕ) (u : Setup) → length w ≡ 1280 → Holds by_rank (opened w (start u).session) (start u).session
start_holds w u size = opened_holds w (start u).session size (start_sized u) (start_periods u) (start_few u)

-- a good setup starts the fresh session
start_good : (u : Setup) → setup_number u ≡ 0 → (start u).session ≡ fresh u
unfolding start
start_good u z = rw z

-- so the words hold that
pub setup_holds : SetupHolds
setup_holds w u size z = subst (λ (s : Session). Holds by_rank (opened w (start u).session) s) (start_good u z) (start_holds w u size)

-- ---- a refused setup

-- an event whose number is 1
one_refuses : (w list : List ℕ) (k : ℕ) (accepts : Outcome) → k ≡ 1 → cond (eqb k 0) accepts (refused_in w list k) ≡ refused_in w list 1
one_refuses w list k accepts e = ap (λ (k : ℕ). cond (eqb k 0) accepts (refused_in w list k)) e

-- where m is not allowed every event has it
module _ (w list : List ℕ) (bad : allowed 16 (m_of w) ≡ false) (tick i : ℕ) where
  -- the first number tried refuses
  trying_one : (rest : ℕ) → trying_in w tick i rest ≡ 1
  trying_one rest = rw bad

  -- an arrival
  arrive_one : arrive_in w list tick i ≡ refused_in w list 1
  unfolding arrive_in arrive_number_in
  arrive_one = one_refuses w list (arrive_number_in w tick i) (still_in Ok (arrived_in w tick i) list) (trying_one _)

  -- a commit
  commit_one : commit_in w list tick i ≡ refused_in w list 1
  unfolding commit_in commit_number_in
  commit_one = one_refuses w list (commit_number_in w tick i) (scanning_in Ok (committed_in w tick i) list) (trying_one _)

  -- a finish, and a release, which tries the same first
  finish_number_lem : finish_number_in w tick i ≡ 1
  unfolding finish_number_in
  finish_number_lem = trying_one _

  -- a finish
  finish_one : finish_in w list tick i ≡ refused_in w list 1
  unfolding finish_in
  finish_one = one_refuses w list (finish_number_in w tick i) (scanning_in Ok (finished_in w tick i) list) finish_number_lem

  -- a release tries the same first
  release_number_lem : release_number_in w tick i ≡ 1
  unfolding release_number_in
  release_number_lem = ap (λ (k : ℕ). cond (eqb k 0) (cond (ltb (releases_at w i) (transactions_at w i)) 0 7) k) finish_number_lem

  -- a release
  release_one : (reads writes : List ℕ) → release_in w list tick i reads writes ≡ refused_in w list 1
  unfolding release_in
  release_one reads writes = one_refuses w list (release_number_in w tick i) (release_accepted_in w list tick i reads writes) release_number_lem

-- any event
step_one : (w list : List ℕ) → allowed 16 (m_of w) ≡ false → (e : Event) → step_in w list e ≡ refused_in w list 1
step_one w list bad e =
    event_cases (λ x. x ≡ refused_in w list 1) w list e (λ kind. arrive_one w list bad e.tick e.task)
    (release_one w list bad e.tick e.task e.reads e.writes) (commit_one w list bad e.tick e.task) (finish_one w list bad e.tick e.task)

-- what stands in the place of a session has m 0
pub refused_setup : RefusedSetup
refused_setup w list u e size no_start =
    let v = opened w (start u).session in
    step_one v list (allowed_zero 16 (m_of v) ((start_holds w u size).table.m ∙ (refused_start u no_start).m)) e
