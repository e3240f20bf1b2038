-- How many transactions a task can commit while another waits. With C commits and A arrivals since the wait began: C, and one more while it waits or executes, is at most
-- its transactions × A, plus its releases; while it is absent, plus its transactions. And arrivals are a period apart. Both are kept by every move of a task.
use Prim.Native.Nat.{ℕ, zero, suc, ◌+◌, ◌-◌, ◌*◌, ◌/◌, ◌≤◌, ◌<◌, zero-le}
use mathlib.Core.Path.{◌≡◌, refl, sym, ap, ◌∙◌}
use mathlib.Core.Logic.{◌⊎◌, inl, inr}
use mathlib.Core.Bool.{Bool, true, false, cond, ◌||◌, false≢true, true≢false}
use native.Mathlib.Nat.{add-zero, mul-add, mul-one, add-mul, one-mul, mul-zero, zero-mul, mul-le-mul_left, le_trans, le_of_eq, le-div_iff_mul-le}
use native.Mathlib.Omega.{arith}
use borrow.Author.Tests.{ltb-false}
use Rattle.objects.specs.Below.{one}
use Rattle.rules.specs.declared.Terms.{Terms}
use Rattle.rules.specs.declared.State.{State}
use Rattle.rules.specs.declared.State.TheVariants.{Absent, Plain, Waiting, Executing}
use Rattle.std.specs.Prelude.{Option, Some}
use Rattle.rules.specs.declared.Task.{Task}
use Rattle.rules.specs.declared.Event.{Event}
use Rattle.rules.specs.declared.Said.{Said}
use Rattle.rules.specs.Tasks.{is_absent, is_waiting, is_executing, in_state}
use Rattle.rules.specs.Events.{early, raised_state, raised_task}
use Rattle.rules.specs.Sum.{share}
use Rattle.rules.specs.History.{is_arrive, is_commit}
use Rattle.rules.proofs.Moves.{Own, arrives, runs, waits, commits, finishes}

-- 1 while it waits or executes
abbrev pub busy : State → ℕ
busy state = one (is_waiting state || is_executing state)

-- the releases of its job; of an absent task, those that its next job may have
abbrev pub allowance : Task → ℕ
allowance t = cond (is_absent t.state) t.terms.transactions t.releases

-- with C commits and A arrivals since tick b
pub record Live (t : Task) (C A b : ℕ) : Type 0 where
  pub jobs : C + busy t.state ≤ t.terms.transactions * A + allowance t
  pub spaced : (A ≡ 0) ⊎ ((a : ℕ) × (t.arrival ≡ Some a) × (b + A * t.terms.period ≤ a + t.terms.period))

-- at its end, over a length
abbrev pub Limited : Terms → ℕ → ℕ → ℕ → Type 0
Limited terms C A length = (C ≤ terms.transactions * (A + 1)) × (A * terms.period ≤ length + terms.period)

-- ---- at its beginning

abbrev pub Ready : Task → Type 0
Ready t = busy t.state ≤ allowance t

pub ready_live : (t : Task) (b : ℕ) → Ready t → Live t 0 0 b
ready_live t b r = record { jobs = omega (arith, mul-zero t.terms.transactions); spaced = inl refl }

pub nothing_limited : (terms : Terms) (length : ℕ) → Limited terms 0 0 length
nothing_limited terms length = (zero-le, omega (arith, zero-mul terms.period))

-- ---- kept by the moves of a task

one_more : (n a : ℕ) → n * (a + 1) ≡ n * a + n
one_more n a = mul-add n a 1 ∙ ap (λ (k : ℕ). n * a + k) (mul-one n)

-- an arrival that is not early comes a period after the last
next_spaced : (arrival : Option ℕ) (period tick A b : ℕ) → early arrival period tick ≡ false → b ≤ tick
    → (A ≡ 0) ⊎ ((a : ℕ) × (arrival ≡ Some a) × (b + A * period ≤ a + period)) → b + (A + 1) * period ≤ tick + period
next_spaced arrival period tick A b late since (inl z) =
    omega (arith, add-mul A 1 period, one-mul period, ap (λ (k : ℕ). k * period) z, zero-mul period)
next_spaced arrival period tick A b late since (inr x) =
    omega (
      arith,
      add-mul A 1 period,
      one-mul period,
      ltb-false tick (x.0 + period) (ap (λ (y : Option ℕ). early y period tick) (sym x.1) ∙ late),
      x.2,
    )

-- the allowance of a task in this state
allows : (t : Task) (state : State) → t.state ≡ state → allowance t ≡ cond (is_absent state) t.terms.transactions t.releases
allows t state e = ap (λ (x : State). cond (is_absent x) t.terms.transactions t.releases) e

module _ (t : Task) (e : Event) (C A b : ℕ) (live : Live t C A b) where
  pub own_live : {mode : ℕ} (said : Said) (u : Task) → Own mode t e said u → t.releases ≤ t.terms.transactions → b ≤ e.tick
      → Live u (C + one (is_commit e.kind)) (A + one (is_arrive e.kind)) b
  own_live said u (arrives kind was late) few since =
      rw kind (record {
        jobs = omega (arith, live.jobs, allows t Absent was, one_more t.terms.transactions A);
        spaced = inr (e.tick, refl, next_spaced t.arrival t.terms.period e.tick A b late since live.spaced);
      })
  own_live said u (runs kind was) few since =
      rw kind (simp add-zero (record { jobs = omega (arith, live.jobs, allows t Plain was, ap busy was); spaced = live.spaced }))
  own_live said u (waits kind was o k h) few since =
      rw kind (simp add-zero (record { jobs = omega (arith, live.jobs, allows t Plain was, ap busy was); spaced = live.spaced }))
  own_live said u (commits kind was) few since =
      rw kind (simp add-zero (record { jobs = omega (arith, live.jobs, allows t Executing was, ap busy was); spaced = live.spaced }))
  own_live said u (finishes kind was) few since =
      rw kind (simp add-zero (record { jobs = omega (arith, live.jobs, allows t Plain was, ap busy was, few); spaced = live.spaced }))

-- what a commit of another raises, and what a scan admits
raised_busy : (ran : Bool) (state : State) → (busy (raised_state ran state) ≡ busy state) × (is_absent (raised_state ran state) ≡ is_absent state)
raised_busy ran Absent = (refl, refl)
raised_busy ran Plain = (refl, refl)
raised_busy ran (Waiting w) = (refl, refl)
raised_busy ran Executing = (refl, refl)

waiting_busy : (state : State) → is_waiting state ≡ true → (busy state ≡ 1) × (is_absent state ≡ false)
waiting_busy Absent e = absurd (false≢true e)
waiting_busy Plain e = absurd (false≢true e)
waiting_busy (Waiting w) e = (refl, refl)
waiting_busy Executing e = absurd (false≢true e)

-- the same task in another state, as busy as before and absent only if it was
pub record Kin (t u : Task) : Type 0 where
  pub state : State
  pub is : u ≡ in_state t state
  pub as_busy : busy state ≡ busy t.state
  pub as_absent : is_absent state ≡ is_absent t.state

pub kin_refl : (t u : Task) → u ≡ t → Kin t u
kin_refl t u e = record { state = t.state; is = e; as_busy = refl; as_absent = refl }

pub kin_trans : (t u v : Task) → Kin t u → Kin u v → Kin t v
kin_trans t u v p q = record {
  state = q.state;
  is = q.is ∙ ap (λ (x : Task). in_state x q.state) p.is;
  as_busy = q.as_busy ∙ ap (λ (x : Task). busy x.state) p.is ∙ p.as_busy;
  as_absent = q.as_absent ∙ ap (λ (x : Task). is_absent x.state) p.is ∙ p.as_absent;
}

pub kin_raised : (ran : Bool) (t : Task) (b : Bool) → Kin t (cond b (raised_task ran t) t)
kin_raised ran t true =
    record { state = raised_state ran t.state; is = refl; as_busy = (raised_busy ran t.state).0; as_absent = (raised_busy ran t.state).1 }
kin_raised ran t false = kin_refl t t refl

pub kin_admitted : (t u : Task) → is_waiting t.state ≡ true → u ≡ in_state t Executing → Kin t u
kin_admitted t u w e = record {
  state = Executing;
  is = e;
  as_busy = sym (waiting_busy t.state w).0;
  as_absent = sym (waiting_busy t.state w).1;
}

-- the rank and the last arrival of a job
abbrev pub SameJob : Task → Task → Type 0
SameJob t u = (u.rank ≡ t.rank) × (u.arrival ≡ t.arrival)

module _ (t u : Task) (k : Kin t u) where
  pub kin_terms : u.terms ≡ t.terms
  kin_terms = ap (λ (x : Task). x.terms) k.is

  pub kin_job : SameJob t u
  kin_job = (ap (λ (x : Task). x.rank) k.is, ap (λ (x : Task). x.arrival) k.is)

  pub kin_absent : is_absent u.state ≡ is_absent t.state
  kin_absent = ap (λ (x : Task). is_absent x.state) k.is ∙ k.as_absent

  pub kin_ready : Ready t → Ready u
  kin_ready r = rw (k.is, k.as_busy, k.as_absent) r

  pub kin_live : (C A b : ℕ) → Live t C A b → Live u C A b
  kin_live C A b p = rw k.is (record { jobs = rw (k.as_busy, k.as_absent) p.jobs; spaced = p.spaced })

pub own_ready : {mode : ℕ} (t : Task) (e : Event) (said : Said) (u : Task) → Own mode t e said u → Ready u
own_ready t e said u (arrives kind was late) = zero-le
own_ready t e said u (runs kind was) = omega arith
own_ready t e said u (waits kind was o k h) = omega arith
own_ready t e said u (commits kind was) = zero-le
own_ready t e said u (finishes kind was) = zero-le

pub own_terms : {mode : ℕ} (t : Task) (e : Event) (said : Said) (u : Task) → Own mode t e said u → u.terms ≡ t.terms
own_terms t e said u (arrives kind was late) = refl
own_terms t e said u (runs kind was) = refl
own_terms t e said u (waits kind was o k h) = refl
own_terms t e said u (commits kind was) = refl
own_terms t e said u (finishes kind was) = refl

-- the rank and the last arrival of a job stay while it is present
pub own_job : {mode : ℕ} (t : Task) (e : Event) (said : Said) (u : Task) → Own mode t e said u → is_absent t.state ≡ false → is_absent u.state ≡ false
    → SameJob t u
own_job t e said u (arrives kind was late) here still = absurd (true≢false (ap is_absent (sym was) ∙ here))
own_job t e said u (runs kind was) here still = (refl, refl)
own_job t e said u (waits kind was o k h) here still = (refl, refl)
own_job t e said u (commits kind was) here still = (refl, refl)
own_job t e said u (finishes kind was) here still = absurd (true≢false still)

-- ---- at its end

-- over the ticks from b to the last
pub live_limited : (t : Task) (C A b tick : ℕ) → Live t C A b → t.releases ≤ t.terms.transactions → ((a : ℕ) → t.arrival ≡ Some a → a ≤ tick)
    → Limited t.terms C A (tick - b)
live_limited t C A b tick live few before = (omega (arith, live.jobs, one_more t.terms.transactions A, allowed), spaced live.spaced)
  where
    allowed : allowance t ≤ t.terms.transactions
    allowed = go (is_absent t.state)
      where
        go : (x : Bool) → cond x t.terms.transactions t.releases ≤ t.terms.transactions
        go true = le_of_eq refl
        go false = few

    spaced : (A ≡ 0) ⊎ ((a : ℕ) × (t.arrival ≡ Some a) × (b + A * t.terms.period ≤ a + t.terms.period))
        → A * t.terms.period ≤ tick - b + t.terms.period
    spaced (inl z) = omega (arith, ap (λ (k : ℕ). k * t.terms.period) z, zero-mul t.terms.period)
    spaced (inr x) = omega (arith, x.2, before x.0 x.1)

-- 'transactions per job × (⌊length / period⌋ + 2)'
pub limited_share : (terms : Terms) (C A length : ℕ) → 0 < terms.period → Limited terms C A length → C ≤ share length terms
limited_share terms C A length positive p = le_trans p.0 (mul-le-mul_left terms.transactions (go A p.1))
  where
    go : (A : ℕ) → A * terms.period ≤ length + terms.period → A + 1 ≤ length / terms.period + 2
    go zero l = omega arith
    go (suc k) l =
        omega (
          arith,
          (le-div_iff_mul-le {x = k} {y = length} positive).1 (omega (arith, l, add-mul k 1 terms.period, one-mul terms.period)),
        )
