-- The fresh session is sound: every task is absent, so nothing executes or waits, and every word of the rows is 0.
use Prim.Native.Nat.{ℕ, zero, suc, ◌+◌, ◌*◌, ◌≤◌, ◌<◌, zero-le}
use mathlib.Core.Path.{◌≡◌, refl, sym, ap, ◌∙◌}
use mathlib.Core.Logic.{◌⊎◌, inl, inr}
use mathlib.Core.Bool.{Bool, true, false, cond}
use native.Mathlib.Nat.{not-suc-le-zero, ne_of_lt, ne_of_gt, le_of_lt, le_of_eq, le_trans}
use native.Mathlib.Omega.{arith}
use lib.Dec.{eqb}
use lib.ListN.{length, get_or, set, length-set, length-replicate, get_or-replicate}
use lib.Seq.{get_or-set_same, get_or-set_other}
use borrow.Author.Tests.{eqb-true, eqb-false, leb-true}
use Rattle.objects.proofs.Laws.Below.{below_suc, not_both, count_none}
use Rattle.std.specs.Prelude.{None, Some}
use Rattle.rules.specs.declared.Terms.{Terms}
use Rattle.rules.specs.declared.Setup.{Setup}
use Rattle.rules.specs.declared.Task.{Task}
use Rattle.rules.specs.Ranking.{Ranking, known_mode}
use Rattle.rules.specs.Tasks.{is_absent, is_waiting, is_executing, wait_of, allowed, fresh_task, no_task, task_at, state_at, waiting, executing}
use Rattle.rules.specs.Setup.{terms_at, terms_number, first_number, setup_number, fresh_tasks, fresh}
use Rattle.rules.specs.Reachable.{Sound, FreshSound}
use Rattle.rules.proofs.Laws.Numbers.{must, must_not, allowed_bounds}

-- ---- a setup that is accepted

pub terms_good : (u : Setup) (k : ℕ) → first_number u k ≡ 0 → (i : ℕ) → i < k → terms_number (terms_at u i) ≡ 0
unfolding first_number
terms_good u zero e i l = absurd (not-suc-le-zero l)
terms_good u (suc k) e i l = go (λ z. terms_good u k z i) (eqb (first_number u k) 0) refl e
  where
    go : (first_number u k ≡ 0 → i < k → terms_number (terms_at u i) ≡ 0) → (b : Bool) → eqb (first_number u k) 0 ≡ b → cond b (terms_number (terms_at u k)) (first_number u k) ≡ 0 → terms_number (terms_at u i) ≡ 0
    go rest true t z =
        elim (below_suc i k l) [ inl p ↦ ap (λ (j : ℕ). terms_number (terms_at u j)) p ∙ z | inr m ↦ rest (eqb-true (first_number u k) 0 t) m ]
    go rest false t z = absurd (eqb-false (first_number u k) 0 t z)

-- ---- its tasks

-- they are 64
pub fresh_size : (u : Setup) (k : ℕ) → length (fresh_tasks u k) ≡ 64
unfolding fresh_tasks
fresh_size u zero = length-replicate 64 no_task
fresh_size u (suc k) = length-set (fresh_tasks u k) k (fresh_task (terms_at u k)) ∙ fresh_size u k

fresh_below : (u : Setup) (k i : ℕ) → k ≤ 64 → i < k → get_or (fresh_tasks u k) i no_task ≡ fresh_task (terms_at u i)
unfolding fresh_tasks
fresh_below u zero i h l = absurd (not-suc-le-zero l)
fresh_below u (suc k) i h l = go (below_suc i k l) (fresh_below u k i (omega arith))
  where
    go : (i ≡ k) ⊎ (i < k) → (i < k → get_or (fresh_tasks u k) i no_task ≡ fresh_task (terms_at u i))
        → get_or (set (fresh_tasks u k) k (fresh_task (terms_at u k))) i no_task ≡ fresh_task (terms_at u i)
    go (inl p) rest = rw p (get_or-set_same (fresh_tasks u k) k (fresh_task (terms_at u k)) no_task (omega (arith, fresh_size u k)))
    go (inr m) rest = get_or-set_other (fresh_tasks u k) k i (fresh_task (terms_at u k)) no_task (ne_of_lt m) ∙ rest m

fresh_past : (u : Setup) (k i : ℕ) → k ≤ i → i < 64 → get_or (fresh_tasks u k) i no_task ≡ no_task
unfolding fresh_tasks
fresh_past u zero i h l = get_or-replicate 64 i no_task no_task l
fresh_past u (suc k) i h l =
    get_or-set_other (fresh_tasks u k) k i (fresh_task (terms_at u k)) no_task (ne_of_gt h) ∙ fresh_past u k i (le_of_lt h) l

-- a period that a setup allows is no 0, and no more than a day
pub period_bounds : (t : Terms) → terms_number t ≡ 0 → (1 ≤ t.period) × (t.period ≤ 86400000)
period_bounds t e =
    let priority = must_not (eqb t.priority 0) (cond (allowed 86400000 t.period) 0 13) 12 (omega arith) e in
    allowed_bounds 86400000 t.period (must (allowed 86400000 t.period) 0 13 (omega arith) priority.1).0

-- ---- the session

module _ (rank : Ranking) (u : Setup) (good : setup_number u ≡ 0) where
  -- what is tried after 11, and after 10
  abbrev after_n : ℕ
  after_n = cond (known_mode u.mode) (first_number u u.n) 14

  abbrev after_m : ℕ
  after_m = cond (allowed 64 u.n) after_n 11

  m_good : (allowed 16 u.m ≡ true) × (after_m ≡ 0)
  unfolding setup_number
  m_good = must (allowed 16 u.m) after_m 10 (omega arith) good

  n_good : (allowed 64 u.n ≡ true) × (after_n ≡ 0)
  n_good = must (allowed 64 u.n) after_n 11 (omega arith) m_good.1

  mode_good : (known_mode u.mode ≡ true) × (first_number u u.n ≡ 0)
  mode_good = must (known_mode u.mode) (first_number u u.n) 14 (omega arith) n_good.1

  n_bounds : (1 ≤ u.n) × (u.n ≤ 64)
  n_bounds = allowed_bounds 64 u.n n_good.0

  m_bounds : (1 ≤ u.m) × (u.m ≤ 16)
  m_bounds = allowed_bounds 16 u.m m_good.0

  fresh_task_lem : (i : ℕ) → i < u.n → task_at (fresh u) i ≡ fresh_task (terms_at u i)
  unfolding fresh
  fresh_task_lem i l = fresh_below u u.n i n_bounds.1 l

  not_waiting : (i : ℕ) → i < u.n → waiting (fresh u) i ≡ false
  not_waiting i l = ap (λ (t : Task). is_waiting t.state) (fresh_task_lem i l)

  not_executing : (i : ℕ) → i < u.n → executing (fresh u) i ≡ false
  not_executing i l = ap (λ (t : Task). is_executing t.state) (fresh_task_lem i l)

  never_at : (a : ℕ) → None ≡ Some a → ⊥
  never_at a e = let z : ◌≡◌ {A = ℕ} 0 1 = cc in omega arith

  fresh_is_sound : Sound rank (fresh u)
  unfolding fresh
  fresh_is_sound = record {
    tasks = fresh_size u u.n;
    reads = length-replicate {A = ℕ} 256 0;
    writes = length-replicate {A = ℕ} 256 0;
    m_low = m_bounds.0;
    m_high = m_bounds.1;
    n_low = n_bounds.0;
    n_high = n_bounds.1;
    terms = λ i l. ap (λ (t : Task). terms_number t.terms) (fresh_task_lem i l) ∙ terms_good u u.n mode_good.1 i l;
    apart = λ i j li lj d x y. absurd (not_both (executing (fresh u) i) x (not_executing i li));
    fit = le_trans (le_of_eq (count_none u.n (executing (fresh u)) not_executing)) zero-le;
    held = λ i l w. absurd (not_both (waiting (fresh u) i) w (not_waiting i l));
    releases = λ i l. le_trans (le_of_eq (ap (λ (t : Task). t.releases) (fresh_task_lem i l))) zero-le;
    clashes = λ i l. le_of_eq (ap (λ (t : Task). (wait_of t.state).clashes) (fresh_task_lem i l));
    arrivals = λ i a l e. absurd (never_at a (sym (ap (λ (t : Task). t.arrival) (fresh_task_lem i l)) ∙ e));
    accepted = zero-le;
    present = λ i l e. absurd (not_both (is_absent (state_at (fresh u) i)) (ap (λ (t : Task). is_absent t.state) (fresh_task_lem i l)) e);
    emptied = λ i g li lg w x. (get_or-replicate 256 (i * 4 + g) 0 0 (omega arith), get_or-replicate 256 (i * 4 + g) 0 0 (omega arith));
    gone = λ i l a. (ap (λ (t : Task). t.releases) (fresh_task_lem i l), ap (λ (t : Task). t.rank) (fresh_task_lem i l));
    past = λ i l h. fresh_past u u.n i l h;
  }

pub fresh_sound : FreshSound
fresh_sound = fresh_is_sound

pub fresh_absent : (u : Setup) → setup_number u ≡ 0 → (i : ℕ) → i < (fresh u).n → is_absent (state_at (fresh u) i) ≡ true
unfolding fresh
fresh_absent u good i l = ap (λ (t : Task). is_absent t.state) (fresh_task_lem (λ t i. i) u good i l)

-- a setup that is accepted has a known mode
pub mode_within : (u : Setup) → setup_number u ≡ 0 → u.mode ≤ 1
mode_within u e = leb-true u.mode 1 (mode_good (λ t i. i) u e).0

-- and no more tasks than the table
pub n_within : (u : Setup) → setup_number u ≡ 0 → u.n ≤ 64
unfolding fresh
n_within u e = (fresh_sound (λ t i. i) u e).n_high
