-- Setup: its refusals, the fresh session, and what stands in the place of one where a setup is refused.
use Rattle.std.specs.Prelude.{ℕ, zero, suc, ◌≤◌, ◌≡◌, List, Bool, true, cond, ◌&&◌, eqb, get_or, set, replicate}
use Rattle.objects.specs.Below.{all}
use Rattle.rules.specs.declared.Terms.{Terms}
use Rattle.rules.specs.declared.Setup.{Setup}
use Rattle.rules.specs.declared.Task.{Task}
use Rattle.rules.specs.declared.Session.{Session}
use Rattle.rules.specs.declared.Started.{Started}
use Rattle.rules.specs.declared.Said.TheVariants.{Ok, No}
use Rattle.rules.specs.declared.State.TheVariants.{Absent}
use Rattle.rules.specs.Answers.{number}
use Rattle.rules.specs.Ranking.{known_mode}
use Rattle.rules.specs.Tasks.{allowed, fresh_task, no_terms, no_task, state_at}

abbrev pub terms_at : Setup → ℕ → Terms
terms_at u i = get_or u.terms i no_terms

-- '12, 13: setup: priority 0, then period not allowed'; the period is 1 to 86,400,000
abbrev pub terms_number : Terms → ℕ
terms_number t = cond (eqb t.priority 0) 12 (cond (allowed 86400000 t.period) 0 13)

-- 'lowest task first': the first number given by a task below k, and 0 where all are good
unfoldable pub first_number : Setup → ℕ → ℕ
first_number u zero = 0
first_number u (suc k) = cond (eqb (first_number u k) 0) (terms_number (terms_at u k)) (first_number u k)

-- 'setup tries 10, 11, then 12 and 13 for each task'; request 5: '14, unknown mode, tried after 11'
unfoldable pub setup_number : Setup → ℕ
unfolding first_number
setup_number u = cond (allowed 16 u.m) (cond (allowed 64 u.n) (cond (known_mode u.mode) (first_number u u.n) 14) 11) 10

-- every task below k fresh at its terms, and the rest as tasks that no setup names
unfoldable pub fresh_tasks : Setup → ℕ → List Task
fresh_tasks u zero = replicate 64 no_task
fresh_tasks u (suc k) = set (fresh_tasks u k) k (fresh_task (terms_at u k))

-- a session in which nothing has happened
abbrev pub quiet : ℕ → ℕ → ℕ → List Task → Session
quiet m n mode tasks = record {
  m = m;
  n = n;
  mode = mode;
  tick = 0;
  accepted = 0;
  tasks = tasks;
  reads = replicate 256 0;
  writes = replicate 256 0;
}

-- 'A fresh session has every task absent with no arrival, last tick 0 and nothing accepted.'
unfoldable pub fresh : Setup → Session
unfolding fresh_tasks
fresh u = quiet u.m u.n u.mode (fresh_tasks u u.n)

-- 'A refused setup makes no session; what comes back in its place has m and n 0 and every task absent'
unfoldable pub no_session : Session
no_session = quiet 0 0 0 (replicate 64 no_task)

unfoldable pub start : Setup → Started
unfolding setup_number fresh no_session
start u =
    cond (eqb (setup_number u) 0)
    (record { said = Ok; session = fresh u })
    (record { said = No (setup_number u); session = no_session })

-- The same said plainly: what comes back in the place of a session has m and n 0 and every task absent.
pub record NoSession (s : Session) : Type 0 where
  pub m : s.m ≡ 0
  pub n : s.n ≡ 0
  pub absent : (i : ℕ) → state_at s i ≡ Absent

abbrev pub NoSessionPlain : Type 0
NoSessionPlain = NoSession no_session

abbrev pub RefusedStart : Type 0
RefusedStart = (u : Setup) → 1 ≤ number (start u).said → NoSession (start u).session

-- 'Two setups are equal if m, n and the numbers of the tasks below n are.' Request 5: 'Setups are equal only with equal modes.'
abbrev pub same_terms : Terms → Terms → Bool
same_terms t t' = eqb t.priority t'.priority && eqb t.period t'.period && eqb t.transactions t'.transactions

unfoldable pub same_setup : Setup → Setup → Bool
unfolding all
same_setup u u' =
    eqb u.m u'.m && eqb u.n u'.n && eqb u.mode u'.mode && all u.n (λ i. same_terms (terms_at u i) (terms_at u' i))

-- equal setups start the same session
abbrev pub SameStart : Type 0
SameStart = (u u' : Setup) → same_setup u u' ≡ true → start u ≡ start u'
