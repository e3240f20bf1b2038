-- Two tasks are alike if they are the same but for the counts of a wait, of which the clash count may have risen by 1. An event leaves every task but its own
-- alike; what a commit raises is alike too.
use Prim.Native.Nat.{ℕ, zero, suc, ◌+◌, ◌≤◌}
use mathlib.Core.Path.{◌≡◌, refl, sym, ap, ◌∙◌}
use mathlib.Core.Logic.{◌⊎◌, inl, inr, ◌≢◌}
use mathlib.Core.List.{List}
use mathlib.Core.Bool.{Bool, true, false, cond, ◌&&◌, false≢true}
use native.Mathlib.Omega.{arith}
use lib.Dec.{eqb}
use lib.ListN.{length, get_or, set, length-set}
use lib.Seq.{get_or-set_same, get_or-set_other}
use borrow.Author.Tests.{eqb-true, eqb-false}
use Rattle.objects.specs.Objects.{Sets, clash}
use Rattle.objects.proofs.Laws.Below.{and_left}
use Rattle.rules.specs.declared.Wait.{Wait}
use Rattle.rules.specs.declared.State.{State}
use Rattle.rules.specs.declared.State.TheVariants.{Absent, Plain, Waiting, Executing}
use Rattle.rules.specs.declared.Task.{Task}
use Rattle.rules.specs.declared.Session.{Session}
use Rattle.rules.specs.Tasks.{is_waiting, wait_of, no_task, task_at, waiting, sets_at, in_state}
use Rattle.rules.specs.Events.{one_more, raised_state, raised_task, raised}

-- a law at every place: at one place, and at the others
pub at_or_other : (i : ℕ) (P : ℕ → Type 0) → P i → ((j : ℕ) → j ≢ i → P j) → (j : ℕ) → P j
at_or_other i P here others j = go (eqb j i) refl
  where
    go : (b : Bool) → eqb j i ≡ b → P j
    go true e = rw (eqb-true j i e) here
    go false e = others j (eqb-false j i e)

-- the second has waited through one commit more
pub record Raised (t u : Task) : Type 0 where
  pub before : Wait
  pub now : Wait
  pub waits : t.state ≡ Waiting before
  pub raises : u ≡ in_state t (Waiting now)
  pub once : now.clashes ≤ before.clashes + 1

abbrev pub Alike : Task → Task → Type 0
Alike t u = (u ≡ t) ⊎ Raised t u

pub alike_terms : (t u : Task) → Alike t u → u.terms ≡ t.terms
alike_terms t u (inl e) = ap (λ (x : Task). x.terms) e
alike_terms t u (inr r) = ap (λ (x : Task). x.terms) r.raises

pub alike_arrival : (t u : Task) → Alike t u → u.arrival ≡ t.arrival
alike_arrival t u (inl e) = ap (λ (x : Task). x.arrival) e
alike_arrival t u (inr r) = ap (λ (x : Task). x.arrival) r.raises

pub alike_releases : (t u : Task) → Alike t u → u.releases ≡ t.releases
alike_releases t u (inl e) = ap (λ (x : Task). x.releases) e
alike_releases t u (inr r) = ap (λ (x : Task). x.releases) r.raises

pub alike_rank : (t u : Task) → Alike t u → u.rank ≡ t.rank
alike_rank t u (inl e) = ap (λ (x : Task). x.rank) e
alike_rank t u (inr r) = ap (λ (x : Task). x.rank) r.raises

-- of a state, what does not go by the wait: which of the four it is
pub alike_state : (f : State → Bool) → ((w v : Wait) → f (Waiting w) ≡ f (Waiting v)) → (t u : Task) → Alike t u → f u.state ≡ f t.state
alike_state f h t u (inl e) = ap (λ (x : Task). f x.state) e
alike_state f h t u (inr r) = ap (λ (x : Task). f x.state) r.raises ∙ h r.now r.before ∙ sym (ap f r.waits)

pub alike_clashes : (t u : Task) → Alike t u → (wait_of u.state).clashes ≤ (wait_of t.state).clashes + 1
alike_clashes t u (inl e) = omega (arith, ap (λ (x : Task). (wait_of x.state).clashes) e)
alike_clashes t u (inr r) =
    omega (arith, ap (λ (x : Task). (wait_of x.state).clashes) r.raises, ap (λ (x : State). (wait_of x).clashes) r.waits, r.once)

-- a task that does not wait is the same
pub alike_same : (t u : Task) → is_waiting t.state ≡ false → Alike t u → u ≡ t
alike_same t u n (inl e) = e
alike_same t u n (inr r) = absurd (false≢true (sym n ∙ ap is_waiting r.waits))

-- ---- what a commit raises

raised_once : (b : Bool) (t : Task) (state : State) → t.state ≡ state → is_waiting state ≡ true → Raised t (in_state t (raised_state b state))
raised_once b t Absent e w = absurd (false≢true w)
raised_once b t Plain e w = absurd (false≢true w)
raised_once b t (Waiting v) e w = record {
  before = v;
  now = record { release = v.release; clashes = one_more v.clashes; retries = cond b (one_more v.retries) v.retries };
  waits = e;
  raises = refl;
  once = omega arith;
}
raised_once b t Executing e w = absurd (false≢true w)

-- the task at place k, raised
abbrev pub up : (ℕ → Bool) → Session → ℕ → Task
up hadRun s k = raised_task (hadRun k) (task_at s k)

module _ (hadRun : ℕ → Bool) (s : Session) (x : Sets) where
  pub raised_size : (k : ℕ) → length (raised hadRun s x k) ≡ length s.tasks
  unfolding raised
  raised_size zero = refl
  raised_size (suc k) = go (raised_size k) (waiting s k && clash x (sets_at s k))
    where
      row : List Task
      row = raised hadRun s x k

      go : length row ≡ length s.tasks → (b : Bool) → length (cond b (set row k (up hadRun s k)) row) ≡ length s.tasks
      go ih true = length-set row k (up hadRun s k) ∙ ih
      go ih false = ih

  pub raised_alike : (k : ℕ) → k ≤ length s.tasks → (j : ℕ) → Alike (task_at s j) (get_or (raised hadRun s x k) j no_task)
  unfolding raised
  raised_alike zero h j = inl refl
  raised_alike (suc k) h j = go (raised_alike k (omega arith)) (waiting s k && clash x (sets_at s k)) refl j
    where
      row : List Task
      row = raised hadRun s x k

      go : ((j : ℕ) → Alike (task_at s j) (get_or row j no_task)) → (b : Bool) → (waiting s k && clash x (sets_at s k)) ≡ b
          → (j : ℕ) → Alike (task_at s j) (get_or (cond b (set row k (up hadRun s k)) row) j no_task)
      go ih true e =
          at_or_other k (λ (j : ℕ). Alike (task_at s j) (get_or (set row k (up hadRun s k)) j no_task))
          (rw (get_or-set_same row k (up hadRun s k) no_task (omega (arith, raised_size k)))
          (inr (raised_once (hadRun k) (task_at s k) (task_at s k).state refl (and_left (waiting s k) (clash x (sets_at s k)) e))))
          (λ j d. rw (get_or-set_other row k j (up hadRun s k) no_task d) (ih j))
      go ih false e = ih
