-- Equal setups start the same session: neither the number nor the fresh tasks look at more of a setup than its m, its n, its mode and the terms below n.
use Prim.Native.Nat.{ℕ, zero, suc, ◌<◌}
use mathlib.Core.Path.{◌≡◌, refl, ap, ap₂, ◌∙◌}
use mathlib.Core.List.{List}
use mathlib.Core.Bool.{Bool, true, cond, ◌&&◌}
use native.Mathlib.Nat.{lt-suc_self}
use lib.Dec.{eqb}
use lib.ListN.{set}
use borrow.Author.Tests.{eqb-true}
use Rattle.objects.specs.Below.{all}
use Rattle.objects.proofs.Laws.Below.{and_left, and_right, all_at, below_less}
use Rattle.rules.specs.declared.Terms.{Terms}
use Rattle.rules.specs.declared.Setup.{Setup}
use Rattle.rules.specs.declared.Task.{Task}
use Rattle.rules.specs.declared.Session.{Session}
use Rattle.rules.specs.declared.Started.{Started}
use Rattle.rules.specs.declared.Said.TheVariants.{Ok, No}
use Rattle.rules.specs.Tasks.{fresh_task}
use Rattle.rules.specs.Setup.{terms_at, terms_number, first_number, setup_number, fresh_tasks, fresh, no_session, start, same_terms, same_setup, SameStart}

-- the three numbers are all that terms have
made : ℕ → ℕ → ℕ → Terms
made priority period transactions = record { priority = priority; period = period; transactions = transactions }

same_terms_lem : (t t' : Terms) → same_terms t t' ≡ true → t ≡ t'
unfolding made
same_terms_lem t t' e =
    let a = eqb t.priority t'.priority in
    let b = eqb t.period t'.period in
    let d = eqb t.transactions t'.transactions in
    let p : t.priority ≡ t'.priority = eqb-true t.priority t'.priority (and_left a b (and_left (a && b) d e)) in
    let q : t.period ≡ t'.period = eqb-true t.period t'.period (and_right a b (and_left (a && b) d e)) in
    let r : t.transactions ≡ t'.transactions = eqb-true t.transactions t'.transactions (and_right (a && b) d e) in
    ap₂ (λ (x y : ℕ). made x y t.transactions) p q ∙ ap (made t'.priority t'.period) r

-- what equal setups have in common
pub record Same (u u' : Setup) : Type 0 where
  pub m : u.m ≡ u'.m
  pub n : u.n ≡ u'.n
  pub mode : u.mode ≡ u'.mode
  pub terms : (i : ℕ) → i < u.n → same_terms (terms_at u i) (terms_at u' i) ≡ true

pub same_parts : (u u' : Setup) → same_setup u u' ≡ true → Same u u'
unfolding same_setup
same_parts u u' e =
    let each : ℕ → Bool = λ i. same_terms (terms_at u i) (terms_at u' i) in
    let a = eqb u.m u'.m in
    let b = eqb u.n u'.n in
    let d = eqb u.mode u'.mode in
    let three = and_left (a && b && d) (all u.n each) e in
    let two = and_left (a && b) d three in
    record {
      m = eqb-true u.m u'.m (and_left a b two);
      n = eqb-true u.n u'.n (and_right a b two);
      mode = eqb-true u.mode u'.mode (and_right (a && b) d three);
      terms = all_at u.n each (and_right (a && b && d) (all u.n each) e);
    }

module _ (u u' : Setup) where
  same_first : (k : ℕ) → ((i : ℕ) → i < k → terms_at u i ≡ terms_at u' i) → first_number u k ≡ first_number u' k
  unfolding first_number
  same_first zero h = refl
  same_first (suc k) h =
      ap₂ (λ (before this : ℕ). cond (eqb before 0) this before) (same_first k (below_less k (λ i. terms_at u i ≡ terms_at u' i) h))
      (ap terms_number (h k (lt-suc_self k)))

  same_tasks : (k : ℕ) → ((i : ℕ) → i < k → terms_at u i ≡ terms_at u' i) → fresh_tasks u k ≡ fresh_tasks u' k
  unfolding fresh_tasks
  same_tasks zero h = refl
  same_tasks (suc k) h =
      ap₂ (λ (tasks : List Task) (this : Terms). set tasks k (fresh_task this)) (same_tasks k (below_less k (λ i. terms_at u i ≡ terms_at u' i) h))
      (h k (lt-suc_self k))

pub same_start : SameStart
unfolding start setup_number fresh
same_start u u' e =
    let same = same_parts u u' e in
    let terms : (i : ℕ) → i < u.n → terms_at u i ≡ terms_at u' i = λ i l. same_terms_lem (terms_at u i) (terms_at u' i) (same.terms i l) in
    let first : first_number u u.n ≡ first_number u' u'.n = same_first u u' u.n terms ∙ ap (first_number u') same.n in
    let number : setup_number u ≡ setup_number u' = rw (first, same.m, same.n, same.mode) in
    let tasks : fresh_tasks u u.n ≡ fresh_tasks u' u'.n = same_tasks u u' u.n terms ∙ ap (fresh_tasks u') same.n in
    let whole : fresh u ≡ fresh u' = rw (tasks, same.m, same.n, same.mode) in
    ap₂ (λ (k : ℕ) (s : Session). answer k s) number whole
  where
    answer : ℕ → Session → Started
    answer k s = cond (eqb k 0) (record { said = Ok; session = s }) (record { said = No k; session = no_session })
