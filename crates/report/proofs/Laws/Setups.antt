-- Equal setups: each is equal to itself, and two that are equal to one are equal.
use Prim.Native.Nat.{ℕ, ◌<◌}
use mathlib.Core.Path.{◌≡◌, refl, sym, subst, ◌∙◌}
use mathlib.Core.List.{List, [], ◌∷◌}
use mathlib.Core.Bool.{true, ◌&&◌}
use lib.Dec.{eqb}
use borrow.Author.Tests.{eq-eqb, eqb-true}
use Rattle.objects.specs.Below.{all}
use Rattle.objects.proofs.Laws.Below.{and_left, and_right, and_both, all_from}
use Rattle.rules.specs.declared.Terms.{Terms}
use Rattle.rules.specs.declared.Setup.{Setup}
use Rattle.rules.specs.Setup.{terms_at, same_terms, same_setup}
use Rattle.rules.proofs.Start.{Same, same_parts}
use Rattle.report.specs.Ledger.{Sitting, all_same}

-- by the numbers that they have
terms_made : (t v : Terms) → t.priority ≡ v.priority → t.period ≡ v.period → t.transactions ≡ v.transactions → same_terms t v ≡ true
terms_made t v p q r =
    and_both (eqb t.priority v.priority && eqb t.period v.period) (eqb t.transactions v.transactions)
    (and_both (eqb t.priority v.priority) (eqb t.period v.period) (eq-eqb t.priority v.priority p) (eq-eqb t.period v.period q))
    (eq-eqb t.transactions v.transactions r)

terms_euclid : (t v w : Terms) → same_terms t v ≡ true → same_terms t w ≡ true → same_terms v w ≡ true
terms_euclid t v w e f =
    terms_made v w (sym (priority v e) ∙ priority w f) (sym (period v e) ∙ period w f) (sym (transactions v e) ∙ transactions w f)
  where
    two : (x : Terms) → same_terms t x ≡ true → (eqb t.priority x.priority && eqb t.period x.period) ≡ true
    two x g = and_left (eqb t.priority x.priority && eqb t.period x.period) (eqb t.transactions x.transactions) g

    priority : (x : Terms) → same_terms t x ≡ true → t.priority ≡ x.priority
    priority x g = eqb-true t.priority x.priority (and_left (eqb t.priority x.priority) (eqb t.period x.period) (two x g))

    period : (x : Terms) → same_terms t x ≡ true → t.period ≡ x.period
    period x g = eqb-true t.period x.period (and_right (eqb t.priority x.priority) (eqb t.period x.period) (two x g))

    transactions : (x : Terms) → same_terms t x ≡ true → t.transactions ≡ x.transactions
    transactions x g =
        eqb-true t.transactions x.transactions
        (and_right (eqb t.priority x.priority && eqb t.period x.period) (eqb t.transactions x.transactions) g)

setups_made : (u v : Setup) → Same u v → same_setup u v ≡ true
unfolding same_setup
setups_made u v p =
    and_both (eqb u.m v.m && eqb u.n v.n && eqb u.mode v.mode) (all u.n (λ i. same_terms (terms_at u i) (terms_at v i)))
    (and_both (eqb u.m v.m && eqb u.n v.n) (eqb u.mode v.mode)
    (and_both (eqb u.m v.m) (eqb u.n v.n) (eq-eqb u.m v.m p.m) (eq-eqb u.n v.n p.n))
    (eq-eqb u.mode v.mode p.mode))
    (all_from u.n (λ i. same_terms (terms_at u i) (terms_at v i)) p.terms)

pub same_self : (u : Setup) → same_setup u u ≡ true
same_self u = setups_made u u (record { m = refl; n = refl; mode = refl; terms = λ i l. terms_made (terms_at u i) (terms_at u i) refl refl refl })

same_euclid : (u v w : Setup) → same_setup u v ≡ true → same_setup u w ≡ true → same_setup v w ≡ true
same_euclid u v w e f =
    let p = same_parts u v e in
    let q = same_parts u w f in
    setups_made v w (record {
      m = sym p.m ∙ q.m;
      n = sym p.n ∙ q.n;
      mode = sym p.mode ∙ q.mode;
      terms = λ i l.
          let below : i < u.n = subst (λ (k : ℕ). i < k) (sym p.n) l in
          terms_euclid (terms_at u i) (terms_at v i) (terms_at w i) (p.terms i below) (q.terms i below);
    })

-- and so of a list of sessions
pub all_same_lem : (u v : Setup) (sessions : List Sitting) → same_setup u v ≡ true → all_same u sessions ≡ true → all_same v sessions ≡ true
unfolding all_same
all_same_lem u v [] e f = refl
all_same_lem u v (s ∷ more) e f =
    and_both (same_setup v s.setup) (all_same v more) (same_euclid u v s.setup e (and_left (same_setup u s.setup) (all_same u more) f))
    (all_same_lem u v more e (and_right (same_setup u s.setup) (all_same u more) f))
