-- `setup::same_setup` meets its contract. Assumes nothing.
use Rattle.std.proofs.Common.{arith, ◌≡◌, List, refl, sym, ap, ◌∙◌, Bool, true, false, ◌&&◌, length, take, min}
use Rattle.std.proofs.lemmas.List.{take_min}
use lib.Dec.{eqb}
use lib.Pointwise.{pointwise}
use Rattle.objects.specs.Below.{all}
use Rattle.objects.proofs.Laws.Below.{all_ext}
use Rattle.rules.specs.declared.Terms.{Terms}
use Rattle.rules.specs.contracts.TermsPartialEq.TheImpl.{eq-value}
use Rattle.rules.specs.Tasks.{no_terms}
use Rattle.rules.specs.Setup.{terms_at, same_terms, same_setup}
use Rattle.setup.proofs.Laws.Start.{same_first}
use Rattle.setup.proofs.same_setup.Goals as goal

-- the derived equality compares the three numbers, as `same_terms` does
derived : (t t' : Terms) → eq-value.it t t' ≡ same_terms t t'
derived t t' = and_assoc (eqb t.priority t'.priority) (eqb t.period t'.period) (eqb t.transactions t'.transactions)
  where
    and_assoc : (p q r : Bool) → (p && (q && r)) ≡ (p && q && r)
    and_assoc true q r = refl
    and_assoc false q r = refl

pub returns-then-eq : goal.returns-then-eq
unfolding same_setup
returns-then-eq c =
    let u = c.args.u in
    let v = c.args.other in
    let long : length u.terms ≡ 64 = omega arith in
    let long' : length v.terms ≡ 64 = omega arith in
    let cut : (xs : List Terms) → length xs ≡ 64 → take c.min-end.result xs ≡ take u.n xs =
    λ xs e. ap (λ k. take k xs) (c.min-end.ensures ∙ ap (min u.n) (sym e)) ∙ take_min u.n xs in
    let terms_same : Bool = all u.n (λ j. same_terms (terms_at u j) (terms_at v j)) in
    c.eq-then-eq.ensures ∙ ap (λ xs. pointwise eq-value.it xs (take c.min-end.result v.terms)) (cut u.terms long)
    ∙ ap (pointwise eq-value.it (take u.n u.terms)) (cut v.terms long')
    ∙ same_first eq-value.it no_terms refl u.n u.terms v.terms (omega arith)
    ∙ all_ext u.n (λ j. eq-value.it (terms_at u j) (terms_at v j)) (λ j. same_terms (terms_at u j) (terms_at v j))
    (λ j l. derived (terms_at u j) (terms_at v j))
    ∙ ap (λ (b : Bool). b && terms_same) c.if-eq.ensures

pub returns-else-eq : goal.returns-else-eq
unfolding same_setup
returns-else-eq c =
    let u = c.args.u in
    let v = c.args.other in
    c.if-eq.false ∙ ap (λ (b : Bool). b && all u.n (λ i. same_terms (terms_at u i) (terms_at v i))) c.if-eq.ensures
