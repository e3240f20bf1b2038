-- The opening of a session: what it makes where it is refused and where it is not.
use Prim.Native.Nat.{ℕ, zero, suc}
use mathlib.Core.Path.{◌≡◌, refl, sym, ap, ◌∙◌}
use mathlib.Core.Logic.{◌≢◌, ◌⊎◌, inl, inr}
use mathlib.Core.Bool.{Bool, true, false, cond, not, ◌&&◌, false≢true}
use native.Mathlib.Omega.{arith}
use lib.Dec.{eqb}
use borrow.Author.Tests.{eq-eqb, ne_eqb, eqb-true, eqb-false}
use Rattle.std.specs.declared.result.Result.TheVariants.{Ok, Err}
use Rattle.rules.specs.declared.Terms.{Terms}
use Rattle.rules.specs.declared.Setup.{Setup}
use Rattle.rules.specs.Ranking.{known_mode}
use Rattle.rules.specs.Tasks.{allowed}
use Rattle.rules.specs.Refusals.{refusal_number, result_number, refusal_of}
use Rattle.rules.specs.Setup.{terms_at, terms_number, first_number, setup_number, same_setup, fresh, no_session}
use Rattle.report.specs.declared.Tally.{Tally}
use Rattle.report.specs.declared.WithOpened.{WithOpened}
use Rattle.report.specs.Booking.{opened, open_number, opening}

-- an opening that is not refused
pub opening_is : (t : Tally) (v : Setup) → open_number t v ≡ 0
    → opening t v ≡ record {
      tally = record { taken = true; setup = v; figures = t.figures };
      opened = record { verdict = Ok tt; after = opened (fresh v) };
    }
unfolding opening
opening_is t v z = rw (eq-eqb (open_number t v) 0 z)

-- and one that is
pub opening_refused : (t : Tally) (v : Setup) → open_number t v ≢ 0
    → opening t v ≡ record { tally = t; opened = record { verdict = Err (refusal_of (open_number t v)); after = opened no_session } }
unfolding opening
opening_refused t v h = rw (ne_eqb (open_number t v) 0 h)

-- ---- the number that is answered

-- 0, or the number of the refusal that it names
abbrev Named : ℕ → Type 0
Named number = (number ≡ 0) ⊎ (refusal_number (refusal_of number) ≡ number)

named_cond : (b : Bool) (x y : ℕ) → Named x → Named y → Named (cond b x y)
named_cond true x y p q = p
named_cond false x y p q = q

named_terms : (terms : Terms) → Named (terms_number terms)
unfolding refusal_of
named_terms terms =
    named_cond (eqb terms.priority 0) 12 _ (inr refl) (named_cond (allowed 86400000 terms.period) 0 13 (inl refl) (inr refl))

named_first : (u : Setup) (k : ℕ) → Named (first_number u k)
unfolding first_number
named_first u zero = inl refl
named_first u (suc k) = named_cond (eqb (first_number u k) 0) _ _ (named_terms (terms_at u k)) (named_first u k)

named_setup : (u : Setup) → Named (setup_number u)
unfolding setup_number refusal_of
named_setup u =
    named_cond (allowed 16 u.m) _ 10
    (named_cond (allowed 64 u.n) _ 11 (named_cond (known_mode u.mode) _ 14 (named_first u u.n) (inr refl)) (inr refl))
    (inr refl)

named_open : (t : Tally) (v : Setup) → Named (open_number t v)
unfolding open_number refusal_of
named_open t v =
    named_cond (eqb (setup_number v) 0) _ _ (named_cond _ 40 0 (inr refl) (inl refl)) (named_setup v)

-- the verdict has it
pub opening_number : (t : Tally) (v : Setup) → result_number (opening t v).opened.verdict ≡ open_number t v
opening_number t v = go (eqb (open_number t v) 0) refl (named_open t v)
  where
    go : (b : Bool) → eqb (open_number t v) 0 ≡ b → Named (open_number t v) → result_number (opening t v).opened.verdict ≡ open_number t v
    go true e named =
        let z : open_number t v ≡ 0 = eqb-true (open_number t v) 0 e in
        ap (λ (x : WithOpened). result_number x.opened.verdict) (opening_is t v z) ∙ sym z
    go false e (inl z) = absurd (eqb-false (open_number t v) 0 e z)
    go false e (inr named) =
        ap (λ (x : WithOpened). result_number x.opened.verdict) (opening_refused t v (eqb-false (open_number t v) 0 e)) ∙ named

-- its setup is good
pub opens_setup : (t : Tally) (v : Setup) → open_number t v ≡ 0 → setup_number v ≡ 0
unfolding open_number
opens_setup t v z = go (eqb (setup_number v) 0) _ refl z
  where
    go : (b : Bool) (rest : ℕ) → eqb (setup_number v) 0 ≡ b → cond b rest (setup_number v) ≡ 0 → setup_number v ≡ 0
    go true rest e w = eqb-true (setup_number v) 0 e
    go false rest e w = w

-- where a setup has been taken, it is the same
pub opens_same : (t : Tally) (v : Setup) → open_number t v ≡ 0 → t.taken ≡ true → same_setup t.setup v ≡ true
unfolding open_number
opens_same t v z taken = go (eqb (setup_number v) 0) t.taken (same_setup t.setup v) refl taken z
  where
    go : (b has same : Bool) → eqb (setup_number v) 0 ≡ b → has ≡ true → cond b (cond (has && not same) 40 0) (setup_number v) ≡ 0 → same ≡ true
    go true true true e q w = refl
    go true true false e q w = absurd (omega (arith, w))
    go true false same e q w = absurd (false≢true q)
    go false has same e q w = absurd (false≢true (sym e ∙ eq-eqb (setup_number v) 0 w))
