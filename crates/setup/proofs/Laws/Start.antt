-- The laws of a setup: the number that its tasks give and the fresh tasks, one task more at a time; its answer by its number; and when the first of two lists are equal.
use Prim.Native.Nat.{ℕ, zero, suc, ◌+◌, ◌<◌}
use mathlib.Core.Path.{◌≡◌, refl, sym, ap, ◌∙◌}
use mathlib.Core.Logic.{◌≢◌, ◌⊎◌, inl, inr}
use mathlib.Core.List.{List, [], ◌∷◌}
use mathlib.Core.Bool.{Bool, true, ◌&&◌}
use native.Mathlib.Nat.{not-suc-le-zero}
use native.Mathlib.Numerals.{add-one}
use native.Mathlib.Omega.{arith}
use lib.ListN.{length, get_or, take, set}
use lib.Pointwise.{pointwise}
use borrow.Author.Tests.{ne_eqb}
use Rattle.objects.specs.Below.{all}
use Rattle.objects.proofs.Laws.Below.{below_suc, all_empty, all_first, all_from}
use Rattle.rules.specs.declared.Setup.{Setup}
use Rattle.rules.specs.declared.Said.TheVariants.{Ok, No}
use Rattle.rules.specs.Ranking.{known_mode}
use Rattle.rules.specs.Tasks.{allowed, fresh_task}
use Rattle.rules.specs.Setup.{terms_at, terms_number, first_number, setup_number, fresh_tasks, fresh, no_session, start}

-- ---- the number

pub first_empty : (u : Setup) → first_number u 0 ≡ 0
unfolding first_number
first_empty u = refl

-- one task more, where those before it are good
pub first_more : (u : Setup) (k : ℕ) → first_number u k ≡ 0 → first_number u (k + 1) ≡ terms_number (terms_at u k)
unfolding first_number
first_more u k e = rw (add-one, e)

-- the first number that is given stays
pub first_stays : (u : Setup) (k n : ℕ) → k < n → first_number u k ≡ 0 → terms_number (terms_at u k) ≢ 0 → first_number u n ≡ terms_number (terms_at u k)
unfolding first_number
first_stays u k zero l z g = absurd (not-suc-le-zero l)
first_stays u k (suc n) l z g = go (below_suc k n l) (λ m. first_stays u k n m z g)
  where
    go : (k ≡ n) ⊎ (k < n) → (k < n → first_number u n ≡ terms_number (terms_at u k)) → first_number u (suc n) ≡ terms_number (terms_at u k)
    go (inl p) rest = rw (← p, z)
    go (inr m) rest = rw (rest m, ne_eqb (terms_number (terms_at u k)) 0 g)

-- the setup's number is that of its tasks where m and n are allowed and the mode is known
pub number_of_tasks : (u : Setup) → allowed 16 u.m ≡ true → allowed 64 u.n ≡ true → known_mode u.mode ≡ true
    → setup_number u ≡ first_number u u.n
unfolding setup_number
number_of_tasks u p q r = rw (p, q, r)

-- ---- the answer

pub start_refused : (u : Setup) (k : ℕ) → k ≡ setup_number u → k ≢ 0 → start u ≡ record { said = No k; session = no_session }
unfolding start
start_refused u k e h = rw (← e, ne_eqb k 0 h)

pub start_accepted : (u : Setup) → setup_number u ≡ 0 → start u ≡ record { said = Ok; session = fresh u }
unfolding start
start_accepted u e = rw e

-- ---- equal terms

-- two lists of one length have the same first k where their elements below k are the same: past the lists both read as d
pub same_first : {A : Type 0} (E : A → A → Bool) (d : A) → E d d ≡ true → (k : ℕ) (xs ys : List A) → length xs ≡ length ys
    → pointwise E (take k xs) (take k ys) ≡ all k (λ j. E (get_or xs j d) (get_or ys j d))
same_first E d same zero xs ys e = sym (all_empty (λ j. E (get_or xs j d) (get_or ys j d)))
same_first E d same (suc k) [] [] e = sym (all_from (suc k) (λ j. E d d) (λ j l. same))
same_first E d same (suc k) [] (y ∷ ys) e = absurd (omega arith)
same_first E d same (suc k) (x ∷ xs) [] e = absurd (omega arith)
same_first E d same (suc k) (x ∷ xs) (y ∷ ys) e =
    ap (λ (b : Bool). E x y && b) (same_first E d same k xs ys (omega arith))
    ∙ sym (all_first k (λ j. E (get_or (x ∷ xs) j d) (get_or (y ∷ ys) j d)))

-- ---- the fresh tasks

pub fresh_more : (u : Setup) (k : ℕ) → fresh_tasks u (k + 1) ≡ set (fresh_tasks u k) k (fresh_task (terms_at u k))
unfolding fresh_tasks
fresh_more u k = rw add-one
