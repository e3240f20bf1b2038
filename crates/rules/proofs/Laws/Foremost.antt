-- The foremost is one of those asked for, unless it is 64. Below 64 it is 64 only where there is none, and none of the others comes before it. A loop holds it with its
-- number: one more takes its place or does not.
use Prim.Native.Nat.{ℕ, zero, suc, ◌+◌, ◌≤◌, ◌<◌}
use mathlib.Core.Path.{◌≡◌, refl, sym, ap, ◌∙◌}
use mathlib.Core.Logic.{◌⊎◌, inl, inr, ◌≢◌}
use mathlib.Core.Bool.{Bool, true, false, cond, ◌&&◌, ◌||◌, and-false}
use native.Mathlib.Nat.{not-suc-le-zero, le_step, lt-suc_self}
use native.Mathlib.Numerals.{add-one}
use native.Mathlib.Omega.{arith}
use lib.Dec.{eqb, leb, ltb}
use borrow.Author.Tests.{eqb-true, eqb-false, eq-eqb, ne_eqb, ltb-true, ltb-false, leb-true, le-leb}
use Rattle.objects.proofs.Laws.Below.{below_suc, below_less, not_both, or_cases, or_left, or_right, or_false_left, or_false_right, and_left, and_right, and_both, and_cases}
use Rattle.rules.specs.declared.Session.{Session}
use Rattle.rules.specs.Ranking.{Ranking, foremost}
use Rattle.rules.specs.Tasks.{waiting}
use Rattle.rules.specs.Room.{rank_at}
use Rattle.rules.specs.Scan.{next}

-- ---- foremost

-- it has f, unless it is 64
abbrev Is : ℕ → (ℕ → Bool) → ℕ → Type 0
Is k f l = l ≢ 64 → (l < k) × (f l ≡ true)

pub foremost_found : (k : ℕ) (f : ℕ → Bool) (r : ℕ → ℕ) → Is k f (foremost k f r)
unfolding foremost
foremost_found zero f r = λ d. absurd (d refl)
foremost_found (suc k) f r = go (foremost_found k f r) (f k && after) refl
  where
    after : Bool
    after = eqb (foremost k f r) 64 || ltb (r k) (r (foremost k f r))

    go : Is k f (foremost k f r) → (b : Bool) → (f k && after) ≡ b → Is (suc k) f (cond b k (foremost k f r))
    go rest true e d = (lt-suc_self k, and_left (f k) after e)
    go rest false e d = let w = rest d in (le_step w.0, w.1)

-- there is one where any has f, and it comes before each of them
abbrev First : ℕ → (ℕ → Bool) → (ℕ → ℕ) → ℕ → Type 0
First k f r l = (j : ℕ) → j < k → f j ≡ true → (l ≢ 64) × (r l ≤ r j)

pub foremost_first : (k : ℕ) (f : ℕ → Bool) (r : ℕ → ℕ) → k ≤ 64 → First k f r (foremost k f r)
unfolding foremost
foremost_first zero f r h = λ j l e. absurd (not-suc-le-zero l)
foremost_first (suc k) f r h = go (foremost_first k f r (omega arith)) (f k && after) refl
  where
    m : ℕ
    m = foremost k f r

    after : Bool
    after = eqb (foremost k f r) 64 || ltb (r k) (r (foremost k f r))

    -- k takes the place of one that stood before it
    past : (m ≢ 64) → (eqb m 64 ≡ true) ⊎ (ltb (r k) (r m) ≡ true) → r k ≤ r m
    past d (inl e) = absurd (d (eqb-true m 64 e))
    past d (inr e) = omega (arith, ltb-true (r k) (r m) e)

    taken : First k f r m → (f k && after) ≡ true → (j : ℕ) → (j ≡ k) ⊎ (j < k) → f j ≡ true → r k ≤ r j
    taken rest e j (inl p) q = omega (arith, ap r p)
    taken rest e j (inr l) q =
        let w = rest j l q in
        omega (arith, w.1, past w.0 (or_cases (eqb m 64) (ltb (r k) (r m)) (and_right (f k) after e)))

    -- k does not, though it is asked for
    kept : f k ≡ true → (f k ≡ false) ⊎ (after ≡ false) → (m ≢ 64) × (r m ≤ r k)
    kept q (inl e) = absurd (not_both (f k) q e)
    kept q (inr e) = (
      eqb-false m 64 (or_false_left (eqb m 64) (ltb (r k) (r m)) e),
      ltb-false (r k) (r m) (or_false_right (eqb m 64) (ltb (r k) (r m)) e),
    )

    left : First k f r m → (f k && after) ≡ false → (j : ℕ) → (j ≡ k) ⊎ (j < k) → f j ≡ true → (m ≢ 64) × (r m ≤ r j)
    left rest e j (inl p) q = let w = kept (ap f (sym p) ∙ q) (and_cases (f k) after e) in (w.0, omega (arith, w.1, ap r p))
    left rest e j (inr l) q = rest j l q

    go : First k f r m → (b : Bool) → (f k && after) ≡ b → First (suc k) f r (cond b k m)
    go rest true e j l q = (λ (p : k ≡ 64). omega arith, taken rest e j (below_suc j k l) q)
    go rest false e j l q = left rest e j (below_suc j k l) q

-- it goes by what stands below k alone
pub foremost_ext : (k : ℕ) (f g : ℕ → Bool) (r q : ℕ → ℕ) → ((j : ℕ) → j < k → f j ≡ g j) → ((j : ℕ) → j < k → r j ≡ q j)
    → foremost k f r ≡ foremost k g q
unfolding foremost
foremost_ext zero f g r q same ranked = refl
foremost_ext (suc k) f g r q same ranked =
    let ih = foremost_ext k f g r q (below_less k (λ j. f j ≡ g j) same) (below_less k (λ j. r j ≡ q j) ranked) in
    rw (← ih, same k (lt-suc_self k), go (eqb m 64) refl)
  where
    m : ℕ
    m = foremost k f r

    go : (b : Bool) → eqb m 64 ≡ b → (b || ltb (r k) (r m)) ≡ (b || ltb (q k) (q m))
    go true e = refl
    go false e = rw (ranked k (lt-suc_self k), ranked m (le_step (foremost_found k f r (eqb-false m 64 e)).0))

-- where nobody has f there is none
pub foremost_none : (k : ℕ) (f : ℕ → Bool) (r : ℕ → ℕ) → ((j : ℕ) → f j ≡ false) → foremost k f r ≡ 64
unfolding foremost
foremost_none zero f r never = refl
foremost_none (suc k) f r never = rw (never k) (foremost_none k f r never)

-- ---- as a loop holds it

-- of the foremost so far and this one, the foremost is this one where t
foremost_more : (k : ℕ) (f : ℕ → Bool) (r : ℕ → ℕ) (best : ℕ) (t : Bool) → best ≡ foremost k f r
    → (f k && (eqb best 64 || ltb (r k) (r best))) ≡ t → cond t k best ≡ foremost (k + 1) f r
unfolding foremost
foremost_more k f r best t e p =
    rw add-one
    (ap (λ (u : Bool). cond u k best) (sym p)
    ∙ ap (λ (x : ℕ). cond (f k && (eqb x 64 || ltb (r k) (r x))) k x) e)

module _ (f : ℕ → Bool) (r : ℕ → ℕ) where
  -- best is the foremost of those below j that have f, and key its number where there is one
  pub record Best (j best key : ℕ) : Type 0 where
    pub first : best ≡ foremost j f r
    pub is : best ≢ 64 → key ≡ r best

  pub best_none : (key : ℕ) → Best 0 64 key
  unfolding foremost
  best_none key = record { first = refl; is = λ d. absurd (d refl) }

  module _ (j best key : ℕ) (seen : Best j best key) (best' key' : ℕ) where
    -- its number is asked of key
    key_asked : best ≢ 64 → ltb (r j) (r best) ≡ ltb (r j) key
    key_asked d = ap (ltb (r j)) (sym (seen.is d))

    -- j is the foremost: it has f, and it is the first or comes before
    pub best_taken : f j ≡ true → (best ≡ 64) ⊎ ((best ≢ 64) × (ltb (r j) key ≡ true)) → best' ≡ j → key' ≡ r j → Best (j + 1) best' key'
    best_taken has-it before p q = record {
      first = p ∙ foremost_more j f r best true seen.first (and_both (f j) (eqb best 64 || ltb (r j) (r best)) has-it (first before));
      is = λ d. q ∙ ap r (sym p);
    }
      where
        first : (best ≡ 64) ⊎ ((best ≢ 64) × (ltb (r j) key ≡ true)) → (eqb best 64 || ltb (r j) (r best)) ≡ true
        first (inl e) = or_left (eqb best 64) (ltb (r j) (r best)) (eq-eqb best 64 e)
        first (inr w) = or_right (eqb best 64) (ltb (r j) (r best)) (key_asked w.0 ∙ w.1)

    -- it is not, and what was the foremost stays
    kept : (f j && (eqb best 64 || ltb (r j) (r best))) ≡ false → best' ≡ best → key' ≡ key → Best (j + 1) best' key'
    kept test p q = record {
      first = p ∙ foremost_more j f r best false seen.first test;
      is = λ d. q ∙ seen.is (λ e. d (p ∙ e)) ∙ ap r (sym p);
    }

    -- since it does not have f
    pub best_passed : f j ≡ false → best' ≡ best → key' ≡ key → Best (j + 1) best' key'
    best_passed no-f = kept (rw no-f)

    -- since it comes after
    pub best_stays : best ≢ 64 → ltb (r j) key ≡ false → best' ≡ best → key' ≡ key → Best (j + 1) best' key'
    best_stays d after = kept (rw (ne_eqb best 64 d, key_asked d, after) (and-false (f j)))

-- ---- next

-- what a scan looks at from this rank on
abbrev pub ahead : Ranking → Session → ℕ → ℕ → Bool
ahead rank s from j = waiting s j && leb from (rank_at rank s j)

-- task i is such a one
pub record Found (rank : Ranking) (s : Session) (from i : ℕ) : Type 0 where
  pub below : i < s.n
  pub waits : waiting s i ≡ true
  pub ranked : from ≤ rank_at rank s i

pub next_found : (rank : Ranking) (s : Session) (from : ℕ) → next rank s from ≢ 64 → Found rank s from (next rank s from)
unfolding next
next_found rank s from d =
    let i = foremost s.n (ahead rank s from) (rank_at rank s) in
    let w = foremost_found s.n (ahead rank s from) (rank_at rank s) d in
    record {
      below = w.0;
      waits = and_left (waiting s i) (leb from (rank_at rank s i)) w.1;
      ranked = leb-true from (rank_at rank s i) (and_right (waiting s i) (leb from (rank_at rank s i)) w.1);
    }

pub next_first : (rank : Ranking) (s : Session) (from : ℕ) → s.n ≤ 64 → (j : ℕ) → j < s.n → waiting s j ≡ true → from ≤ rank_at rank s j
    → (next rank s from ≢ 64) × (rank_at rank s (next rank s from) ≤ rank_at rank s j)
unfolding next
next_first rank s from h j l w q =
    foremost_first s.n (ahead rank s from) (rank_at rank s) h j l
    (and_both (waiting s j) (leb from (rank_at rank s j)) w (le-leb from (rank_at rank s j) q))
