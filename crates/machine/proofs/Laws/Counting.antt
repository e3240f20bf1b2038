-- How many tasks a row has: where each task with f stands at exactly one place, there are as many of them as places. So of an ordered row's tasks k rank above the one at
-- place k.
use Prim.Native.Nat.{ℕ, zero, suc, ◌≤◌, ◌<◌}
use mathlib.Core.Path.{◌≡◌, refl, sym, ap, ◌∙◌}
use mathlib.Core.Logic.{◌≢◌, ◌⊎◌, inl, inr}
use mathlib.Core.List.{List}
use mathlib.Core.Bool.{Bool, true, false, not, ◌&&◌, and-true, and-false}
use native.Mathlib.Nat.{not-suc-le-zero, le_step, lt-suc_self, ne_of_lt, eq-or-lt_of_le}
use native.Mathlib.Omega.{arith}
use lib.Dec.{eqb, ltb}
use borrow.Author.Tests.{eqb-false, eq-eqb, ne_eqb, ltb-true, lt-ltb, not-true}
use Rattle.objects.specs.Below.{one, count}
use Rattle.objects.proofs.Laws.Below.{below_suc, below_or_from, not_true_false, and_left, and_right, and_both, count_none, count_all, count_change, count_less}
use Rattle.machine.specs.Places.{row_at}
use Rattle.machine.specs.Holds.{Ordered}

-- ---- one task taken out

-- those with f but i
abbrev pub but : (ℕ → Bool) → ℕ → ℕ → Bool
but f i j = f j && not (eqb j i)

-- i is not among them
pub but_self : (f : ℕ → Bool) (i : ℕ) → but f i i ≡ false
but_self f i = rw (eq-eqb i i refl) (and-false (f i))

-- every other is as it was
pub but_other : (f : ℕ → Bool) (i j : ℕ) → j ≢ i → but f i j ≡ f j
but_other f i j d = rw (ne_eqb j i d) (and-true (f j))

-- one that is among them has f, and is not i
pub but_has : (f : ℕ → Bool) (i j : ℕ) → but f i j ≡ true → f j ≡ true
but_has f i j e = and_left (f j) (not (eqb j i)) e

pub but_not : (f : ℕ → Bool) (i j : ℕ) → but f i j ≡ true → j ≢ i
but_not f i j e = eqb-false j i (not-true (eqb j i) (and_right (f j) (not (eqb j i)) e))

-- there is one fewer of them
pub count_remove : (n : ℕ) (f : ℕ → Bool) (i : ℕ) → i < n → f i ≡ true → count n f ≡ suc (count n (but f i))
count_remove n f i l e =
    omega (arith, count_change n f (but f i) i l (λ j m d. sym (but_other f i j d)), ap one e, ap one (but_self f i))

-- ---- as many as places

-- Each of c places has a number below n with f, no two the same, and each such number stands at one.
pub counted_by_places : (n : ℕ) (f : ℕ → Bool) (at : ℕ → ℕ) (c : ℕ) → ((k : ℕ) → k < c → (at k < n) × (f (at k) ≡ true))
    → ((j k : ℕ) → j < k → k < c → at j ≢ at k) → ((i : ℕ) → i < n → f i ≡ true → (k : ℕ) × (k < c) × (at k ≡ i)) → count n f ≡ c
counted_by_places n f at zero each once all = count_none n f (λ i l. not_true_false (f i) (λ e. absurd (not-suc-le-zero (all i l e).1)))
counted_by_places n f at (suc c) each once all =
    count_remove n f (at c) last.0 last.1 ∙ ap suc (counted_by_places n (but f (at c)) at c each' once' all')
  where
    last : (at c < n) × (f (at c) ≡ true)
    last = each c (lt-suc_self c)

    each' : (k : ℕ) → k < c → (at k < n) × (but f (at c) (at k) ≡ true)
    each' k l = let e = each k (le_step l) in (e.0, but_other f (at c) (at k) (once k c l (lt-suc_self c)) ∙ e.1)

    once' : (j k : ℕ) → j < k → k < c → at j ≢ at k
    once' j k l m = once j k l (le_step m)

    all' : (i : ℕ) → i < n → but f (at c) i ≡ true → (k : ℕ) × (k < c) × (at k ≡ i)
    all' i l e = let place = all i l (but_has f (at c) i e) in go place.0 place.2 (below_suc place.0 c place.1)
      where
        go : (k : ℕ) → at k ≡ i → (k ≡ c) ⊎ (k < c) → (k : ℕ) × (k < c) × (at k ≡ i)
        go k is (inl p) = absurd (but_not f (at c) i e (sym is ∙ ap at p))
        go k is (inr m) = (k, m, is)

-- ---- an ordered row

module _ (f : ℕ → Bool) (r : ℕ → ℕ) (w : List ℕ) (c : ℕ) (row : Ordered f r w c) where
  -- no task stands at two places
  pub row_once : (j k : ℕ) → j < k → k < c → row_at w j ≢ row_at w k
  row_once j k l m e = ne_of_lt (row.rising j k l m) (ap r e)

  -- the higher ranked stands first
  pub row_before : (j k : ℕ) → j < c → k < c → r (row_at w j) < r (row_at w k) → j < k
  row_before j k lj lk less = go (below_or_from j k)
    where
      later : (k ≡ j) ⊎ (k < j) → ⊥
      later (inl p) = ne_of_lt less (ap (λ (x : ℕ). r (row_at w x)) (sym p))
      later (inr m) = omega (arith, row.rising k j m lj)

      go : (j < k) ⊎ (k ≤ j) → j < k
      go (inl m) = m
      go (inr m) = absurd (later (eq-or-lt_of_le m))

  -- it has as many places as tasks have f
  pub row_size : count 64 f ≡ c
  row_size = counted_by_places 64 f (row_at w) c row.each row_once row.all

  -- k of its tasks rank above the one at place k
  pub row_counted : (k : ℕ) → k < c → count 64 (λ j. f j && ltb (r j) (r (row_at w k))) ≡ k
  row_counted k l = counted_by_places 64 higher (row_at w) k each once all
    where
      higher : ℕ → Bool
      higher j = f j && ltb (r j) (r (row_at w k))

      each : (j : ℕ) → j < k → (row_at w j < 64) × (higher (row_at w j) ≡ true)
      each j m =
          let e = row.each j (omega arith) in (
            e.0,
            and_both (f (row_at w j)) (ltb (r (row_at w j)) (r (row_at w k))) e.1
                (lt-ltb (r (row_at w j)) (r (row_at w k)) (row.rising j k m l)),
          )

      once : (i j : ℕ) → i < j → j < k → row_at w i ≢ row_at w j
      once i j m n = row_once i j m (omega arith)

      all : (i : ℕ) → i < 64 → higher i ≡ true → (j : ℕ) × (j < k) × (row_at w j ≡ i)
      all i li e =
          let place = row.all i li (and_left (f i) (ltb (r i) (r (row_at w k))) e) in
          let less : r i < r (row_at w k) = ltb-true (r i) (r (row_at w k)) (and_right (f i) (ltb (r i) (r (row_at w k))) e) in
          (place.0, row_before place.0 k place.1 l (rw place.2 less), place.2)

  -- where some task has not f, a place of the 64 is free
  pub row_few : (i : ℕ) → i < 64 → f i ≡ false → c ≤ 63
  row_few i l e =
      omega (
        arith,
        row_size,
        count_less 64 f (λ j. true) i l (λ j m p. refl) e refl,
        count_all 64 (λ j. true) (λ j m. refl),
      )
