-- The laws of the bounded definitions any, all, sum, count and least. Each definition counts k down, so most laws are an induction on k with the last
-- number split off; `-first` laws split off 0 instead, and `-more` laws are the definition at the loops' k + 1.
use Prim.Native.Nat.{ℕ, zero, suc, ◌+◌, ◌-◌, ◌*◌, ◌≤◌, ◌<◌, zero-le, suc-le-suc}
use mathlib.Core.Path.{◌≡◌, refl, sym, ap, ap₂, ◌∙◌}
use mathlib.Core.Logic.{◌≢◌, ◌⊎◌, inl, inr}
use mathlib.Core.Bool.{Bool, true, false, cond, ◌&&◌, ◌||◌, or-false, or_assoc, and-true, and_assoc, true≢false, false≢true}
use native.Mathlib.Nat.{le_of_suc-le-suc, not-suc-le-zero, le_step, lt-suc_self, eq-or-lt_of_le, ne_of_lt, ne_of_gt, le_refl, le_of_lt, le_antisymm, lt_of_lt_of_le, lt_of_not-le, not-suc-le_self, add-suc, add-zero, add-sub_of_le, zero-mul, suc-mul, add-mul}
use native.Mathlib.Numerals.{add-one}
use native.Mathlib.Omega.{arith}
use lib.Dec.{ltb, eqb}
use borrow.Author.Tests.{ltb-true, ltb-false, eq-eqb, ne_eqb}
use Rattle.objects.specs.Below.{any, all, sum, one, count, least}

-- a number below suc k is k or below k
pub below_suc : (j k : ℕ) → j < suc k → (j ≡ k) ⊎ (j < k)
below_suc j k h = eq-or-lt_of_le (le_of_suc-le-suc h)

-- a number is below a or from it on
pub below_or_from : (j a : ℕ) → (j < a) ⊎ (a ≤ j)
below_or_from j a = go (ltb j a) refl
  where
    go : (b : Bool) → ltb j a ≡ b → (j < a) ⊎ (a ≤ j)
    go true e = inl (ltb-true j a e)
    go false e = inr (ltb-false j a e)

-- what holds below suc k holds below k
pub below_less : (k : ℕ) (P : ℕ → Type 0) → ((j : ℕ) → j < suc k → P j) → (j : ℕ) → j < k → P j
below_less k P h j l = h j (le_step l)

-- ---- yes and no

-- two Booleans are equal when each is true where the other is
pub bool_ext : (a b : Bool) → (a ≡ true → b ≡ true) → (b ≡ true → a ≡ true) → a ≡ b
bool_ext true true p q = refl
bool_ext true false p q = sym (p refl)
bool_ext false true p q = q refl
bool_ext false false p q = refl

-- not true is false
pub not_true_false : (a : Bool) → (a ≡ true → ⊥) → a ≡ false
not_true_false true p = absurd (p refl)
not_true_false false p = refl

pub not_both : (a : Bool) → a ≡ true → a ≡ false → ⊥
not_both a p q = true≢false (sym p ∙ q)

pub or_cases : (a b : Bool) → (a || b) ≡ true → (a ≡ true) ⊎ (b ≡ true)
or_cases true b e = inl refl
or_cases false b e = inr e

pub or_left : (a b : Bool) → a ≡ true → (a || b) ≡ true
or_left true b e = refl
or_left false b e = absurd (false≢true e)

pub or_right : (a b : Bool) → b ≡ true → (a || b) ≡ true
or_right true b e = refl
or_right false b e = e

pub or_false_left : (a b : Bool) → (a || b) ≡ false → a ≡ false
or_false_left true b e = e
or_false_left false b e = refl

pub or_false_right : (a b : Bool) → (a || b) ≡ false → b ≡ false
or_false_right true b e = absurd (true≢false e)
or_false_right false b e = e

pub and_left : (a b : Bool) → (a && b) ≡ true → a ≡ true
and_left true b e = refl
and_left false b e = e

pub and_right : (a b : Bool) → (a && b) ≡ true → b ≡ true
and_right true b e = e
and_right false b e = absurd (false≢true e)

pub and_both : (a b : Bool) → a ≡ true → b ≡ true → (a && b) ≡ true
and_both true b p q = q
and_both false b p q = p

pub and_cases : (a b : Bool) → (a && b) ≡ false → (a ≡ false) ⊎ (b ≡ false)
and_cases true b e = inr e
and_cases false b e = inl refl

-- ---- any

pub any_empty : (f : ℕ → Bool) → any 0 f ≡ false
unfolding any
any_empty f = refl

pub any_more : (k : ℕ) (f : ℕ → Bool) → any (k + 1) f ≡ (any k f || f k)
unfolding any
any_more k f = rw add-one

pub any_first : (k : ℕ) (f : ℕ → Bool) → any (suc k) f ≡ (f 0 || any k (λ j. f (suc j)))
unfolding any
any_first zero f = sym (or-false (f 0))
any_first (suc k) f = ap (λ (b : Bool). b || f (suc k)) (any_first k f) ∙ or_assoc (f 0) (any k (λ j. f (suc j))) (f (suc k))

pub any_ext : (k : ℕ) (f g : ℕ → Bool) → ((j : ℕ) → j < k → f j ≡ g j) → any k f ≡ any k g
unfolding any
any_ext zero f g h = refl
any_ext (suc k) f g h =
    ap₂ (λ (a b : Bool). a || b) (any_ext k f g (below_less k (λ j. f j ≡ g j) h)) (h k (lt-suc_self k))

pub any_none : (k : ℕ) (f : ℕ → Bool) → ((j : ℕ) → j < k → f j ≡ false) → any k f ≡ false
unfolding any
any_none zero f h = refl
any_none (suc k) f h = rw (any_none k f (below_less k (λ j. f j ≡ false) h)) (h k (lt-suc_self k))

pub any_at : (k : ℕ) (f : ℕ → Bool) (j : ℕ) → j < k → f j ≡ true → any k f ≡ true
unfolding any
any_at zero f j l e = absurd (not-suc-le-zero l)
any_at (suc k) f j l e = go (λ m. any_at k f j m e) (below_suc j k l)
  where
    go : (j < k → any k f ≡ true) → (j ≡ k) ⊎ (j < k) → (any k f || f k) ≡ true
    go rest (inl p) = or_right (any k f) (f k) (ap f (sym p) ∙ e)
    go rest (inr m) = or_left (any k f) (f k) (rest m)

pub any_witness : (k : ℕ) (f : ℕ → Bool) → any k f ≡ true → (j : ℕ) × (j < k) × (f j ≡ true)
unfolding any
any_witness zero f e = absurd (false≢true e)
any_witness (suc k) f e = go (any_witness k f) (or_cases (any k f) (f k) e)
  where
    go : (any k f ≡ true → (j : ℕ) × (j < k) × (f j ≡ true)) → (any k f ≡ true) ⊎ (f k ≡ true) → (j : ℕ) × (j < suc k) × (f j ≡ true)
    go rest (inl p) = let w = rest p in (w.0, le_step w.1, w.2)
    go rest (inr p) = (k, lt-suc_self k, p)

pub any_false : (k : ℕ) (f : ℕ → Bool) → any k f ≡ false → (j : ℕ) → j < k → f j ≡ false
any_false k f e j l = not_true_false (f j) (λ p. not_both (any k f) (any_at k f j l p) e)

pub any_mono : (k : ℕ) (f g : ℕ → Bool) → ((j : ℕ) → j < k → f j ≡ true → g j ≡ true) → any k f ≡ true → any k g ≡ true
any_mono k f g h e = let w = any_witness k f e in any_at k g w.0 w.1 (h w.0 w.1 w.2)

pub any_split : (a b : ℕ) (f : ℕ → Bool) → any (a + b) f ≡ (any a f || any b (λ j. f (a + j)))
unfolding any
any_split a zero f = rw add-zero (sym (or-false (any a f)))
any_split a (suc b) f =
    rw add-suc (ap (λ (x : Bool). x || f (a + b)) (any_split a b f) ∙ or_assoc (any a f) (any b (λ j. f (a + j))) (f (a + b)))

-- in n blocks of m
pub any_blocks : (n m : ℕ) (f : ℕ → Bool) → any (n * m) f ≡ any n (λ g. any m (λ i. f (g * m + i)))
unfolding any
any_blocks zero m f = ap (λ (k : ℕ). any k f) (zero-mul m)
any_blocks (suc n) m f =
    ap (λ (k : ℕ). any k f) (suc-mul n m) ∙ any_split (n * m) m f
    ∙ ap (λ (b : Bool). b || any m (λ i. f (n * m + i))) (any_blocks n m f)

-- ---- all

pub all_empty : (f : ℕ → Bool) → all 0 f ≡ true
unfolding all
all_empty f = refl

pub all_more : (k : ℕ) (f : ℕ → Bool) → all (k + 1) f ≡ (all k f && f k)
unfolding all
all_more k f = rw add-one

pub all_first : (k : ℕ) (f : ℕ → Bool) → all (suc k) f ≡ (f 0 && all k (λ j. f (suc j)))
unfolding all
all_first zero f = sym (and-true (f 0))
all_first (suc k) f = ap (λ (b : Bool). b && f (suc k)) (all_first k f) ∙ and_assoc (f 0) (all k (λ j. f (suc j))) (f (suc k))

pub all_ext : (k : ℕ) (f g : ℕ → Bool) → ((j : ℕ) → j < k → f j ≡ g j) → all k f ≡ all k g
unfolding all
all_ext zero f g h = refl
all_ext (suc k) f g h =
    ap₂ (λ (a b : Bool). a && b) (all_ext k f g (below_less k (λ j. f j ≡ g j) h)) (h k (lt-suc_self k))

pub all_at : (k : ℕ) (f : ℕ → Bool) → all k f ≡ true → (j : ℕ) → j < k → f j ≡ true
unfolding all
all_at zero f e j l = absurd (not-suc-le-zero l)
all_at (suc k) f e j l = go (all_at k f (and_left (all k f) (f k) e) j) (below_suc j k l)
  where
    go : (j < k → f j ≡ true) → (j ≡ k) ⊎ (j < k) → f j ≡ true
    go rest (inl p) = ap f p ∙ and_right (all k f) (f k) e
    go rest (inr m) = rest m

pub all_from : (k : ℕ) (f : ℕ → Bool) → ((j : ℕ) → j < k → f j ≡ true) → all k f ≡ true
unfolding all
all_from zero f h = refl
all_from (suc k) f h = and_both (all k f) (f k) (all_from k f (below_less k (λ j. f j ≡ true) h)) (h k (lt-suc_self k))

pub all_counter : (k : ℕ) (f : ℕ → Bool) → all k f ≡ false → (j : ℕ) × (j < k) × (f j ≡ false)
unfolding all
all_counter zero f e = absurd (true≢false e)
all_counter (suc k) f e = go (all_counter k f) (and_cases (all k f) (f k) e)
  where
    go : (all k f ≡ false → (j : ℕ) × (j < k) × (f j ≡ false)) → (all k f ≡ false) ⊎ (f k ≡ false) → (j : ℕ) × (j < suc k) × (f j ≡ false)
    go rest (inl p) = let w = rest p in (w.0, le_step w.1, w.2)
    go rest (inr p) = (k, lt-suc_self k, p)

pub all_refuted : (k : ℕ) (f : ℕ → Bool) (j : ℕ) → j < k → f j ≡ false → all k f ≡ false
all_refuted k f j l e = not_true_false (all k f) (λ p. not_both (f j) (all_at k f p j l) e)

pub all_split : (a b : ℕ) (f : ℕ → Bool) → all (a + b) f ≡ (all a f && all b (λ j. f (a + j)))
unfolding all
all_split a zero f = rw add-zero (sym (and-true (all a f)))
all_split a (suc b) f =
    rw add-suc (ap (λ (x : Bool). x && f (a + b)) (all_split a b f) ∙ and_assoc (all a f) (all b (λ j. f (a + j))) (f (a + b)))

-- ---- sum

pub sum_empty : (f : ℕ → ℕ) → sum 0 f ≡ 0
unfolding sum
sum_empty f = refl

pub sum_more : (k : ℕ) (f : ℕ → ℕ) → sum (k + 1) f ≡ sum k f + f k
unfolding sum
sum_more k f = rw add-one

pub sum_first : (k : ℕ) (f : ℕ → ℕ) → sum (suc k) f ≡ f 0 + sum k (λ j. f (suc j))
unfolding sum
sum_first zero f = omega arith
sum_first (suc k) f = omega (arith, sum_first k f)

pub sum_ext : (k : ℕ) (f g : ℕ → ℕ) → ((j : ℕ) → j < k → f j ≡ g j) → sum k f ≡ sum k g
unfolding sum
sum_ext zero f g h = refl
sum_ext (suc k) f g h = ap₂ (λ (a b : ℕ). a + b) (sum_ext k f g (below_less k (λ j. f j ≡ g j) h)) (h k (lt-suc_self k))

pub sum_mono : (k : ℕ) (f g : ℕ → ℕ) → ((j : ℕ) → j < k → f j ≤ g j) → sum k f ≤ sum k g
unfolding sum
sum_mono zero f g h = zero-le
sum_mono (suc k) f g h = omega (arith, sum_mono k f g (below_less k (λ j. f j ≤ g j) h), h k (lt-suc_self k))

pub sum_zero : (k : ℕ) (f : ℕ → ℕ) → ((j : ℕ) → j < k → f j ≡ 0) → sum k f ≡ 0
unfolding sum
sum_zero zero f h = refl
sum_zero (suc k) f h = omega (arith, sum_zero k f (below_less k (λ j. f j ≡ 0) h), h k (lt-suc_self k))

-- one term alone differs
pub sum_change : (k : ℕ) (f g : ℕ → ℕ) (j : ℕ) → j < k → ((i : ℕ) → i < k → i ≢ j → f i ≡ g i) → sum k f + g j ≡ sum k g + f j
unfolding sum
sum_change zero f g j l h = absurd (not-suc-le-zero l)
sum_change (suc k) f g j l h = go (λ m. sum_change k f g j m (below_less k (λ i. i ≢ j → f i ≡ g i) h)) (below_suc j k l)
  where
    go : (j < k → sum k f + g j ≡ sum k g + f j) → (j ≡ k) ⊎ (j < k) → sum k f + f k + g j ≡ sum k g + g k + f j
    go rest (inl p) =
        let same : sum k f ≡ sum k g = sum_ext k f g (λ i m. h i (le_step m) (λ q. ne_of_lt m (q ∙ p))) in
        rw p (omega arith)
    go rest (inr m) = omega (arith, rest m, h k (lt-suc_self k) (ne_of_gt m))

pub sum_split : (a b : ℕ) (f : ℕ → ℕ) → sum (a + b) f ≡ sum a f + sum b (λ j. f (a + j))
unfolding sum
sum_split a zero f = ap (λ (n : ℕ). sum n f) (add-zero a) ∙ sym (add-zero (sum a f))
sum_split a (suc b) f = rw add-suc (omega (arith, sum_split a b f))

pub sum_term : (k : ℕ) (f : ℕ → ℕ) (j : ℕ) → j < k → f j ≤ sum k f
unfolding sum
sum_term zero f j l = absurd (not-suc-le-zero l)
sum_term (suc k) f j l = go (sum_term k f j) (below_suc j k l)
  where
    go : (j < k → f j ≤ sum k f) → (j ≡ k) ⊎ (j < k) → f j ≤ sum k f + f k
    go rest (inl p) = rw p (omega arith)
    go rest (inr m) = omega (arith, rest m)

-- the sum of sums, term by term
pub sum_add : (k : ℕ) (f g : ℕ → ℕ) → sum k (λ j. f j + g j) ≡ sum k f + sum k g
unfolding sum
sum_add zero f g = refl
sum_add (suc k) f g = omega (arith, sum_add k f g)

-- a common factor
pub sum_scale : (k : ℕ) (f : ℕ → ℕ) (c : ℕ) → sum k (λ j. f j * c) ≡ sum k f * c
unfolding sum
sum_scale zero f c = sym (zero-mul c)
sum_scale (suc k) f c = ap (λ (x : ℕ). x + f k * c) (sum_scale k f c) ∙ sym (add-mul (sum k f) (f k) c)

-- in n blocks of m
pub sum_blocks : (n m : ℕ) (f : ℕ → ℕ) → sum (n * m) f ≡ sum n (λ g. sum m (λ i. f (g * m + i)))
unfolding sum
sum_blocks zero m f = ap (λ (k : ℕ). sum k f) (zero-mul m)
sum_blocks (suc n) m f =
    ap (λ (k : ℕ). sum k f) (suc-mul n m) ∙ sum_split (n * m) m f
    ∙ ap (λ (x : ℕ). x + sum m (λ i. f (n * m + i))) (sum_blocks n m f)

-- ---- count

pub one_le : (b : Bool) → one b ≤ 1
one_le true = omega arith
one_le false = omega arith

pub one_mono : (a b : Bool) → (a ≡ true → b ≡ true) → one a ≤ one b
one_mono true b h = rw (h refl) (omega arith)
one_mono false b h = zero-le

-- 1 stands for a yes alone
pub one_zero : (b : Bool) → one b ≡ 0 → b ≡ false
one_zero true e = absurd (omega arith)
one_zero false e = refl

pub count_empty : (f : ℕ → Bool) → count 0 f ≡ 0
unfolding count
count_empty f = refl

pub count_more : (k : ℕ) (f : ℕ → Bool) → count (k + 1) f ≡ count k f + one (f k)
unfolding count
count_more k f = sum_more k (λ j. one (f j))

pub count_first : (k : ℕ) (f : ℕ → Bool) → count (suc k) f ≡ one (f 0) + count k (λ j. f (suc j))
unfolding count
count_first k f = sum_first k (λ j. one (f j))

pub count_ext : (k : ℕ) (f g : ℕ → Bool) → ((j : ℕ) → j < k → f j ≡ g j) → count k f ≡ count k g
unfolding count
count_ext k f g h = sum_ext k (λ j. one (f j)) (λ j. one (g j)) (λ j l. ap one (h j l))

pub count_none : (k : ℕ) (f : ℕ → Bool) → ((j : ℕ) → j < k → f j ≡ false) → count k f ≡ 0
unfolding count
count_none k f h = sum_zero k (λ j. one (f j)) (λ j l. ap one (h j l))

pub count_all : (k : ℕ) (f : ℕ → Bool) → ((j : ℕ) → j < k → f j ≡ true) → count k f ≡ k
unfolding count
count_all zero f h = refl
count_all (suc k) f h = omega (arith, count_all k f (below_less k (λ j. f j ≡ true) h), ap one (h k (lt-suc_self k)))

pub count_le : (k : ℕ) (f : ℕ → Bool) → count k f ≤ k
unfolding count
count_le zero f = zero-le
count_le (suc k) f = omega (arith, count_le k f, one_le (f k))

pub count_mono : (k : ℕ) (f g : ℕ → Bool) → ((j : ℕ) → j < k → f j ≡ true → g j ≡ true) → count k f ≤ count k g
unfolding count
count_mono k f g h = sum_mono k (λ j. one (f j)) (λ j. one (g j)) (λ j l. one_mono (f j) (g j) (h j l))

-- one number alone may differ
pub count_change : (k : ℕ) (f g : ℕ → Bool) (j : ℕ) → j < k → ((i : ℕ) → i < k → i ≢ j → f i ≡ g i)
    → count k f + one (g j) ≡ count k g + one (f j)
unfolding count
count_change k f g j l h = sum_change k (λ i. one (f i)) (λ i. one (g i)) j l (λ i m n. ap one (h i m n))

-- one number fewer has f than has g
pub count_less : (k : ℕ) (f g : ℕ → Bool) (i : ℕ) → i < k → ((j : ℕ) → j < k → f j ≡ true → g j ≡ true) → f i ≡ false → g i ≡ true
    → count k f < count k g
count_less k f g i l h p q =
    omega (
      arith,
      count_change k g but i l (λ j m d. rw (ne_eqb j i d)),
      ap one q,
      ap (λ (t : Bool). one (cond t false (g i))) (eq-eqb i i refl),
      count_mono k f but (λ j m e. rw (ne_eqb j i (λ r. not_both (f j) e (ap f r ∙ p))) (h j m e)),
    )
  where
    -- g of all but i
    but : ℕ → Bool
    but j = cond (eqb j i) false (g j)

pub count_split : (a b : ℕ) (f : ℕ → Bool) → count (a + b) f ≡ count a f + count b (λ j. f (a + j))
unfolding count
count_split a b f = sum_split a b (λ j. one (f j))

pub count_blocks : (n m : ℕ) (f : ℕ → Bool) → count (n * m) f ≡ sum n (λ g. count m (λ i. f (g * m + i)))
unfolding count
count_blocks n m f = sum_blocks n m (λ j. one (f j))

-- a number that has f counts
pub count_at : (k : ℕ) (f : ℕ → Bool) (j : ℕ) → j < k → f j ≡ true → 0 < count k f
unfolding count
count_at k f j l e = omega (arith, sum_term k (λ i. one (f i)) j l, ap one e)

pub count_zero : (k : ℕ) (f : ℕ → Bool) → count k f ≡ 0 → (j : ℕ) → j < k → f j ≡ false
count_zero k f e j l = not_true_false (f j) (λ p. let m : 0 < count k f = count_at k f j l p in absurd (omega arith))

-- some number has f where the count is above 0
pub count_pos : (k : ℕ) (f : ℕ → Bool) → any k f ≡ true → 0 < count k f
count_pos k f e = let w = any_witness k f e in count_at k f w.0 w.1 w.2

pub count_any : (k : ℕ) (f : ℕ → Bool) → 0 < count k f → any k f ≡ true
count_any k f m = go (any k f) refl
  where
    go : (b : Bool) → any k f ≡ b → any k f ≡ true
    go true e = e
    go false e = let z : count k f ≡ 0 = count_none k f (any_false k f e) in absurd (omega arith)

-- ---- least

pub least_empty : (f : ℕ → Bool) → least 0 f ≡ 0
unfolding least
least_empty f = refl

pub least_more : (k : ℕ) (f : ℕ → Bool) → least (k + 1) f ≡ cond (ltb (least k f) k) (least k f) (cond (f k) k (k + 1))
unfolding least
least_more k f = rw add-one

-- l is the least number below k that has f, or k where none has
pub record Least (k : ℕ) (f : ℕ → Bool) (l : ℕ) : Type 0 where
  pub bound : l ≤ k
  pub found : l < k → f l ≡ true
  pub before : (j : ℕ) → j < l → f j ≡ false

pub least_is : (k : ℕ) (f : ℕ → Bool) → Least k f (least k f)
unfolding least
least_is zero f = record { bound = zero-le; found = λ l. absurd (not-suc-le-zero l); before = λ j l. absurd (not-suc-le-zero l) }
least_is (suc k) f = go (least_is k f) (ltb (least k f) k) refl
  where
    at_last : Least k f (least k f) → k ≤ least k f → (b : Bool) → f k ≡ b → Least (suc k) f (cond b k (suc k))
    at_last ih none true e = record { bound = omega arith; found = λ l. e; before = λ j l. ih.before j (omega arith) }
    at_last ih none false e = record {
      bound = omega arith;
      found = λ l. absurd (omega arith);
      before = λ j l. elim (below_suc j k l) [ inl p ↦ ap f p ∙ e | inr m ↦ ih.before j (omega arith) ];
    }

    go : Least k f (least k f) → (b : Bool) → ltb (least k f) k ≡ b → Least (suc k) f (cond b (least k f) (cond (f k) k (suc k)))
    go ih true t = record { bound = omega (arith, ltb-true); found = λ l. ih.found (ltb-true (least k f) k t); before = ih.before }
    go ih false t = at_last ih (ltb-false (least k f) k t) (f k) refl

-- there is one such number
pub least_one : (k : ℕ) (f : ℕ → Bool) (l m : ℕ) → Least k f l → Least k f m → l ≡ m
least_one k f l m p q = le_antisymm (not_below l m p q) (not_below m l q p)
  where
    not_below : (l m : ℕ) → Least k f l → Least k f m → l ≤ m
    not_below l m p q =
        le_of_suc-le-suc (lt_of_not-le (λ (h : m < l). not_both (f m) (q.found (omega (arith, p.bound))) (p.before m h)))

pub least_le : (k : ℕ) (f : ℕ → Bool) → least k f ≤ k
least_le k f = (least_is k f).bound

pub least_has : (k : ℕ) (f : ℕ → Bool) → least k f < k → f (least k f) ≡ true
least_has k f = (least_is k f).found

pub least_before : (k : ℕ) (f : ℕ → Bool) (j : ℕ) → j < least k f → f j ≡ false
least_before k f = (least_is k f).before

pub least_none : (k : ℕ) (f : ℕ → Bool) → any k f ≡ false → least k f ≡ k
least_none k f e =
    least_one k f (least k f) k (least_is k f)
    (record { bound = le_refl k; found = λ l. absurd (not-suc-le_self k l); before = any_false k f e })

pub least_found : (k : ℕ) (f : ℕ → Bool) → any k f ≡ true → least k f < k
least_found k f e =
    let w = any_witness k f e in
    lt_of_not-le (λ (h : k ≤ least k f). not_both (f w.0) w.2 (least_before k f w.0 (lt_of_lt_of_le w.1 h)))

pub least_unique : (k : ℕ) (f : ℕ → Bool) (j : ℕ) → j < k → f j ≡ true → ((i : ℕ) → i < j → f i ≡ false) → least k f ≡ j
least_unique k f j l e h = least_one k f (least k f) j (least_is k f) (record { bound = le_of_lt l; found = λ m. e; before = h })

-- the first number has f, or the least is that of the rest
pub least_first : (k : ℕ) (f : ℕ → Bool) → least (suc k) f ≡ cond (f 0) 0 (suc (least k (λ j. f (suc j))))
least_first k f = least_one (suc k) f (least (suc k) f) (cond (f 0) 0 (suc rest)) (least_is (suc k) f) (go (f 0) refl)
  where
    rest : ℕ
    rest = least k (λ j. f (suc j))

    early : f 0 ≡ false → (j : ℕ) → j < suc rest → f j ≡ false
    early e zero l = e
    early e (suc i) l = least_before k (λ j. f (suc j)) i (le_of_suc-le-suc l)

    go : (b : Bool) → f 0 ≡ b → Least (suc k) f (cond b 0 (suc rest))
    go true e = record { bound = zero-le; found = λ l. e; before = λ j l. absurd (not-suc-le-zero l) }
    go false e = record {
      bound = suc-le-suc (least_le k (λ j. f (suc j)));
      found = λ l. least_has k (λ j. f (suc j)) (le_of_suc-le-suc l);
      before = early e;
    }

-- the least of two runs: of the first where it has one, and else past it
pub least_split : (a b : ℕ) (f : ℕ → Bool)
    → least (a + b) f ≡ cond (any a f) (least a f) (a + least b (λ j. f (a + j)))
least_split a b f = least_one (a + b) f (least (a + b) f) (cond (any a f) (least a f) (a + rest)) (least_is (a + b) f) (go (any a f) refl)
  where
    rest : ℕ
    rest = least b (λ j. f (a + j))

    past : any a f ≡ false → (j : ℕ) → j < a + rest → (j < a) ⊎ (a ≤ j) → f j ≡ false
    past e j l (inl m) = any_false a f e j m
    past e j l (inr m) =
        ap f (sym (add-sub_of_le m)) ∙ least_before b (λ i. f (a + i)) (j - a) (omega arith)

    go : (t : Bool) → any a f ≡ t → Least (a + b) f (cond t (least a f) (a + rest))
    go true e = let found = least_found a f e in
        record { bound = omega arith; found = λ l. least_has a f found; before = least_before a f }
    go false e = record {
      bound = omega (arith, least_le b (λ j. f (a + j)));
      found = λ l. least_has b (λ j. f (a + j)) (omega arith);
      before = λ j l. past e j l (below_or_from j a);
    }

-- equal below k, equal least
pub least_ext : (k : ℕ) (f g : ℕ → Bool) → ((j : ℕ) → j < k → f j ≡ g j) → least k f ≡ least k g
least_ext k f g h =
    least_one k f (least k f) (least k g) (least_is k f) (record {
      bound = least_le k g;
      found = λ l. h (least k g) l ∙ least_has k g l;
      before = λ j l. h j (lt_of_lt_of_le l (least_le k g)) ∙ least_before k g j l;
    })
