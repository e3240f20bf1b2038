-- A row with a gap: the places before the gap and those behind it have the tasks with f, in rank order. So the row stands while a wait is put in, and while a scan closes
-- up what it keeps. First of any places in use: a task leaves its place, enters at one that is not in use, moves.
use Prim.Native.Nat.{ℕ, ◌+◌, ◌≤◌, ◌<◌, zero-le}
use mathlib.Core.Path.{◌≡◌, refl, sym, ap, ◌∙◌}
use mathlib.Core.Logic.{◌≢◌, ◌⊎◌, inl, inr}
use mathlib.Core.List.{List}
use mathlib.Core.Bool.{Bool, true, false, not, ◌&&◌, ◌||◌, or-false, and-true}
use native.Mathlib.Nat.{le_refl, not-suc-le-zero, ne_of_lt, ne_of_gt}
use native.Mathlib.Omega.{arith}
use lib.Dec.{eqb}
use lib.ListN.{length, set}
use borrow.Author.Tests.{eqb-true, eq-eqb}
use Rattle.objects.proofs.Laws.Below.{below_suc, below_or_from, or_cases, or_left, or_right}
use Rattle.machine.specs.Places.{row_at}
use Rattle.machine.specs.Holds.{Ordered}
use Rattle.machine.proofs.Laws.Places.{kept, put}
use Rattle.machine.proofs.Laws.Counting.{but, but_other, but_has, but_not}

-- ---- one task more

-- those with f, and i
abbrev pub also : (ℕ → Bool) → ℕ → ℕ → Bool
also f i j = f j || eqb j i

-- taken out and put in again
pub also_but : (f : ℕ → Bool) (i j : ℕ) → f i ≡ true → also (but f i) i j ≡ f j
also_but f i j e = go (eqb j i) refl
  where
    go : (b : Bool) → eqb j i ≡ b → also (but f i) i j ≡ f j
    go true p = or_right (but f i j) (eqb j i) p ∙ sym (ap f (eqb-true j i p) ∙ e)
    go false p = rw p (or-false (f j && true) ∙ and-true (f j))

-- two numbers that differ: one is below the other
apart : (j k : ℕ) → j ≢ k → (j < k) ⊎ (k < j)
apart j k d = go (below_or_from j k)
  where
    go : (j < k) ⊎ (k ≤ j) → (j < k) ⊎ (k < j)
    go (inl l) = inl l
    go (inr l) = inr (omega arith)

-- ---- any places in use

-- each place in use has a task with f, their ranks rise, and each task with f stands at a place in use
pub record Standing (f : ℕ → Bool) (r : ℕ → ℕ) (at : ℕ → ℕ) (In : ℕ → Type 0) : Type 0 where
  pub each : (k : ℕ) → In k → (at k < 64) × (f (at k) ≡ true)
  pub rising : (j k : ℕ) → j < k → In j → In k → r (at j) < r (at k)
  pub all : (i : ℕ) → i < 64 → f i ≡ true → (k : ℕ) × In k × (at k ≡ i)

-- the same places, tasks and ranks said in another way
pub standing_like : (f f' : ℕ → Bool) (r r' : ℕ → ℕ) (at at' : ℕ → ℕ) (In In' : ℕ → Type 0) → Standing f r at In
    → ((j : ℕ) → j < 64 → f' j ≡ f j) → ((j : ℕ) → j < 64 → f j ≡ true → r' j ≡ r j) → ((k : ℕ) → In k → at' k ≡ at k)
    → ((k : ℕ) → In' k → In k) → ((k : ℕ) → In k → In' k) → Standing f' r' at' In'
standing_like f f' r r' at at' In In' st fs rs ats inside outside = record {
  each = λ k u. (task k (inside k u), fs (at' k) (task k (inside k u)) ∙ ap f (ats k (inside k u)) ∙ (st.each k (inside k u)).1);
  rising = λ j k l u v. rw (rank j (inside j u), rank k (inside k v)) (st.rising j k l (inside j u) (inside k v));
  all = λ i l e. let place = st.all i l (sym (fs i l) ∙ e) in (place.0, outside place.0 place.1, ats place.0 place.1 ∙ place.2);
}
  where
    task : (k : ℕ) → In k → at' k < 64
    task k u = rw (ats k u) (st.each k u).0

    rank : (k : ℕ) → In k → r' (at' k) ≡ r (at k)
    rank k u = rs (at' k) (task k u) (ap f (ats k u) ∙ (st.each k u).1) ∙ ap r (ats k u)

module _ (f : ℕ → Bool) (r : ℕ → ℕ) (at : ℕ → ℕ) (In : ℕ → Type 0) (st : Standing f r at In) where
  -- no task stands at two places
  pub standing_once : (j k : ℕ) → In j → In k → j ≢ k → at j ≢ at k
  standing_once j k u v d e = go (apart j k d)
    where
      go : (j < k) ⊎ (k < j) → ⊥
      go (inl l) = ne_of_lt (st.rising j k l u v) (ap r e)
      go (inr l) = ne_of_gt (st.rising k j l v u) (ap r e)

  -- the task at place m leaves
  pub standing_less : (m : ℕ) → In m → Standing (but f (at m)) r at (λ k. In k × (k ≢ m))
  standing_less m u = record {
    each = λ k v. (
      (st.each k v.0).0,
      but_other f (at m) (at k) (standing_once k m v.0 u v.1) ∙ (st.each k v.0).1,
    );
    rising = λ j k l v x. st.rising j k l v.0 x.0;
    all = λ i l e.
        let place = st.all i l (but_has f (at m) i e) in
        (place.0, (place.1, λ p. but_not f (at m) i e (sym place.2 ∙ ap at p)), place.2);
  }

  -- task i enters at place m, which is not in use: it ranks below those before it and above those behind
  pub standing_more : (at' : ℕ → ℕ) (i m : ℕ) → i < 64 → at' m ≡ i → ((k : ℕ) → In k → at' k ≡ at k)
      → ((k : ℕ) → In k → k < m → r (at k) < r i) → ((k : ℕ) → In k → m < k → r i < r (at k))
      → Standing (also f i) r at' (λ k. (k ≡ m) ⊎ In k)
  standing_more at' i m li own others lower upper = record { each = each'; rising = rising'; all = all' }
    where
      own_at : (k : ℕ) → k ≡ m → at' k ≡ i
      own_at k p = ap at' p ∙ own

      each' : (k : ℕ) → (k ≡ m) ⊎ In k → (at' k < 64) × (also f i (at' k) ≡ true)
      each' k (inl p) = rw (own_at k p) (li, or_right (f i) (eqb i i) (eq-eqb i i refl))
      each' k (inr u) = rw (others k u) ((st.each k u).0, or_left (f (at k)) (eqb (at k) i) (st.each k u).1)

      rising' : (j k : ℕ) → j < k → (j ≡ m) ⊎ In j → (k ≡ m) ⊎ In k → r (at' j) < r (at' k)
      rising' j k l (inl p) (inl q) = absurd (omega arith)
      rising' j k l (inl p) (inr v) = rw (own_at j p, others k v) (upper k v (omega arith))
      rising' j k l (inr u) (inl q) = rw (others j u, own_at k q) (lower j u (omega arith))
      rising' j k l (inr u) (inr v) = rw (others j u, others k v) (st.rising j k l u v)

      all' : (j : ℕ) → j < 64 → also f i j ≡ true → (k : ℕ) × ((k ≡ m) ⊎ In k) × (at' k ≡ j)
      all' j l e = go (or_cases (f j) (eqb j i) e)
        where
          go : (f j ≡ true) ⊎ (eqb j i ≡ true) → (k : ℕ) × ((k ≡ m) ⊎ In k) × (at' k ≡ j)
          go (inl p) = let place = st.all j l p in (place.0, inr place.1, others place.0 place.1 ∙ place.2)
          go (inr p) = (m, inl refl, own ∙ sym (eqb-true j i p))

-- the same places said in another way
pub standing_places : (f : ℕ → Bool) (r : ℕ → ℕ) (at : ℕ → ℕ) (In In' : ℕ → Type 0) → Standing f r at In → ((k : ℕ) → In' k → In k)
    → ((k : ℕ) → In k → In' k) → Standing f r at In'
standing_places f r at In In' st inside outside =
    standing_like f f r r at at In In' st (λ j l. refl) (λ j l e. refl) (λ k u. refl) inside outside

-- the task at place b moves to place a, past no other
pub standing_moved : (f : ℕ → Bool) (r : ℕ → ℕ) (at at' : ℕ → ℕ) (In : ℕ → Type 0) (b a : ℕ) → Standing f r at In → In b → at' a ≡ at b
    → ((k : ℕ) → In k → k ≢ b → at' k ≡ at k) → ((k : ℕ) → In k → k ≢ b → k < a → k < b) → ((k : ℕ) → In k → k ≢ b → a < k → b < k)
    → Standing f r at' (λ k. (k ≡ a) ⊎ (In k × (k ≢ b)))
standing_moved f r at at' In b a st u own others before behind =
    standing_like (also (but f i) i) f r r at' at' In' In' entered (λ j l. sym (also_but f i j (st.each b u).1)) (λ j l e. refl) (λ k v. refl)
    (λ k v. v) (λ k v. v)
  where
    i : ℕ
    i = at b

    In' : ℕ → Type 0
    In' k = (k ≡ a) ⊎ (In k × (k ≢ b))

    entered : Standing (also (but f i) i) r at' In'
    entered =
        standing_more (but f i) r at (λ k. In k × (k ≢ b)) (standing_less f r at In st b u) at' i a (st.each b u).0 own
        (λ k v. others k v.0 v.1) (λ k v l. st.rising k b (before k v.0 v.1 l) v.0 u)
        (λ k v l. st.rising b k (behind k v.0 v.1 l) u v.0)

-- ---- a row in order: the places before c are in use

-- as places in use
pub ordered_standing : (f : ℕ → Bool) (r : ℕ → ℕ) (w : List ℕ) (c : ℕ) → Ordered f r w c → Standing f r (row_at w) (λ k. k < c)
ordered_standing f r w c row = record { each = row.each; rising = λ j k l u v. row.rising j k l v; all = row.all }

-- and back
pub standing_ordered : (f : ℕ → Bool) (r : ℕ → ℕ) (w : List ℕ) (c : ℕ) → c ≤ 64 → Standing f r (row_at w) (λ k. k < c) → Ordered f r w c
standing_ordered f r w c few st = record { places = few; each = st.each; rising = λ j k l m. st.rising j k l (omega arith) m; all = st.all }

-- it stays in order where it has the same places, the same tasks have f and the ranks of these are the same
pub ordered_like : (f g : ℕ → Bool) (r q : ℕ → ℕ) (w v : List ℕ) (c : ℕ) → ((j : ℕ) → j < 64 → g j ≡ f j) → ((j : ℕ) → j < 64 → f j ≡ true → q j ≡ r j)
    → ((k : ℕ) → k < c → row_at v k ≡ row_at w k) → Ordered f r w c → Ordered g q v c
ordered_like f g r q w v c same-f same-r same_row row =
    standing_ordered g q v c row.places
    (standing_like f g r q (row_at w) (row_at v) (λ k. k < c) (λ k. k < c) (ordered_standing f r w c row) same-f same-r same_row (λ k l. l) (λ k l. l))

-- so where every rank is the same
pub ordered_stays : (f g : ℕ → Bool) (r q : ℕ → ℕ) (w v : List ℕ) (c : ℕ) → ((j : ℕ) → j < 64 → g j ≡ f j) → ((j : ℕ) → q j ≡ r j)
    → ((k : ℕ) → k < c → row_at v k ≡ row_at w k) → Ordered f r w c → Ordered g q v c
ordered_stays f g r q w v c same-f same-r = ordered_like f g r q w v c same-f (λ j l e. same-r j)

-- ---- a row with a gap

-- of c places those before q and those from p on are in use
abbrev pub Used : ℕ → ℕ → ℕ → ℕ → Type 0
Used q p c k = (k < q) ⊎ ((p ≤ k) × (k < c))

-- the tasks with f stand there
pub record Gapped (f : ℕ → Bool) (r : ℕ → ℕ) (w : List ℕ) (q p c : ℕ) : Type 0 where
  pub gap : q ≤ p
  pub end : p ≤ c
  pub places : c ≤ 64
  pub row : Standing f r (row_at w) (Used q p c)

-- a row in order has no gap: it may open before the first place
pub gapped_first : (f : ℕ → Bool) (r : ℕ → ℕ) (w : List ℕ) (c : ℕ) → Ordered f r w c → Gapped f r w 0 0 c
gapped_first f r w c row = record {
  gap = le_refl 0;
  end = zero-le;
  places = row.places;
  row = standing_places f r (row_at w) (λ k. k < c) (Used 0 0 c) (ordered_standing f r w c row) inside (λ k l. inr (zero-le, l));
}
  where
    inside : (k : ℕ) → Used 0 0 c k → k < c
    inside k (inl l) = absurd (not-suc-le-zero l)
    inside k (inr l) = l.1

-- with nothing behind the gap the row is in order
pub gapped_closed : (f : ℕ → Bool) (r : ℕ → ℕ) (w : List ℕ) (q c : ℕ) → Gapped f r w q c c → Ordered f r w q
gapped_closed f r w q c g =
    standing_ordered f r w q (omega (arith, g.gap, g.places))
    (standing_places f r (row_at w) (Used q c c) (λ k. k < q) g.row (λ k l. inl l) outside)
  where
    outside : (k : ℕ) → Used q c c k → k < q
    outside k (inl l) = l
    outside k (inr l) = absurd (omega arith)

-- other words that agree on the places in use, and other tests and ranks that agree on the tasks
pub gapped_like : (f f' : ℕ → Bool) (r r' : ℕ → ℕ) (w w' : List ℕ) (q p c : ℕ) → Gapped f r w q p c → ((j : ℕ) → j < 64 → f' j ≡ f j)
    → ((j : ℕ) → j < 64 → r' j ≡ r j) → ((k : ℕ) → Used q p c k → row_at w' k ≡ row_at w k) → Gapped f' r' w' q p c
gapped_like f f' r r' w w' q p c g fs rs ws = record {
  gap = g.gap;
  end = g.end;
  places = g.places;
  row = standing_like f f' r r' (row_at w) (row_at w') (Used q p c) (Used q p c) g.row fs (λ j l e. rs j l) ws (λ k u. u) (λ k u. u);
}

module _ (f : ℕ → Bool) (r : ℕ → ℕ) (w : List ℕ) (q p c : ℕ) (g : Gapped f r w q p c) (next : p < c) where
  -- the first place behind the gap is in use
  next_used : Used q p c p
  next_used = inr (le_refl p, next)

  -- its task leaves
  pub leave : Gapped (λ j. f j && not (eqb j (row_at w p))) r w q (p + 1) c
  leave = record {
    gap = omega (arith, g.gap);
    end = omega arith;
    places = g.places;
    row = standing_places (but f (row_at w p)) r (row_at w) (λ k. Used q p c k × (k ≢ p)) (Used q (p + 1) c)
        (standing_less f r (row_at w) (Used q p c) g.row p next_used) inside outside;
  }
    where
      inside : (k : ℕ) → Used q (p + 1) c k → Used q p c k × (k ≢ p)
      inside k (inl l) = (inl l, omega (arith, g.gap))
      inside k (inr l) = (inr (omega arith, l.1), omega arith)

      outside : (k : ℕ) → Used q p c k × (k ≢ p) → Used q (p + 1) c k
      outside k u = go u.0 u.1
        where
          go : Used q p c k → k ≢ p → Used q (p + 1) c k
          go (inl l) d = inl l
          go (inr l) d = inr (omega arith, l.1)

  -- its task closes up: it moves to the first place of the gap
  pub keep : length w ≡ 1280 → Gapped f r (set w (8 + q) (row_at w p)) (q + 1) (p + 1) c
  keep size = record {
    gap = omega (arith, g.gap);
    end = omega arith;
    places = g.places;
    row = standing_places f r (row_at w') (λ k. (k ≡ q) ⊎ (Used q p c k × (k ≢ p))) (Used (q + 1) (p + 1) c)
        (standing_moved f r (row_at w) (row_at w') (Used q p c) p q g.row next_used own others before behind) inside outside;
  }
    where
      w' : List ℕ
      w' = set w (8 + q) (row_at w p)

      own : row_at w' q ≡ row_at w p
      own = put w (8 + q) (row_at w p) (omega (arith, g.gap, g.places))

      before : (k : ℕ) → Used q p c k → k ≢ p → k < q → k < p
      before k u d l = omega (arith, g.gap)

      behind : (k : ℕ) → Used q p c k → k ≢ p → q < k → p < k
      behind k (inl m) d l = absurd (omega arith)
      behind k (inr m) d l = omega arith

      others : (k : ℕ) → Used q p c k → k ≢ p → row_at w' k ≡ row_at w k
      others k (inl l) d = kept w (8 + q) (8 + k) (row_at w p) (omega arith)
      others k (inr l) d = kept w (8 + q) (8 + k) (row_at w p) (omega (arith, g.gap))

      inside : (k : ℕ) → Used (q + 1) (p + 1) c k → (k ≡ q) ⊎ (Used q p c k × (k ≢ p))
      inside k (inl l) = go (below_suc k q (omega arith))
        where
          go : (k ≡ q) ⊎ (k < q) → (k ≡ q) ⊎ (Used q p c k × (k ≢ p))
          go (inl e) = inl e
          go (inr m) = inr (inl m, omega (arith, g.gap))
      inside k (inr l) = inr (inr (omega arith, l.1), omega arith)

      outside : (k : ℕ) → (k ≡ q) ⊎ (Used q p c k × (k ≢ p)) → Used (q + 1) (p + 1) c k
      outside k (inl e) = inl (omega arith)
      outside k (inr u) = go u.0 u.1
        where
          go : Used q p c k → k ≢ p → Used (q + 1) (p + 1) c k
          go (inl l) d = inl (omega arith)
          go (inr l) d = inr (omega arith, l.1)
