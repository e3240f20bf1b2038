-- A wait put into the row: the row has its task too, still in rank order, one place longer, and nothing but the row is touched.
use Prim.Native.Nat.{ℕ, zero, suc, ◌+◌, ◌%◌, ◌≤◌, ◌<◌}
use mathlib.Core.Path.{◌≡◌, refl, sym, ap, ◌∙◌}
use mathlib.Core.Logic.{◌≢◌, ◌⊎◌, inl, inr}
use mathlib.Core.List.{List}
use mathlib.Core.Bool.{Bool, true, false, cond, ◌||◌}
use native.Mathlib.Nat.{le_refl, le_step, lt-suc_self, not-suc-le-zero, eq-or-lt_of_le}
use native.Mathlib.Numerals.{add-one}
use native.Mathlib.Omega.{arith}
use lib.Dec.{eqb, ltb}
use lib.ListN.{length, get_or, set, length-set}
use borrow.Author.Tests.{ltb-true, ltb-false}
use Rattle.objects.specs.Objects.{bit}
use Rattle.objects.proofs.Laws.Below.{below_suc, below_or_from}
use Rattle.machine.specs.Places.{row_size, row_at, above_of}
use Rattle.machine.specs.Row.{ranks_before, put_from, free_place, row_put}
use Rattle.machine.specs.Holds.{Ordered}
use Rattle.machine.proofs.Laws.Choices.{either}
use Rattle.machine.proofs.Laws.Places.{kept, put, sized}
use Rattle.machine.proofs.Laws.Counting.{row_few}
use Rattle.machine.proofs.Laws.Gapped.{also, standing_places, standing_more, standing_moved, standing_ordered, ordered_standing, ordered_stays, Used, Gapped}

-- ---- what is touched, of any words

-- the words stay as many while task i goes to its place
put_from_length : (w : List ℕ) (i k : ℕ) → length (put_from w i k) ≡ length w
unfolding put_from
put_from_length w i zero = length-set w 8 i
put_from_length w i (suc k) =
    either (λ (v : List ℕ). length v ≡ length w) (ranks_before w i k)
    (put_from_length (set w (8 + suc k) (row_at w k)) i k ∙ length-set w (8 + suc k) (row_at w k))
    (length-set w (8 + suc k) i)

-- and no place but those of the row up to the free one is touched
put_from_kept : (w : List ℕ) (i k q : ℕ) → ((j : ℕ) → j ≤ k → 8 + j ≢ q) → get_or (put_from w i k) q 0 ≡ get_or w q 0
unfolding put_from
put_from_kept w i zero q apart = kept w 8 q i (apart 0 (le_refl 0))
put_from_kept w i (suc k) q apart =
    either (λ (v : List ℕ). get_or v q 0 ≡ get_or w q 0) (ranks_before w i k)
    (put_from_kept (set w (8 + suc k) (row_at w k)) i k q (λ j l. apart j (le_step l)) ∙ kept w (8 + suc k) q (row_at w k) (apart (suc k) (le_refl (suc k))))
    (kept w (8 + suc k) q i (apart (suc k) (le_refl (suc k))))

-- the words stay as many
pub row_put_length : (w : List ℕ) (i : ℕ) → length (row_put w i) ≡ length w
unfolding row_put
row_put_length w i = length-set (put_from w i (free_place w)) 7 _ ∙ put_from_length w i (free_place w)

-- every place before the row's size, and every place behind the row
pub row_put_kept : (w : List ℕ) (i q : ℕ) → (q < 7) ⊎ (72 ≤ q) → get_or (row_put w i) q 0 ≡ get_or w q 0
unfolding row_put
row_put_kept w i q out = kept (put_from w i (free_place w)) 7 q _ (not_size out) ∙ put_from_kept w i (free_place w) q (not_row out)
  where
    not_size : (q < 7) ⊎ (72 ≤ q) → 7 ≢ q
    not_size (inl l) = omega arith
    not_size (inr l) = omega arith

    not_row : (q < 7) ⊎ (72 ≤ q) → (j : ℕ) → j ≤ free_place w → 8 + j ≢ q
    not_row (inl l) j m = omega arith
    not_row (inr l) j m = omega arith

-- ---- the gap, from behind the last one to the place of the new one

-- a free place opens behind the last one
gap_opened : (f : ℕ → Bool) (r : ℕ → ℕ) (w : List ℕ) (c : ℕ) → Ordered f r w c → c ≤ 63 → Gapped f r w c (suc c) (suc c)
gap_opened f r w c row few = record {
  gap = omega arith;
  end = omega arith;
  places = omega arith;
  row = standing_places f r (row_at w) (λ k. k < c) (Used c (suc c) (suc c)) (ordered_standing f r w c row) inside (λ k l. inl l);
}
  where
    inside : (k : ℕ) → Used c (suc c) (suc c) k → k < c
    inside k (inl l) = l
    inside k (inr l) = absurd (omega arith)

module _ (f : ℕ → Bool) (r : ℕ → ℕ) (w : List ℕ) (size : length w ≡ 1280) where
  -- the one before the free place moves up into it, and its own place is free
  moved_up : (k c : ℕ) → Gapped f r w (suc k) (suc (suc k)) c → Gapped f r (set w (8 + suc k) (row_at w k)) k (suc k) c
  moved_up k c g = record {
    gap = omega arith;
    end = omega (arith, g.end);
    places = g.places;
    row = standing_places f r (row_at w') (λ j. (j ≡ suc k) ⊎ (Used (suc k) (suc (suc k)) c j × (j ≢ k))) (Used k (suc k) c)
        (standing_moved f r (row_at w) (row_at w') (Used (suc k) (suc (suc k)) c) k (suc k) g.row (inl (lt-suc_self k)) own others before behind)
        inside outside;
  }
    where
      w' : List ℕ
      w' = set w (8 + suc k) (row_at w k)

      own : row_at w' (suc k) ≡ row_at w k
      own = put w (8 + suc k) (row_at w k) (omega (arith, g.end, g.places))

      others : (j : ℕ) → Used (suc k) (suc (suc k)) c j → j ≢ k → row_at w' j ≡ row_at w j
      others j (inl l) d = kept w (8 + suc k) (8 + j) (row_at w k) (omega arith)
      others j (inr l) d = kept w (8 + suc k) (8 + j) (row_at w k) (omega arith)

      before : (j : ℕ) → Used (suc k) (suc (suc k)) c j → j ≢ k → j < suc k → j < k
      before j u d l = omega arith

      behind : (j : ℕ) → Used (suc k) (suc (suc k)) c j → j ≢ k → suc k < j → k < j
      behind j u d l = omega arith

      inside : (j : ℕ) → Used k (suc k) c j → (j ≡ suc k) ⊎ (Used (suc k) (suc (suc k)) c j × (j ≢ k))
      inside j (inl l) = inr (inl (omega arith), omega arith)
      inside j (inr l) = go (eq-or-lt_of_le l.0)
        where
          go : (suc k ≡ j) ⊎ (suc k < j) → (j ≡ suc k) ⊎ (Used (suc k) (suc (suc k)) c j × (j ≢ k))
          go (inl e) = inl (sym e)
          go (inr m) = inr (inr (m, l.1), omega arith)

      outside : (j : ℕ) → (j ≡ suc k) ⊎ (Used (suc k) (suc (suc k)) c j × (j ≢ k)) → Used k (suc k) c j
      outside j (inl e) = inr (omega arith, omega (arith, g.end))
      outside j (inr u) = go u.0 u.1
        where
          go : Used (suc k) (suc (suc k)) c j → j ≢ k → Used k (suc k) c j
          go (inl l) d = inl (omega arith)
          go (inr l) d = inr (omega arith, l.1)

  -- the new one fills the free place, below those before it and above those behind
  filled : (i q c : ℕ) → Gapped f r w q (suc q) c → i < 64 → ((k : ℕ) → k < q → r (row_at w k) < r i)
      → ((k : ℕ) → suc q ≤ k → k < c → r i < r (row_at w k)) → Ordered (also f i) r (set w (8 + q) i) c
  filled i q c g li lower upper =
      standing_ordered (also f i) r w' c g.places
      (standing_places (also f i) r (row_at w') (λ k. (k ≡ q) ⊎ Used q (suc q) c k) (λ k. k < c)
      (standing_more f r (row_at w) (Used q (suc q) c) g.row (row_at w') i q li own others before behind) inside outside)
    where
      w' : List ℕ
      w' = set w (8 + q) i

      own : row_at w' q ≡ i
      own = put w (8 + q) i (omega (arith, g.end, g.places))

      others : (k : ℕ) → Used q (suc q) c k → row_at w' k ≡ row_at w k
      others k (inl l) = kept w (8 + q) (8 + k) i (omega arith)
      others k (inr l) = kept w (8 + q) (8 + k) i (omega arith)

      before : (k : ℕ) → Used q (suc q) c k → k < q → r (row_at w k) < r i
      before k u l = lower k l

      behind : (k : ℕ) → Used q (suc q) c k → q < k → r i < r (row_at w k)
      behind k (inl m) l = absurd (omega arith)
      behind k (inr m) l = upper k m.0 m.1

      inside : (k : ℕ) → k < c → (k ≡ q) ⊎ Used q (suc q) c k
      inside k l = go (below_or_from k q)
        where
          behind_or_at : (q ≡ k) ⊎ (q < k) → (k ≡ q) ⊎ Used q (suc q) c k
          behind_or_at (inl e) = inl (sym e)
          behind_or_at (inr m) = inr (inr (m, l))

          go : (k < q) ⊎ (q ≤ k) → (k ≡ q) ⊎ Used q (suc q) c k
          go (inl m) = inr (inl m)
          go (inr m) = behind_or_at (eq-or-lt_of_le m)

      outside : (k : ℕ) → (k ≡ q) ⊎ Used q (suc q) c k → k < c
      outside k (inl e) = omega (arith, g.end)
      outside k (inr (inl l)) = omega (arith, g.end)
      outside k (inr (inr l)) = l.1

-- ---- task i goes to its place

module _ (f : ℕ → Bool) (r : ℕ → ℕ) (i : ℕ) (li : i < 64) (differ : (j : ℕ) → j < 64 → f j ≡ true → r j ≢ r i) where
  -- the words say whom i ranks above
  abbrev Told : List ℕ → Type 0
  Told w = (j : ℕ) → j < 64 → f j ≡ true → bit (above_of w j) i ≡ ltb (r i) (r j)

  -- it ranks above all behind the free place
  abbrev Ahead : List ℕ → ℕ → ℕ → Type 0
  Ahead w k c = (j : ℕ) → suc k ≤ j → j < c → r i < r (row_at w j)

  -- where the words say whom it ranks above, the row is in order once it has its place
  put_from_ordered : (w : List ℕ) (k c : ℕ) → length w ≡ 1280 → Gapped f r w k (suc k) c → Told w → Ahead w k c
      → Ordered (also f i) r (put_from w i k) c
  unfolding put_from
  put_from_ordered w zero c size g told ahead = filled f r w size i 0 c g li (λ k l. absurd (not-suc-le-zero l)) ahead
  put_from_ordered w (suc k) c size g told ahead = go (put_from_ordered (set w (8 + suc k) (row_at w k)) k c) (ranks_before w i k) refl
    where
      t : ℕ
      t = row_at w k

      w' : List ℕ
      w' = set w (8 + suc k) t

      here : (t < 64) × (f t ≡ true)
      here = g.row.each k (inl (lt-suc_self k))

      -- the test asks whether i ranks above the one before
      asked : ranks_before w i k ≡ ltb (r i) (r t)
      asked =
          let same : t % 64 ≡ t = omega (arith, here.0) in
          ap (λ (x : ℕ). bit (above_of w x) i) same ∙ told t here.0 here.1

      told' : Told w'
      told' j l e = ap (λ (x : ℕ). bit x i) (kept w (8 + suc k) (72 + j) t (omega (arith, g.end, g.places))) ∙ told j l e

      ahead' : r i < r t → Ahead w' k c
      ahead' less j m l = at (eq-or-lt_of_le m)
        where
          at : (suc k ≡ j) ⊎ (suc k < j) → r i < r (row_at w' j)
          at (inl e) = rw (← e, put w (8 + suc k) t (omega (arith, g.end, g.places))) less
          at (inr n) = rw (kept w (8 + suc k) (8 + j) t (omega arith)) (ahead j n l)

      lower : r t < r i → (j : ℕ) → j < suc k → r (row_at w j) < r i
      lower less j l = at (below_suc j k l)
        where
          at : (j ≡ k) ⊎ (j < k) → r (row_at w j) < r i
          at (inl e) = rw e less
          at (inr m) = omega (arith, g.row.rising j k m (inl l) (inl (lt-suc_self k)))

      go : (length w' ≡ 1280 → Gapped f r w' k (suc k) c → Told w' → Ahead w' k c → Ordered (also f i) r (put_from w' i k) c)
          → (b : Bool) → ranks_before w i k ≡ b → Ordered (also f i) r (cond b (put_from w' i k) (set w (8 + suc k) i)) c
      go rest true e =
          rest (sized w (8 + suc k) t size) (moved_up f r w size k c g) told' (ahead' (ltb-true (r i) (r t) (sym asked ∙ e)))
      go rest false e =
          let d : r t ≢ r i = differ t here.0 here.1 in
          let m : r t ≤ r i = ltb-false (r i) (r t) (sym asked ∙ e) in
          filled f r w size i (suc k) c g li (lower (omega arith)) ahead

-- ---- the row

module _ (f : ℕ → Bool) (r : ℕ → ℕ) (w : List ℕ) (c i : ℕ) (size : length w ≡ 1280) (many : row_size w ≡ c) (row : Ordered f r w c) (li : i < 64)
    (new : f i ≡ false) where
  -- there is a free place
  put_few : c ≤ 63
  put_few = row_few f r w c row i li new

  -- which is the one behind the last
  put_free : free_place w ≡ c
  put_free = omega (arith, put_few)

  -- the row is one longer
  pub row_put_size : row_size (row_put w i) ≡ c + 1
  unfolding row_put
  row_put_size = put (put_from w i (free_place w)) 7 _ (omega (arith, put_from_length w i (free_place w))) ∙ ap (λ (k : ℕ). k + 1) put_free

  -- and has task i too
  pub row_put_ordered : ((j : ℕ) → j < 64 → f j ≡ true → bit (above_of w j) i ≡ ltb (r i) (r j)) → ((j : ℕ) → j < 64 → f j ≡ true → r j ≢ r i)
      → Ordered (λ j. f j || eqb j i) r (row_put w i) (c + 1)
  unfolding row_put
  row_put_ordered told differ =
      rw (put_free, add-one)
      (ordered_stays (also f i) (also f i) r r (put_from w i c) (set (put_from w i c) 7 _) (suc c) (λ j l. refl) (λ j. refl)
      (λ k l. kept (put_from w i c) 7 (8 + k) _ (omega arith))
      (put_from_ordered f r i li differ w c (suc c) size (gap_opened f r w c row put_few) told (λ j m l. absurd (omega arith))))
