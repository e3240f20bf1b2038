-- Who ranks above whom, after it moved for task i: between i and every other task it is by the ranks that stand in the words, between any other two it is as it was, and no
-- other place is touched.
use Prim.Native.Nat.{ℕ, zero, suc, ◌+◌, ◌≤◌, ◌<◌, min}
use mathlib.Core.Path.{◌≡◌, refl, ap, ap₂, ◌∙◌}
use mathlib.Core.Logic.{◌⊎◌, inl, inr, ◌≢◌}
use mathlib.Core.List.{List}
use mathlib.Core.Bool.{Bool, true, false, cond, not, ◌&&◌, ◌||◌, and-true, and-false, or-true, or-false}
use native.Mathlib.Omega.{arith}
use lib.Dec.{eqb, ltb}
use lib.ListN.{length, get_or, set, length-set}
use borrow.Author.Tests.{eq-eqb, ne_eqb, lt-ltb, le-ltb}
use Rattle.objects.specs.Objects.{bit}
use Rattle.objects.proofs.Laws.Below.{below_suc, below_or_from}
use Rattle.objects.proofs.Laws.Bits.{bit_word}
use Rattle.machine.specs.Places.{n_of, above_of, rank_place}
use Rattle.machine.specs.Ranks.{rank_in, ranks_above, above_word, bit_moved, bits_moved, ranks_moved}
use Rattle.machine.proofs.Laws.Bits.{with_bit_lem, without_bit_lem}
use Rattle.machine.proofs.Laws.Places.{kept, put}

-- ---- what is touched, of any words

-- the words stay as many while the bits move
pub bits_size : (w : List ℕ) (i k : ℕ) → length (bits_moved w i k) ≡ length w
unfolding bits_moved
bits_size w i zero = refl
bits_size w i (suc k) = length-set (bits_moved w i k) (72 + k) _ ∙ bits_size w i k

-- and no place but those of the tasks below k is touched
pub bits_kept : (w : List ℕ) (i k q : ℕ) → (q < 72) ⊎ (72 + k ≤ q) → get_or (bits_moved w i k) q 0 ≡ get_or w q 0
unfolding bits_moved
bits_kept w i zero q out = refl
bits_kept w i (suc k) q (inl l) = kept (bits_moved w i k) (72 + k) q _ (omega arith) ∙ bits_kept w i k q (inl l)
bits_kept w i (suc k) q (inr l) = kept (bits_moved w i k) (72 + k) q _ (omega arith) ∙ bits_kept w i k q (inr (omega arith))

-- so none outside those of the 64 tasks
pub bits_outside : (w : List ℕ) (i k q : ℕ) → k ≤ 64 → (q < 72) ⊎ (136 ≤ q) → get_or (bits_moved w i k) q 0 ≡ get_or w q 0
bits_outside w i k q few (inl l) = bits_kept w i k q (inl l)
bits_outside w i k q few (inr l) = bits_kept w i k q (inr (omega arith))

-- the words stay as many
pub ranks_size : (w : List ℕ) (i : ℕ) → length (ranks_moved w i) ≡ length w
unfolding ranks_moved
ranks_size w i = length-set (bits_moved w i (min (n_of w) 64)) (72 + i) _ ∙ bits_size w i (min (n_of w) 64)

-- and every place outside those of the 64 tasks is as it was
pub ranks_kept : (w : List ℕ) (i q : ℕ) → i < 64 → (q < 72) ⊎ (136 ≤ q) → get_or (ranks_moved w i) q 0 ≡ get_or w q 0
unfolding ranks_moved
ranks_kept w i q li out = kept (bits_moved w i (min (n_of w) 64)) (72 + i) q _ (apart out) ∙ bits_outside w i (min (n_of w) 64) q (omega arith) out
  where
    apart : (q < 72) ⊎ (136 ≤ q) → 72 + i ≢ q
    apart (inl l) = omega arith
    apart (inr l) = omega arith

-- ---- the bits of the words that move

-- of one word: bit i is new, and every other is as it was
bit_moved_lem : (w : List ℕ) (i k b : ℕ) → b < 64 → bit (bit_moved w i k) b ≡ cond (eqb b i) (not (ranks_above w i k)) (bit (above_of w k) b)
bit_moved_lem w i k b lb = go (ranks_above w i k) refl
  where
    x : ℕ
    x = above_of w k

    taken : (has is : Bool) → (has && not is) ≡ cond is false has
    taken has true = and-false has
    taken has false = and-true has

    given : (has is : Bool) → (has || is) ≡ cond is true has
    given has true = or-true has
    given has false = or-false has

    go : (above : Bool) → ranks_above w i k ≡ above → bit (bit_moved w i k) b ≡ cond (eqb b i) (not (ranks_above w i k)) (bit x b)
    go true e = rw e (without_bit_lem x i b lb ∙ taken (bit x b) (eqb b i))
    go false e = rw e (with_bit_lem x i b lb ∙ given (bit x b) (eqb b i))

-- of each task below k
bits_moved_lem : (w : List ℕ) (i k j b : ℕ) → length w ≡ 1280 → k ≤ 64 → j < k → b < 64
    → bit (above_of (bits_moved w i k) j) b ≡ cond (eqb b i) (not (ranks_above w i j)) (bit (above_of w j) b)
unfolding bits_moved
bits_moved_lem w i zero j b size few lj lb = absurd (omega arith)
bits_moved_lem w i (suc k) j b size few lj lb = at (bits_moved_lem w i k j b size (omega arith)) (below_suc j k lj)
  where
    v : List ℕ
    v = bits_moved w i k

    -- the ranks are as they were
    rank : (t : ℕ) → rank_in v t ≡ rank_in w t
    rank t = rw (bits_outside w i k (rank_place t) (omega arith) (inr (omega arith)))

    at : (j < k → b < 64 → bit (above_of v j) b ≡ cond (eqb b i) (not (ranks_above w i j)) (bit (above_of w j) b)) → (j ≡ k) ⊎ (j < k)
        → bit (above_of (set v (72 + k) (bit_moved v i k)) j) b ≡ cond (eqb b i) (not (ranks_above w i j)) (bit (above_of w j) b)
    at rest (inl e) =
        rw e
        (ap (λ (x : ℕ). bit x b) (put v (72 + k) (bit_moved v i k) (omega (arith, bits_size w i k)))
        ∙ bit_moved_lem v i k b lb
        ∙ ap₂ (λ (r : Bool) (x : ℕ). cond (eqb b i) (not r) (bit x b)) (ap₂ ltb (rank k) (rank i)) (bits_kept w i k (72 + k) (inr (omega arith))))
    at rest (inr m) = ap (λ (x : ℕ). bit x b) (kept v (72 + k) (72 + j) (bit_moved v i k) (omega arith)) ∙ rest m lb

-- ---- who ranks above whom

-- of two different numbers one is the smaller
one_less : (a b : ℕ) → a ≢ b → not (ltb a b) ≡ ltb b a
one_less a b d = go (below_or_from a b)
  where
    go : (a < b) ⊎ (b ≤ a) → not (ltb a b) ≡ ltb b a
    go (inl l) = rw (lt-ltb a b l, le-ltb b a (omega arith))
    go (inr l) = rw (le-ltb a b l, lt-ltb b a (omega arith))

-- the ranks of two tasks differ
ranks_apart : (w : List ℕ) (i j : ℕ) → i < 64 → j < 64 → j ≢ i → rank_in w j ≢ rank_in w i
ranks_apart w i j li lj d e = d (omega arith)

-- who ranks above task i is by the ranks
pub ranks_own : (w : List ℕ) (i j : ℕ) → length w ≡ 1280 → i < 64 → n_of w ≤ 64 → j < n_of w → bit (above_of (ranks_moved w i) i) j ≡ ranks_above w i j
unfolding ranks_moved above_word
ranks_own w i j size li few lj =
    let k = min (n_of w) 64 in
    ap (λ (x : ℕ). bit x j) (put (bits_moved w i k) (72 + i) (above_word w i) (omega (arith, bits_size w i k)))
    ∙ bit_word 64 (λ b. ltb b (n_of w) && ranks_above w i b) j (omega arith)
    ∙ rw (lt-ltb j (n_of w) lj)

-- and so is whom it ranks above
pub ranks_theirs : (w : List ℕ) (i j : ℕ) → length w ≡ 1280 → i < 64 → n_of w ≤ 64 → j < n_of w → j ≢ i
    → bit (above_of (ranks_moved w i) j) i ≡ ranks_above w j i
unfolding ranks_moved
ranks_theirs w i j size li few lj d =
    let k = min (n_of w) 64 in
    ap (λ (x : ℕ). bit x i) (kept (bits_moved w i k) (72 + i) (72 + j) (above_word w i) (omega arith))
    ∙ bits_moved_lem w i k j i size (omega arith) (omega arith) li
    ∙ rw (eq-eqb i i refl) (one_less (rank_in w j) (rank_in w i) (ranks_apart w i j li (omega arith) d))

-- between two others it is as it was
pub ranks_others : (w : List ℕ) (i j k : ℕ) → length w ≡ 1280 → i < 64 → j < 64 → k < 64 → j ≢ i → k ≢ i
    → bit (above_of (ranks_moved w i) j) k ≡ bit (above_of w j) k
unfolding ranks_moved
ranks_others w i j k size li lj lk dj dk =
    ap (λ (x : ℕ). bit x k) (kept (bits_moved w i n) (72 + i) (72 + j) (above_word w i) (omega arith)) ∙ go (below_or_from j n)
  where
    n : ℕ
    n = min (n_of w) 64

    go : (j < n) ⊎ (n ≤ j) → bit (above_of (bits_moved w i n) j) k ≡ bit (above_of w j) k
    go (inl l) = bits_moved_lem w i n j k size (omega arith) l lk ∙ rw (ne_eqb k i dk)
    go (inr l) = ap (λ (x : ℕ). bit x k) (bits_kept w i n (72 + j) (inr (omega arith)))
