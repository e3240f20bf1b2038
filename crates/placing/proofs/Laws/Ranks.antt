-- The bits that move where a task's job gets its rank, and who ranks above it, task by task, as the loop that does both goes.
use Prim.Native.Nat.{ℕ, ◌+◌, ◌*◌, ◌≤◌, min}
use mathlib.Core.Path.{◌≡◌, refl, sym, ap, ap₂, ◌∙◌}
use mathlib.Core.Logic.{inr}
use mathlib.Core.List.{List}
use mathlib.Core.Bool.{Bool, true, false, ◌&&◌, ◌||◌, and-false, or-false}
use native.Mathlib.Numerals.{add-one}
use native.Mathlib.Omega.{arith}
use lib.Dec.{eqb, ltb}
use lib.ListN.{set}
use borrow.Author.Tests.{eqb-true, eqb-false, lt-ltb, le-ltb, ltb-true}
use Rattle.objects.specs.Objects.{bit, word}
use Rattle.objects.proofs.Laws.Below.{or_right, bool_ext}
use Rattle.objects.proofs.Laws.Bits.{bit_zero, bit_word, word_ext, word_bits}
use Rattle.machine.specs.Bits.{with_bit, without_bit}
use Rattle.machine.specs.Places.{n_of, above_of, rank_place}
use Rattle.machine.specs.Ranks.{rank_in, ranks_above, above_word, bit_moved, bits_moved, ranks_moved}
use Rattle.machine.proofs.Laws.Ranks.{bits_outside}

-- of the tasks below k, those that rank above task i
abbrev pub above_below : List ℕ → ℕ → ℕ → ℕ
above_below w i k = word 64 (λ j. ltb j k && ranks_above w i j)

with_is : (x i : ℕ) → with_bit x i ≡ word 64 (λ j. bit x j || eqb j i)
unfolding with_bit
with_is x i = refl

above_is : (w : List ℕ) (i : ℕ) → above_word w i ≡ above_below w i (n_of w)
unfolding above_word
above_is w i = refl

bits_next : (w : List ℕ) (i k : ℕ) → let v = bits_moved w i k in bits_moved w i (k + 1) ≡ set v (72 + k) (bit_moved v i k)
unfolding bits_moved
bits_next w i k = rw (add-one k)

moved_is : (w : List ℕ) (i : ℕ) → ranks_moved w i ≡ set (bits_moved w i (min (n_of w) 64)) (72 + i) (above_word w i)
unfolding ranks_moved
moved_is w i = refl

-- ---- to begin with

-- no bit has moved
pub bits_none : (w : List ℕ) (i : ℕ) → w ≡ bits_moved w i 0
unfolding bits_moved
bits_none w i = refl

-- none is below 0
pub above_none : (w : List ℕ) (i : ℕ) → 0 ≡ above_below w i 0
above_none w i =
    sym (word_bits 64 0 (omega arith)) ∙ word_ext 64 (bit 0) (λ j. ltb j 0 && ranks_above w i j) (λ j l. bit_zero j ∙ sym (rw (le-ltb j 0 (omega arith))))

-- ---- one task more

-- a test that only the task k itself tells apart
below_next : (j k : ℕ) → eqb j k ≡ false → ltb j (k + 1) ≡ ltb j k
below_next j k e =
    bool_ext (ltb j (k + 1)) (ltb j k) (λ t. lt-ltb j k (let d = eqb-false j k e in omega (arith, ltb-true j (k + 1) t))) (λ t. lt-ltb j (k + 1) (omega (arith, ltb-true j k t)))

-- a bit of the next word, where task k has it
more_has : (j k : ℕ) (r b : Bool) → eqb j k ≡ b → (b ≡ true → r ≡ true) → ((ltb j k && r) || eqb j k) ≡ (ltb j (k + 1) && r)
more_has j k r true e t = rw (e, t refl, lt-ltb j (k + 1) (omega (arith, eqb-true j k e))) (or_right (ltb j k && true) true refl)
more_has j k r false e t = rw (e, below_next j k e) (or-false (ltb j k && r))

-- where it has not
more_lacks : (j k : ℕ) (r b : Bool) → eqb j k ≡ b → (b ≡ true → r ≡ false) → (ltb j k && r) ≡ (ltb j (k + 1) && r)
more_lacks j k r true e t = rw (t refl) (and-false (ltb j k) ∙ sym (and-false (ltb j (k + 1))))
more_lacks j k r false e t = rw (below_next j k e)

module _ (w v : List ℕ) (i k x : ℕ) (few : k ≤ 64) (e : v ≡ bits_moved w i k) (f : x ≡ above_below w i k) where
  -- the ranks are as they were
  rank : (j : ℕ) → rank_in v j ≡ rank_in w j
  rank j = ap (λ (y : ℕ). y * 64 + j) (rw e (bits_outside w i k (rank_place j) few (inr (omega arith))))

  ranked : (j : ℕ) → ranks_above w i j ≡ ranks_above v i j
  ranked j = sym (ap₂ ltb (rank j) (rank i))

  -- the next task ranks above it
  pub more_above : ranks_above v i k ≡ true → (set v (72 + k) (without_bit (above_of v k) i) ≡ bits_moved w i (k + 1)) × (with_bit x k ≡ above_below w i (k + 1))
  more_above h = (
    sym (bits_next w i k ∙ rw (← e, h)),
    with_is x k
        ∙ word_ext 64 (λ j. bit x j || eqb j k) (λ j. ltb j (k + 1) && ranks_above w i j)
        (λ j l.
        ap (λ (b : Bool). b || eqb j k) (ap (λ (y : ℕ). bit y j) f ∙ bit_word 64 (λ j. ltb j k && ranks_above w i j) j l)
        ∙ more_has j k (ranks_above w i j) (eqb j k) refl (λ t. rw (eqb-true j k t) (ranked k ∙ h))),
  )

  -- it does not
  pub more_below : ranks_above v i k ≡ false → (set v (72 + k) (with_bit (above_of v k) i) ≡ bits_moved w i (k + 1)) × (x ≡ above_below w i (k + 1))
  more_below h = (
    sym (bits_next w i k ∙ rw (← e, h)),
    f
        ∙ word_ext 64 (λ j. ltb j k && ranks_above w i j) (λ j. ltb j (k + 1) && ranks_above w i j)
        (λ j l. more_lacks j k (ranks_above w i j) (eqb j k) refl (λ t. rw (eqb-true j k t) (ranked k ∙ h))),
  )

  -- all below n, of which there are at most 64
  pub all_moved : k ≡ min (n_of w) 64 → set v (72 + i) x ≡ ranks_moved w i
  all_moved g =
      ap₂ (λ (u : List ℕ) (y : ℕ). set u (72 + i) y) (e ∙ ap (bits_moved w i) g)
      (f
      ∙ word_ext 64 (λ j. ltb j k && ranks_above w i j) (λ j. ltb j (n_of w) && ranks_above w i j)
      (λ j l.
      ap (λ (b : Bool). b && ranks_above w i j)
      (bool_ext (ltb j k) (ltb j (n_of w)) (λ t. lt-ltb j (n_of w) (omega (arith, ltb-true j k t, g))) (λ t. lt-ltb j k (omega (arith, ltb-true j (n_of w) t, g)))))
      ∙ sym (above_is w i))
      ∙ sym (moved_is w i)
