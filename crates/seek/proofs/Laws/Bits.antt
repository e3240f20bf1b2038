-- The machine's operations on words with a bit for each of 64 tasks: what they do to each bit, and so that they are the definitions.
use Prim.Native.Nat.{ℕ, zero, suc, ◌-◌, ◌*◌, ◌/◌, ◌%◌, ◌^◌, ◌<◌}
use mathlib.Core.Path.{◌≡◌, sym, ap, ◌∙◌}
use mathlib.Core.Logic.{◌⊎◌, inl, inr}
use mathlib.Core.Bool.{Bool, not, ◌&&◌, ◌||◌}
use native.Mathlib.Nat.{le_of_suc-le-suc, not-suc-le-zero, mod-lt, zero-lt-suc, pow-suc}
use native.Mathlib.Omega.{arith}
use lib.Dec.{eqb}
use lib.Pow.{ones_sub-lt}
use lib.Bits.{bit_and, bit_or, and_lt, or_lt}
use lib.Count.{ones}
use Rattle.objects.specs.Objects.{bit}
use Rattle.objects.proofs.Laws.Below.{count_ext}
use Rattle.objects.proofs.Laws.Bits.{digit, bit_low, bit_suc, bit_and_lem, bit_or_lem, bit_shifted, shifted_fits, word_lt, word_eq, ones_count}
use Rattle.machine.specs.Bits.{with_bit, without_bit, common}
use Rattle.machine.proofs.Laws.Bits.{with_bit_lem, without_bit_lem}

-- ---- the opposite of a word

-- the lowest digit of what is left of the highest number of n pairs is the opposite, and its half is what is left of their half
not_odd : (n a : ℕ) → a < n * 2 → eqb (((n * 2 - 1) - a) % 2) 1 ≡ not (eqb (a % 2) 1)
not_odd n a l = go (digit (a % 2) (mod-lt a (zero-lt-suc 1)))
  where
    go : (a % 2 ≡ 0) ⊎ (a % 2 ≡ 1) → eqb (((n * 2 - 1) - a) % 2) 1 ≡ not (eqb (a % 2) 1)
    go (inl p) = let q : ((n * 2 - 1) - a) % 2 ≡ 1 = omega arith in rw (p, q)
    go (inr p) = let q : ((n * 2 - 1) - a) % 2 ≡ 0 = omega arith in rw (p, q)

not_half : (n a : ℕ) → a < n * 2 → ((n * 2 - 1) - a) / 2 ≡ (n - 1) - a / 2
not_half n a l = omega arith

-- the bits of what is left of the highest word of k bits are the opposites
pub bit_not : (k a i : ℕ) → a < 2 ^ k → i < k → bit ((2 ^ k - 1) - a) i ≡ not (bit a i)
bit_not zero a i l m = absurd (not-suc-le-zero m)
bit_not (suc k) a zero l m =
    bit_low ((2 ^ suc k - 1) - a) ∙ ap (λ (x : ℕ). eqb (((x - 1) - a) % 2) 1) (pow-suc 2 k) ∙ not_odd (2 ^ k) a (rw pow-suc at l)
    ∙ ap not (sym (bit_low a))
bit_not (suc k) a (suc i) l m =
    let n : a < 2 ^ k * 2 = rw pow-suc at l in
    bit_suc ((2 ^ suc k - 1) - a) i ∙ ap (λ (x : ℕ). bit (((x - 1) - a) / 2) i) (pow-suc 2 k) ∙ ap (λ (x : ℕ). bit x i) (not_half (2 ^ k) a n)
    ∙ bit_not k (a / 2) i (omega arith) (le_of_suc-le-suc m) ∙ ap not (sym (bit_suc a i))

-- ---- the operations

-- or with a one at i sets the bit i
pub with_machine : (x i : ℕ) → x < 2 ^ 64 → i < 64 → bit_or x (1 * 2 ^ i % 2 ^ 64) ≡ with_bit x i
unfolding with_bit
with_machine x i l m =
    word_eq 64 (bit_or x (1 * 2 ^ i % 2 ^ 64)) (with_bit x i) (or_lt 64 x (1 * 2 ^ i % 2 ^ 64) l (omega arith)) (word_lt 64 (λ j. bit x j || eqb j i))
    (λ j h. bit_or_lem x (1 * 2 ^ i % 2 ^ 64) j ∙ ap (λ (y : ℕ). bit x j || bit y j) (shifted_fits i m) ∙ ap (λ (b : Bool). bit x j || b) (bit_shifted i j)
    ∙ sym (with_bit_lem x i j h))

-- and with the opposite of a one at i takes the bit i out
pub without_machine : (x i : ℕ) → x < 2 ^ 64 → i < 64 → bit_and x ((2 ^ 64 - 1) - 1 * 2 ^ i % 2 ^ 64) ≡ without_bit x i
unfolding without_bit
without_machine x i l m =
    let one = 1 * 2 ^ i % 2 ^ 64 in
    word_eq 64 (bit_and x ((2 ^ 64 - 1) - one)) (without_bit x i) (and_lt 64 x ((2 ^ 64 - 1) - one) l (ones_sub-lt 64 one)) (word_lt 64 (λ j. bit x j && not (eqb j i)))
    (λ j h. bit_and_lem x ((2 ^ 64 - 1) - one) j ∙ ap (λ (b : Bool). bit x j && b)
    (bit_not 64 one j (omega arith) h ∙ ap (λ (y : ℕ). not (bit y j)) (shifted_fits i m) ∙ ap not (bit_shifted i j))
    ∙ sym (without_bit_lem x i j h))

-- the ones of and are the bits that are set in both
pub common_machine : (x y : ℕ) → x < 2 ^ 64 → y < 2 ^ 64 → ones (bit_and x y) ≡ common x y
unfolding common
common_machine x y l m =
    ones_count 64 (bit_and x y) (and_lt 64 x y l m) ∙ count_ext 64 (bit (bit_and x y)) (λ j. bit x j && bit y j) (λ j h. bit_and_lem x y j)
