-- The laws of a word's bits. A word's lowest bit is its remainder by 2 and its other bits are those of its half, so a word is known by its bits, and the
-- machine's operations on words are operations on each bit.
use Prim.Native.Nat.{ℕ, zero, suc, ◌+◌, ◌*◌, ◌/◌, ◌%◌, ◌^◌, ◌<◌}
use mathlib.Core.Path.{◌≡◌, refl, sym, ap, ap₂, ◌∙◌}
use mathlib.Core.Logic.{◌⊎◌, inl, inr}
use mathlib.Core.Bool.{Bool, true, false, cond, not, ◌&&◌, ◌||◌}
use native.Mathlib.Nat.{le_of_suc-le-suc, not-suc-le-zero, zero-lt-suc, mod-lt, div-one, zero-div, div-add-mod', div-div-eq-div-mul, pow-succ', pow-suc, mul_assoc, mul-one, add_comm}
use native.Mathlib.Omega.{arith}
use lib.Dec.{eqb, eqb-suc-zero, eqb-zero-suc, eqb-suc-suc}
use lib.Arith.{lt-one, digits_lt, digits_div, digits_mod}
use lib.Pow.{pow_pos, shl_exact}
use lib.Bits.{bit_and, bit_or, and_shr, and_mod, or_shr, or_mod, shifted_half, shifted_even}
use lib.Count.{ones, ones_step, count_trailing_zeros, under}
use borrow.Author.Tests.{eqb-true, eq-eqb, ne_eqb}
use Rattle.objects.specs.Below.{any, sum, one, count, least}
use Rattle.objects.specs.Objects.{bit, word}
use Rattle.objects.proofs.Laws.Below.{not_both, any_none, any_false, sum_first, sum_ext, sum_scale, count_first, count_ext, least_first, least_ext}

-- ---- a digit

-- a number below 2 is 0 or 1
pub digit : (x : ℕ) → x < 2 → (x ≡ 0) ⊎ (x ≡ 1)
digit zero l = inl refl
digit (suc zero) l = inr refl
digit (suc (suc x)) l = absurd (not-suc-le-zero (le_of_suc-le-suc (le_of_suc-le-suc l)))

odd_digit : (x : ℕ) → x % 2 < 2
odd_digit x = mod-lt x (zero-lt-suc 1)

-- the digit of a yes or no, and back
pub one_eqb : (x : ℕ) → x < 2 → one (eqb x 1) ≡ x
one_eqb x l = elim (digit x l) [ inl p ↦ rw p | inr p ↦ rw p ]

pub eqb_one : (b : Bool) → eqb (one b) 1 ≡ b
eqb_one true = refl
eqb_one false = refl

one_lt : (b : Bool) → one b < 2
one_lt true = omega arith
one_lt false = omega arith

-- ---- one bit of a word

pub bit_zero : (i : ℕ) → bit 0 i ≡ false
unfolding bit
bit_zero i = rw zero-div

pub bit_low : (w : ℕ) → bit w 0 ≡ eqb (w % 2) 1
unfolding bit
bit_low w = rw div-one

pub bit_suc : (w i : ℕ) → bit w (suc i) ≡ bit (w / 2) i
unfolding bit
bit_suc w i = ap (λ (x : ℕ). eqb (x % 2) 1) (ap (λ (x : ℕ). w / x) (pow-succ' 2 i) ∙ sym (div-div-eq-div-mul w 2 (2 ^ i)))

-- the bit as a number is the digit
pub bit_digit : (w i : ℕ) → one (bit w i) ≡ w / 2 ^ i % 2
unfolding bit
bit_digit w i = one_eqb (w / 2 ^ i % 2) (odd_digit (w / 2 ^ i))

-- the bit is set where the digit is 1
pub bit_set : (w i : ℕ) → bit w i ≡ true → w / 2 ^ i % 2 ≡ 1
unfolding bit
bit_set w i = eqb-true (w / 2 ^ i % 2) 1

pub set_bit : (w i : ℕ) → w / 2 ^ i % 2 ≡ 1 → bit w i ≡ true
unfolding bit
set_bit w i = eq-eqb (w / 2 ^ i % 2) 1

-- An operation that goes through shifts and masks, and that is F on single digits, is F on each bit.
pub bit_op : (op : ℕ → ℕ → ℕ) (F : Bool → Bool → Bool)
    → ((a b k : ℕ) → op a b / 2 ^ k ≡ op (a / 2 ^ k) (b / 2 ^ k))
    → ((a b k : ℕ) → op a b % 2 ^ k ≡ op (a % 2 ^ k) (b % 2 ^ k))
    → ((x y : ℕ) → x < 2 → y < 2 → eqb (op x y) 1 ≡ F (eqb x 1) (eqb y 1))
    → (a b i : ℕ) → bit (op a b) i ≡ F (bit a i) (bit b i)
unfolding bit
bit_op op F shr low digits a b i =
    ap (λ (x : ℕ). eqb (x % 2) 1) (shr a b i) ∙ ap (λ (x : ℕ). eqb x 1) (low (a / 2 ^ i) (b / 2 ^ i) 1)
    ∙ digits (a / 2 ^ i % 2) (b / 2 ^ i % 2) (odd_digit (a / 2 ^ i)) (odd_digit (b / 2 ^ i))

pub bit_and_lem : (a b i : ℕ) → bit (bit_and a b) i ≡ (bit a i && bit b i)
bit_and_lem = bit_op bit_and (λ x y. x && y) and_shr and_mod digits
  where
    digits : (x y : ℕ) → x < 2 → y < 2 → eqb (bit_and x y) 1 ≡ (eqb x 1 && eqb y 1)
    digits x y l m =
        elim (digit x l) [ inl p ↦ rw p | inr p ↦ rw p (elim (digit y m) [ inl q ↦ rw q | inr q ↦ rw q ]) ]

pub bit_or_lem : (a b i : ℕ) → bit (bit_or a b) i ≡ (bit a i || bit b i)
bit_or_lem = bit_op bit_or (λ x y. x || y) or_shr or_mod digits
  where
    digits : (x y : ℕ) → x < 2 → y < 2 → eqb (bit_or x y) 1 ≡ (eqb x 1 || eqb y 1)
    digits x y l m =
        elim (digit x l) [ inl p ↦ rw p | inr p ↦ rw p (elim (digit y m) [ inl q ↦ rw q | inr q ↦ rw q ]) ]

-- ---- a word of one bit

-- a one that is shifted i places up has the bit i and no other
pub bit_shifted : (i j : ℕ) → bit (1 * 2 ^ i) j ≡ eqb j i
bit_shifted zero zero = bit_low 1
bit_shifted zero (suc j) = bit_suc 1 j ∙ bit_zero j ∙ sym (eqb-suc-zero j)
bit_shifted (suc i) zero = bit_low (1 * 2 ^ suc i) ∙ ap (λ (x : ℕ). eqb x 1) (shifted_even 1 i) ∙ sym (eqb-zero-suc i)
bit_shifted (suc i) (suc j) = bit_suc (1 * 2 ^ suc i) j ∙ ap (λ (x : ℕ). bit x j) (shifted_half 1 i) ∙ bit_shifted i j ∙ sym (eqb-suc-suc j i)

-- it fits where i is below 64
pub shifted_fits : (i : ℕ) → i < 64 → 1 * 2 ^ i % 2 ^ 64 ≡ 1 * 2 ^ i
shifted_fits i l = shl_exact 1 i 64 (omega arith) (omega arith)

-- ---- a word from its bits

-- the lowest bit, and the word of the others
pub word_first : (k : ℕ) (f : ℕ → Bool) → word (suc k) f ≡ word k (λ b. f (suc b)) * 2 + one (f 0)
unfolding word
word_first k f =
    sum_first k (λ b. one (f b) * 2 ^ b) ∙ ap₂ (λ (x y : ℕ). x + y) (mul-one (one (f 0)))
    (sum_ext k (λ b. one (f (suc b)) * 2 ^ suc b) (λ b. one (f (suc b)) * 2 ^ b * 2)
    (λ b l. ap (λ (x : ℕ). one (f (suc b)) * x) (pow-suc 2 b) ∙ sym (mul_assoc (one (f (suc b))) (2 ^ b) 2))
    ∙ sum_scale k (λ b. one (f (suc b)) * 2 ^ b) 2)
    ∙ add_comm (one (f 0)) (sum k (λ b. one (f (suc b)) * 2 ^ b) * 2)

pub word_ext : (k : ℕ) (f g : ℕ → Bool) → ((b : ℕ) → b < k → f b ≡ g b) → word k f ≡ word k g
unfolding word
word_ext k f g h = sum_ext k (λ b. one (f b) * 2 ^ b) (λ b. one (g b) * 2 ^ b) (λ b l. ap (λ (x : Bool). one x * 2 ^ b) (h b l))

pub word_lt : (k : ℕ) (f : ℕ → Bool) → word k f < 2 ^ k
unfolding word
word_lt zero f = omega arith
word_lt (suc k) f = rw (word_first, pow-suc) (digits_lt (word_lt k (λ b. f (suc b))) (one_lt (f 0)))

-- the word has the bits that it was made of
pub bit_word : (k : ℕ) (f : ℕ → Bool) (b : ℕ) → b < k → bit (word k f) b ≡ f b
bit_word zero f b l = absurd (not-suc-le-zero l)
bit_word (suc k) f zero l =
    bit_low (word (suc k) f) ∙ ap (λ (x : ℕ). eqb (x % 2) 1) (word_first k f)
    ∙ ap (λ (x : ℕ). eqb x 1) (digits_mod (word k (λ b. f (suc b))) (one_lt (f 0))) ∙ eqb_one (f 0)
bit_word (suc k) f (suc b) l =
    bit_suc (word (suc k) f) b ∙ ap (λ (x : ℕ). bit (x / 2) b) (word_first k f)
    ∙ ap (λ (x : ℕ). bit x b) (digits_div (word k (λ b. f (suc b))) (one_lt (f 0))) ∙ bit_word k (λ b. f (suc b)) b (le_of_suc-le-suc l)

half_below : (k w : ℕ) → w < 2 ^ suc k → w / 2 < 2 ^ k
half_below k w l = let m : w < 2 ^ k * 2 = rw pow-suc at l in omega arith

-- the word of a word's bits is the word
pub word_bits : (k w : ℕ) → w < 2 ^ k → word k (bit w) ≡ w
unfolding word
word_bits zero w l = sym (lt-one l)
word_bits (suc k) w l =
    word_first k (bit w)
    ∙ ap₂ (λ (x y : ℕ). x * 2 + y)
    (word_ext k (λ b. bit w (suc b)) (bit (w / 2)) (λ b m. bit_suc w b) ∙ word_bits k (w / 2) (half_below k w l))
    (ap one (bit_low w) ∙ one_eqb (w % 2) (odd_digit w))
    ∙ div-add-mod' w 2

-- words of k bits are equal when their bits are
pub word_eq : (k a b : ℕ) → a < 2 ^ k → b < 2 ^ k → ((i : ℕ) → i < k → bit a i ≡ bit b i) → a ≡ b
word_eq k a b l m h = sym (word_bits k a l) ∙ word_ext k (bit a) (bit b) h ∙ word_bits k b m

-- ---- the word with no bit

pub zero_none : (k : ℕ) → any k (bit 0) ≡ false
zero_none k = any_none k (bit 0) (λ i l. bit_zero i)

pub none_zero : (k w : ℕ) → w < 2 ^ k → any k (bit w) ≡ false → w ≡ 0
none_zero k w l e = word_eq k w 0 l (pow_pos k) (λ i m. any_false k (bit w) e i m ∙ sym (bit_zero i))

-- a word of k bits has a bit where it is not 0
pub any_bit : (k w : ℕ) → w < 2 ^ k → any k (bit w) ≡ not (eqb w 0)
any_bit k w l = go (any k (bit w)) refl
  where
    go : (t : Bool) → any k (bit w) ≡ t → t ≡ not (eqb w 0)
    go true e = rw (ne_eqb w 0 (λ p. not_both (any k (bit w)) e (ap (λ (x : ℕ). any k (bit x)) p ∙ zero_none k)))
    go false e = rw (eq-eqb w 0 (none_zero k w l e))

-- ---- the machine's counts of bits

pub trailing_least : (k w : ℕ) → count_trailing_zeros k w ≡ least k (bit w)
unfolding count_trailing_zeros least
trailing_least zero w = refl
trailing_least (suc k) w =
    sym (least_first k (bit w)
    ∙ ap₂ (λ (b : Bool) (x : ℕ). cond b 0 (suc x)) (bit_low w)
    (least_ext k (λ j. bit w (suc j)) (bit (w / 2)) (λ j l. bit_suc w j) ∙ sym (trailing_least k (w / 2)))
    ∙ go (digit (w % 2) (odd_digit w)))
  where
    go : (w % 2 ≡ 0) ⊎ (w % 2 ≡ 1) → cond (eqb (w % 2) 1) 0 (suc (count_trailing_zeros k (w / 2))) ≡ under (w % 2) (count_trailing_zeros k (w / 2))
    go (inl p) = rw p
    go (inr p) = rw p

pub ones_count : (k w : ℕ) → w < 2 ^ k → ones w ≡ count k (bit w)
unfolding ones count
ones_count zero w l = ap ones (lt-one l)
ones_count (suc k) w l =
    ones_step w
    ∙ ap₂ (λ (x y : ℕ). x + y) (sym (ap one (bit_low w) ∙ one_eqb (w % 2) (odd_digit w)))
    (ones_count k (w / 2) (half_below k w l) ∙ count_ext k (bit (w / 2)) (λ j. bit w (suc j)) (λ j m. sym (bit_suc w j)))
    ∙ sym (count_first k (bit w))
