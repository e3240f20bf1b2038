-- A number's text is its fewest digits: by the number of digits, the last of which stands after those of a tenth of the number. So a number below 10 ^ k has at most k.
use Prim.Native.Nat.{ℕ, zero, suc, ◌+◌, ◌-◌, ◌*◌, ◌/◌, ◌%◌, ◌^◌, ◌≤◌, ◌<◌}
use mathlib.Core.Path.{◌≡◌, refl, sym, ap₂, ◌∙◌}
use mathlib.Core.Bool.{Bool, true, false}
use mathlib.Core.List.{List, [], ◌∷◌, ◌++◌}
use native.Mathlib.Nat.{pow-succ', one-le-pow}
use native.Mathlib.Omega.{arith}
use lib.Dec.{ltb}
use lib.ListN.{length, take, length-append}
use borrow.Author.Tests.{ltb-true, ltb-false, lt-ltb}
use Rattle.io.specs.Digits.{hex_digit_ascii, last_digits, IsDigitCount}
use Rattle.text.specs.Decimal.{decimal_within, decimal}
use Rattle.text.specs.Laws.{DecimalFewest}

-- the last digit is the same sign in both
sign : (n : ℕ) → hex_digit_ascii (n % 10) ≡ 48 + n % 10
sign n = rw (lt-ltb (n % 10) 10 (omega arith))

-- a number with two digits or more is ten or more, and a tenth of it has the fewest of them but one
ten : (n k : ℕ) → IsDigitCount 10 1 n (suc (suc k)) → 10 * 10 ^ k ≤ n
ten n k f =
    let e : suc (suc k) - 1 ≡ suc k = omega arith in
    let h : 10 ^ suc k ≤ n = rw e at (f.2 (omega arith)) in
    rw pow-succ' at h

tenth : (n k : ℕ) → IsDigitCount 10 1 n (suc (suc k)) → IsDigitCount 10 1 (n / 10) (suc k)
tenth n k f =
    let all : n < 10 * 10 ^ suc k = rw pow-succ' at f.1 in
    let e : suc k - 1 ≡ k = omega arith in
    let h = ten n k f in
    (omega arith, omega arith, λ _. rw e (omega arith))

within : (fuel n k : ℕ) (below : Bool) → n < fuel → ltb n 10 ≡ below → IsDigitCount 10 1 n k → decimal_within fuel below n ≡ last_digits 10 k n
unfolding decimal_within
within zero n k below l e f = absurd (omega arith)
within (suc fuel) n zero below l e f = absurd (omega arith)
within (suc fuel) n (suc zero) true l e f =
    let h = ltb-true n 10 e in
    let same : n % 10 ≡ n = omega arith in
    rw (sign, same)
within (suc fuel) n (suc zero) false l e f = absurd (omega (arith, ltb-false n 10 e, f.1))
within (suc fuel) n (suc (suc k)) true l e f = absurd (omega (arith, ltb-true n 10 e, ten n k f, one-le-pow k 10 (omega arith)))
within (suc fuel) n (suc (suc k)) false l e f =
    let h = ltb-false n 10 e in
    ap₂ (λ (front : List ℕ) (last : ℕ). front ++ (last ∷ [])) (within fuel (n / 10) (suc k) (ltb (n / 10) 10) (omega arith) refl (tenth n k f)) (sym (sign n))

pub decimal_fewest : DecimalFewest
unfolding decimal
decimal_fewest n k f = within (n + 1) n k (ltb n 10) (omega arith) refl f

-- what the digits' writer leaves is the number's text
pub spelled : (n k : ℕ) (out : List ℕ) → IsDigitCount 10 1 n k → take k out ≡ last_digits 10 k n → take k out ≡ decimal n
spelled n k out f e = e ∙ sym (decimal_fewest n k f)

-- ---- how many there are

few : (fuel n k : ℕ) (below : Bool) → n < 10 ^ suc k → ltb n 10 ≡ below → length (decimal_within fuel below n) ≤ suc k
unfolding decimal_within
few zero n k below l e = omega arith
few (suc fuel) n k true l e = omega arith
few (suc fuel) n zero false l e = absurd (omega (arith, ltb-false n 10 e))
few (suc fuel) n (suc k) false l e =
    let all : n < 10 * 10 ^ suc k = rw pow-succ' at l in
    let rest = few fuel (n / 10) k (ltb (n / 10) 10) (omega arith) refl in
    simp length-append (omega arith)

pub decimal_few : (n k : ℕ) → n < 10 ^ suc k → length (decimal n) ≤ suc k
unfolding decimal
decimal_few n k l = few (n + 1) n k (ltb n 10) l refl
