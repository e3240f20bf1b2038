-- What a word says, byte by byte.
use Prim.Native.Nat.{ℕ, ◌+◌, ◌*◌, ◌-◌, ◌≤◌, ◌<◌}
use mathlib.Core.Path.{◌≡◌, refl, ◌∙◌}
use mathlib.Core.List.{List, [], ◌∷◌}
use mathlib.Core.Bool.{Bool, true, false, ◌&&◌}
use native.Mathlib.Omega.{arith}
use native.Mathlib.Numerals.{add-one}
use lib.ListN.{length, drop, get_or, drop_of_length-le}
use lib.Seq.{drop-cons}
use borrow.Author.Tests.{le-leb, lt-leb}
use Rattle.std.specs.Prelude.{Some, None}
use Rattle.std.specs.Char.{digit_value, NotDecimalDigitIn}
use Rattle.std.proofs.lemmas.Bool.Decides.{nat_tests}
use Rattle.std.proofs.lemmas.Str.{digit_value_digit}
use Rattle.std.proofs.lemmas.Str.Parse.{digit_from_value}
use Rattle.outside.specs.Words.{is_digit, digits, value, number_from, number_of}

-- more digits make no number smaller
grows : (before : ℕ) (word : List ℕ) → before ≤ value before word
unfolding value
grows before [] = omega arith
grows before (c ∷ more) = omega (arith, grows (before * 10 + (c - 48)) more)

and_false : (b : Bool) → (b && false) ≡ false
and_false true = refl
and_false false = refl

-- what has grown too large stays so
too_large : (before : ℕ) (word : List ℕ) → 4294967295 < before → None ≡ number_from before word
unfolding number_from
too_large before word h = rw (lt-leb (value before word) 4294967295 (omega (arith, grows before word)), and_false (digits word))

not_digit : (c : ℕ) → NotDecimalDigitIn 10 c → is_digit c ≡ false
not_digit c other = grind (arith, nat_tests)

a_digit : (c : ℕ) → digit_value c < 10 → is_digit c ≡ true
a_digit c small = grind (arith, nat_tests, digit_from_value c small)

digit_worth : (c : ℕ) → digit_value c < 10 → digit_value c ≡ c - 48
digit_worth c small = omega (arith, digit_value_digit c (digit_from_value c small))

-- the word from a place on: at a byte that is no digit it says nothing, and at a digit what it says from the next place on
module _ (word : List ℕ) (i before : ℕ) (h : i < length word) where
  pub no_digit : NotDecimalDigitIn 10 (get_or word i 0) → None ≡ number_from before (drop i word)
  unfolding number_from digits
  no_digit other = rw (drop-cons word i 0 h, not_digit (get_or word i 0) other)

  pub digit_more : digit_value (get_or word i 0) < 10 → number_from (before * 10 + digit_value (get_or word i 0)) (drop (i + 1) word) ≡ number_from before (drop i word)
  unfolding number_from digits value
  digit_more small = rw (drop-cons word i 0 h, add-one, a_digit (get_or word i 0) small, digit_worth (get_or word i 0) small)

  pub digit_too_large : digit_value (get_or word i 0) < 10 → 4294967295 < before * 10 + digit_value (get_or word i 0) → None ≡ number_from before (drop i word)
  digit_too_large small large = too_large (before * 10 + digit_value (get_or word i 0)) (drop (i + 1) word) large ∙ digit_more small

-- the whole word, and nothing of it
pub from_start : (word : List ℕ) → (length word ≡ 0 → ⊥) → number_from 0 word ≡ number_of word
unfolding number_of
from_start [] h = absurd (h refl)
from_start (c ∷ more) h = refl

pub empty : (word : List ℕ) → length word ≡ 0 → None ≡ number_of word
unfolding number_of
empty [] h = refl
empty (c ∷ more) h = absurd (omega (arith, h))

pub at_end : (word : List ℕ) (i before : ℕ) → length word ≤ i → before ≤ 4294967295 → Some before ≡ number_from before (drop i word)
unfolding number_from digits value
at_end word i before h small = rw (drop_of_length-le word h, le-leb before 4294967295 small)
