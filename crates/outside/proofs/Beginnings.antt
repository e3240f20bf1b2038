-- What a word is, by its length and its first byte.
use Prim.Native.Nat.{ℕ}
use mathlib.Core.Path.{◌≡◌, refl}
use mathlib.Core.List.{List, [], ◌∷◌}
use native.Mathlib.Omega.{arith}
use lib.ListN.{length, get_or}
use borrow.Author.Tests.{eq-eqb, ne_eqb}
use Rattle.outside.specs.declared.Word.TheVariants.{Empty, Input, Flag, Name}
use Rattle.outside.specs.Words.{word_of}

pub is_empty : (word : List ℕ) → length word ≡ 0 → Empty ≡ word_of word
unfolding word_of
is_empty [] h = refl
is_empty (c ∷ more) h = absurd (omega (arith, h))

pub is_name : (word : List ℕ) → (length word ≡ 0 → ⊥) → (get_or word 0 0 ≡ 45 → ⊥) → Name ≡ word_of word
unfolding word_of
is_name [] some other = absurd (some refl)
is_name (c ∷ []) some other = rw (ne_eqb c 45 other)
is_name (c ∷ d ∷ more) some other = rw (ne_eqb c 45 other)

pub is_input : (word : List ℕ) → get_or word 0 0 ≡ 45 → length word ≡ 1 → Input ≡ word_of word
unfolding word_of
is_input [] dash one = absurd (omega (arith, one))
is_input (c ∷ []) dash one = rw (eq-eqb c 45 dash)
is_input (c ∷ d ∷ more) dash one = absurd (omega (arith, one))

pub is_flag : (word : List ℕ) → (length word ≡ 0 → ⊥) → get_or word 0 0 ≡ 45 → (length word ≡ 1 → ⊥) → Flag ≡ word_of word
unfolding word_of
is_flag [] some dash long = absurd (some refl)
is_flag (c ∷ []) some dash long = absurd (long refl)
is_flag (c ∷ d ∷ more) some dash long = rw (eq-eqb c 45 dash)
