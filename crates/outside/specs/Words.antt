-- What a word of a call says.
use Rattle.std.specs.Prelude.{ℕ, ◌+◌, ◌*◌, ◌-◌, List, [], ◌∷◌, Bool, true, cond, ◌&&◌, eqb, leb, Option, Some, None}
use Rattle.outside.specs.declared.Word.{Word}
use Rattle.outside.specs.declared.Word.TheVariants.{Empty, Input, Flag, Name}

-- `-` alone is standard input, and any other word that begins with it a flag
unfoldable pub word_of : List ℕ → Word
word_of [] = Empty
word_of (c ∷ []) = cond (eqb c 45) Input Name
word_of (c ∷ d ∷ more) = cond (eqb c 45) Flag Name

-- the digits from 0 to 9, in ASCII
abbrev pub is_digit : ℕ → Bool
is_digit c = leb 48 c && leb c 57

unfoldable pub digits : List ℕ → Bool
digits [] = true
digits (c ∷ more) = is_digit c && digits more

-- the value of digits that stand after others of this value: each is worth ten times the next
unfoldable pub value : ℕ → List ℕ → ℕ
value before [] = before
value before (c ∷ more) = value (before * 10 + (c - 48)) more

-- such digits say a number if it is no more than a tick can be
unfoldable pub number_from : ℕ → List ℕ → Option ℕ
unfolding digits value
number_from before word = cond (digits word && leb (value before word) 4294967295) (Some (value before word)) None

-- a word says a number if it is digits and nothing else, at least one
unfoldable pub number_of : List ℕ → Option ℕ
unfolding number_from
number_of [] = None
number_of (c ∷ more) = number_from 0 (c ∷ more)
