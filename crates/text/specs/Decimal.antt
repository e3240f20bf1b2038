-- A number in decimal, with no leading zeros, in ASCII.
use Rattle.std.specs.Prelude.{ℕ, zero, suc, ◌+◌, ◌/◌, ◌%◌, List, [], ◌∷◌, ◌++◌, Bool, true, false, ltb}

-- the digits of a number that has no more than so many: it is below ten, and is its own digit, or its last digit stands after those of the rest
unfoldable pub decimal_within : ℕ → Bool → ℕ → List ℕ
decimal_within zero below n = []
decimal_within (suc k) true n = (48 + n) ∷ []
decimal_within (suc k) false n = decimal_within k (ltb (n / 10) 10) (n / 10) ++ ((48 + n % 10) ∷ [])

-- decimal with no leading zeros; n + 1 digits are always enough
unfoldable pub decimal : ℕ → List ℕ
unfolding decimal_within
decimal n = decimal_within (n + 1) (ltb n 10) n
