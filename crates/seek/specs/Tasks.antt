-- The tasks whose bit is set in a word, as a list.
use Rattle.std.specs.Prelude.{ℕ, zero, suc, List, [], ◌∷◌, ◌++◌, Bool, cond}
use Rattle.objects.specs.Objects.{bit}

-- the numbers below k that have f, lowest first
unfoldable pub those_below : ℕ → (ℕ → Bool) → List ℕ
those_below zero f = []
those_below (suc k) f = those_below k f ++ cond (f k) (k ∷ []) []

-- the tasks of a word
unfoldable pub tasks_in : ℕ → List ℕ
unfolding those_below bit
tasks_in word = those_below 64 (bit word)
