-- Words with a bit for each of 64 tasks: a bit set, a bit taken out, how many are set, how many two words share, the lowest.
use Rattle.std.specs.Prelude.{ℕ, not, ◌&&◌, ◌||◌, eqb}
use Rattle.objects.specs.Below.{count, least}
use Rattle.objects.specs.Objects.{bit, word}

-- the word with bit i too
unfoldable pub with_bit : ℕ → ℕ → ℕ
unfolding word bit
with_bit x i = word 64 (λ j. bit x j || eqb j i)

-- the word without bit i
unfoldable pub without_bit : ℕ → ℕ → ℕ
unfolding word bit
without_bit x i = word 64 (λ j. bit x j && not (eqb j i))

-- how many bits are set
unfoldable pub ones : ℕ → ℕ
unfolding count bit
ones x = count 64 (bit x)

-- how many bits are set in both
unfoldable pub common : ℕ → ℕ → ℕ
unfolding count bit
common x y = count 64 (λ j. bit x j && bit y j)

-- the lowest bit that is set, and 64 where none is
unfoldable pub lowest : ℕ → ℕ
unfolding least bit
lowest x = least 64 (bit x)
