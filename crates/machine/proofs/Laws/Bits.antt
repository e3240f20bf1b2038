-- What a word's bits are, after one is set or taken out, and which are set in one task's word.
use Prim.Native.Nat.{ℕ, ◌<◌}
use mathlib.Core.Path.{◌≡◌}
use mathlib.Core.Bool.{not, ◌&&◌, ◌||◌}
use lib.Dec.{eqb}
use Rattle.objects.specs.Objects.{bit}
use Rattle.objects.proofs.Laws.Bits.{bit_word}
use Rattle.machine.specs.Bits.{with_bit, without_bit}

-- a bit set: it and those that were
pub with_bit_lem : (x i j : ℕ) → j < 64 → bit (with_bit x i) j ≡ (bit x j || eqb j i)
unfolding with_bit
with_bit_lem x i j l = bit_word 64 (λ b. bit x b || eqb b i) j l

-- a bit taken out: those that were, but it
pub without_bit_lem : (x i j : ℕ) → j < 64 → bit (without_bit x i) j ≡ (bit x j && not (eqb j i))
unfolding without_bit
without_bit_lem x i j l = bit_word 64 (λ b. bit x b && not (eqb b i)) j l
