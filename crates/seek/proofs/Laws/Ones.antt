-- The lowest one of a word, and the word without it.
use Prim.Native.Nat.{ℕ, ◌^◌, ◌≤◌, ◌<◌}
use mathlib.Core.Path.{◌≡◌, sym, ap, ◌∙◌}
use mathlib.Core.Logic.{◌≢◌, ⊎_elim}
use mathlib.Core.Bool.{true, false, not, ◌&&◌}
use native.Mathlib.Nat.{le_antisymm}
use native.Mathlib.Omega.{arith}
use lib.Dec.{eqb}
use borrow.Author.Tests.{eq-eqb, ne_eqb}
use Rattle.objects.specs.Objects.{bit}
use Rattle.objects.proofs.Laws.Below.{below_or_from, not_both, and_left, and_right, least_has, least_before, least_found}
use Rattle.objects.proofs.Laws.Bits.{any_bit}
use Rattle.machine.specs.Bits.{without_bit, lowest}
use Rattle.machine.proofs.Laws.Bits.{without_bit_lem}

-- there is one where the word is not 0
pub lowest_lt : (x : ℕ) → x < 2 ^ 64 → x ≢ 0 → lowest x < 64
unfolding lowest
lowest_lt x l n = least_found 64 (bit x) (any_bit 64 x l ∙ ap not (ne_eqb x 0 n))

-- the place has a one where it is below 64, and before it there is none
pub lowest_one : (x : ℕ) → lowest x < 64 → bit x (lowest x) ≡ true
unfolding lowest
lowest_one x = least_has 64 (bit x)

pub lowest_before : (x j : ℕ) → j < lowest x → bit x j ≡ false
unfolding lowest
lowest_before x = least_before 64 (bit x)

-- the word without its lowest one
abbrev pub rid : ℕ → ℕ
rid x = without_bit x (lowest x)

-- its lowest is above
pub rid_above : (x : ℕ) → lowest x < 64 → lowest x < lowest (rid x)
rid_above x some = ⊎_elim (λ l. l) (λ l. absurd (not_below l)) (below_or_from (lowest x) (lowest (rid x)))
  where
    not_below : lowest (rid x) ≤ lowest x → ⊥
    not_below l =
        let j = lowest (rid x) in
        let other = not (eqb j (lowest x)) in
        let has : (bit x j && other) ≡ true = sym (without_bit_lem x (lowest x) j (omega arith)) ∙ lowest_one (rid x) (omega arith) in
        ⊎_elim
        (λ m. not_both (bit x j) (and_left (bit x j) other has) (lowest_before x j m))
        (λ m. not_both other (and_right (bit x j) other has) (ap not (eq-eqb j (lowest x) (le_antisymm l m))))
        (below_or_from j (lowest x))
