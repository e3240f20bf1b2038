-- The highest ranked of the tasks below k that have f, and so the one that a transaction waits for.
use Prim.Native.Nat.{ℕ, zero, suc, ◌+◌, ◌≤◌, ◌<◌}
use mathlib.Core.Path.{◌≡◌, refl, ap, ap₂, ◌∙◌}
use mathlib.Core.List.{List}
use mathlib.Core.Bool.{Bool, true, false, cond, ◌&&◌, ◌||◌}
use native.Mathlib.Nat.{le_refl, lt-suc_self}
use native.Mathlib.Numerals.{add-one}
use native.Mathlib.Omega.{arith}
use lib.Dec.{eqb}
use Rattle.objects.specs.Objects.{bit}
use Rattle.objects.proofs.Laws.Below.{below_less}
use Rattle.machine.specs.Places.{above_of}
use Rattle.machine.specs.Asked.{clashing_in, highest_below, highest_in}
use Rattle.seek.specs.Foremost.{foremost}

-- task k, where it has f and ranks above the one that was the highest
abbrev chosen : List ℕ → ℕ → Bool → ℕ → ℕ
chosen w k has best = cond (has && (eqb best 64 || bit (above_of w best) k)) k best

module _ (w : List ℕ) (f : ℕ → Bool) where
  pub foremost_none : foremost w f 0 ≡ 64
  unfolding foremost
  foremost_none = refl

  pub foremost_more : (k : ℕ)
      → let best = foremost w f k in
      foremost w f (k + 1) ≡ cond (f k && (eqb best 64 || bit (above_of w best) k)) k best
  unfolding foremost
  foremost_more k = ap (foremost w f) (add-one k)

  -- a task that does not have f is not the highest
  pub foremost_stays : (j : ℕ) → f j ≡ false → foremost w f (j + 1) ≡ foremost w f j
  foremost_stays j e = foremost_more j ∙ ap (λ (b : Bool). chosen w j b (foremost w f j)) e

  -- it is a task or 64
  pub foremost_le : (k : ℕ) → k ≤ 64 → foremost w f k ≤ 64
  unfolding foremost
  foremost_le zero l = le_refl 64
  foremost_le (suc k) l =
      let best = foremost w f k in
      one_of (f k && (eqb best 64 || bit (above_of w best) k)) k best (omega arith) (foremost_le k (omega arith))
    where
      one_of : (b : Bool) (x y : ℕ) → x ≤ 64 → y ≤ 64 → cond b x y ≤ 64
      one_of true x y l m = l
      one_of false x y l m = m

-- of the same tasks it is the same
pub foremost_ext : (w : List ℕ) (f g : ℕ → Bool) (k : ℕ) → ((j : ℕ) → j < k → f j ≡ g j) → foremost w f k ≡ foremost w g k
unfolding foremost
foremost_ext w f g zero h = refl
foremost_ext w f g (suc k) h = ap₂ (chosen w k) (h k (lt-suc_self k)) (foremost_ext w f g k (below_less k (λ j. f j ≡ g j) h))

-- whom the transaction of task i waits for is the highest ranked of those with which it clashes
module _ (w : List ℕ) (i : ℕ) where
  below_is : (k : ℕ) → highest_below w i k ≡ foremost w (clashing_in w i) k
  unfolding highest_below foremost
  below_is zero = refl
  below_is (suc k) = ap (chosen w k (clashing_in w i k)) (below_is k)

  pub highest_is : highest_in w i ≡ foremost w (clashing_in w i) 64
  unfolding highest_in
  highest_is = below_is 64

  pub highest_le : highest_in w i ≤ 64
  highest_le = rw highest_is (foremost_le w (clashing_in w i) 64 (le_refl 64))
