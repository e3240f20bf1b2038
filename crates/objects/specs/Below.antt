-- Bounded definitions: some, every, how many, the least and the sum over the numbers below k. Each counts k down, so that a loop's invariant is the
-- definition at the loop's index. Their laws are in proofs/Laws/Below.antt. Last, the least and how many said plainly, of any property of numbers.
use Rattle.std.specs.Prelude.{ℕ, zero, suc, ◌+◌, ◌<◌, ◌≡◌, Bool, true, false, cond, ◌&&◌, ◌||◌, ltb, length}
use mathlib.Core.List.{List, [], ◌∷◌, Memᴰ}

-- some number below k has f
unfoldable pub any : ℕ → (ℕ → Bool) → Bool
any zero f = false
any (suc k) f = any k f || f k

-- every number below k has f
unfoldable pub all : ℕ → (ℕ → Bool) → Bool
all zero f = true
all (suc k) f = all k f && f k

-- the sum of f over the numbers below k
unfoldable pub sum : ℕ → (ℕ → ℕ) → ℕ
sum zero f = 0
sum (suc k) f = sum k f + f k

-- 1 for a yes, 0 for a no
abbrev pub one : Bool → ℕ
one true = 1
one false = 0

-- how many numbers below k have f
unfoldable pub count : ℕ → (ℕ → Bool) → ℕ
unfolding sum
count k f = sum k (λ j. one (f j))

-- the least number below k that has f, and k where none has
unfoldable pub least : ℕ → (ℕ → Bool) → ℕ
least zero f = 0
least (suc k) f = cond (ltb (least k f) k) (least k f) (cond (f k) k (suc k))

-- ---- said plainly

-- b has P, and no number below b has
pub record Lowest (P : ℕ → Type 0) (b : ℕ) : Type 0 where
  pub has : P b
  pub none : (c : ℕ) → c < b → ¬ P c

-- no number stands in the list twice
pub data Distinct : List ℕ → Type 0 where
  empty : Distinct []
  more : {b : ℕ} {list : List ℕ} → ¬ Memᴰ b list → Distinct list → Distinct (b ∷ list)

-- the list has the numbers that have P, all of them and no others, each once
pub record Members (P : ℕ → Type 0) (list : List ℕ) : Type 0 where
  pub each : (b : ℕ) → Memᴰ b list → P b
  pub all : (b : ℕ) → P b → Memᴰ b list
  pub once : Distinct list

-- so many numbers have P: as many as a list of them is long
abbrev pub SoMany : (ℕ → Type 0) → ℕ → Type 0
SoMany P k = (list : List ℕ) × Members P list × (length list ≡ k)
