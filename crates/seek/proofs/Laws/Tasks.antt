-- The tasks of a word as a list, lowest first: a walk that takes the lowest one out of the word at each turn comes by the list, and what is asked of each of
-- the list's is asked of each bit of the word.
use Prim.Native.Nat.{ℕ, zero, suc, ◌%◌, ◌^◌, ◌<◌}
use mathlib.Core.Path.{◌≡◌, refl, sym, ap, ap₂, ◌∙◌}
use mathlib.Core.Logic.{◌≢◌, ◌⊎◌, inl, inr}
use mathlib.Core.List.{List, [], ◌∷◌, ◌++◌}
use mathlib.Core.Bool.{Bool, true, false, cond, not, ◌&&◌, ◌||◌, or-false, and-true, and-false}
use native.Mathlib.Nat.{not-suc-le-zero, lt-suc_self, mod-eq_of_lt}
use native.Mathlib.Omega.{arith}
use lib.Dec.{eqb}
use borrow.Author.Tests.{eq-eqb, ne_eqb}
use Rattle.std.specs.List.{list_any}
use Rattle.std.proofs.lemmas.List.Folds.{list_any-append}
use Rattle.objects.specs.Below.{any}
use Rattle.objects.specs.Objects.{bit}
use Rattle.objects.proofs.Laws.Below.{below_less, below_suc}
use Rattle.objects.proofs.Laws.Bits.{bit_zero}
use Rattle.machine.specs.Bits.{without_bit, lowest}
use Rattle.machine.proofs.Laws.Bits.{without_bit_lem}
use Rattle.seek.specs.Tasks.{those_below, tasks_in}
use Rattle.seek.proofs.Laws.Ones.{lowest_lt, lowest_one, lowest_before}

-- ---- the numbers below k that have f

those_none : (k : ℕ) (f : ℕ → Bool) → ((j : ℕ) → j < k → f j ≡ false) → those_below k f ≡ []
unfolding those_below
those_none zero f h = refl
those_none (suc k) f h = rw (those_none k f (below_less k (λ j. f j ≡ false) h), h k (lt-suc_self k))

those_ext : (k : ℕ) (f g : ℕ → Bool) → ((j : ℕ) → j < k → f j ≡ g j) → those_below k f ≡ those_below k g
unfolding those_below
those_ext zero f g h = refl
those_ext (suc k) f g h =
    ap₂ (λ (xs : List ℕ) (b : Bool). xs ++ cond b (k ∷ []) []) (those_ext k f g (below_less k (λ j. f j ≡ g j) h)) (h k (lt-suc_self k))

-- the lowest, and then the others
those_first : (k p : ℕ) (f : ℕ → Bool) → p < k → f p ≡ true → ((j : ℕ) → j < p → f j ≡ false)
    → those_below k f ≡ p ∷ those_below k (λ j. f j && not (eqb j p))
unfolding those_below
those_first zero p f l e h = absurd (not-suc-le-zero l)
those_first (suc k) p f l e h = go (λ m. those_first k p f m e h) (below_suc p k l)
  where
    others : ℕ → Bool
    others j = f j && not (eqb j p)

    go : (p < k → those_below k f ≡ p ∷ those_below k others) → (p ≡ k) ⊎ (p < k)
        → those_below k f ++ cond (f k) (k ∷ []) [] ≡ p ∷ (those_below k others ++ cond (others k) (k ∷ []) [])
    go rest (inl q) =
        let none : those_below k f ≡ [] = those_none k f (λ j m. h j (omega arith)) in
        let after : those_below k others ≡ [] = those_none k others (λ j m. ap (λ (b : Bool). b && not (eqb j p)) (h j (omega arith))) in
        let has : f k ≡ true = ap f (sym q) ∙ e in
        let lacks : others k ≡ false = ap (λ (b : Bool). f k && not b) (eq-eqb k p (sym q)) ∙ and-false (f k) in
        rw (none, after, lacks, has) (ap (λ (x : ℕ). x ∷ []) (sym q))
    go rest (inr m) =
        let same : others k ≡ f k = ap (λ (b : Bool). f k && not b) (ne_eqb k p (λ q. absurd (omega arith))) ∙ and-true (f k) in
        rw (rest m, same)

-- some of them has p
those_any : (k : ℕ) (f p : ℕ → Bool) → list_any p (those_below k f) ≡ any k (λ j. f j && p j)
unfolding those_below any
those_any zero f p = refl
those_any (suc k) f p =
    list_any-append p (those_below k f) (cond (f k) (k ∷ []) []) ∙ ap₂ (λ (a b : Bool). a || b) (those_any k f p) (last (f k))
  where
    last : (b : Bool) → list_any p (cond b (k ∷ []) []) ≡ (b && p k)
    last true = or-false (p k)
    last false = refl

-- ---- the tasks of a word

pub tasks_none : (x : ℕ) → x ≡ 0 → tasks_in x ≡ []
unfolding tasks_in
tasks_none x e = those_none 64 (bit x) (λ j l. ap (λ (y : ℕ). bit y j) e ∙ bit_zero j)

-- a turn of the walk
pub tasks_first : (x task less : ℕ) → x < 2 ^ 64 → x ≢ 0 → task ≡ lowest x → less ≡ without_bit x (task % 64) → tasks_in x ≡ task ∷ tasks_in less
unfolding tasks_in
tasks_first x task less l n e d =
    let some : lowest x < 64 = lowest_lt x l n in
    let same : task % 64 ≡ lowest x = ap (λ (t : ℕ). t % 64) e ∙ mod-eq_of_lt some in
    those_first 64 (lowest x) (bit x) some (lowest_one x some) (lowest_before x)
    ∙ ap₂ (λ (t : ℕ) (ts : List ℕ). t ∷ ts) (sym e)
    (those_ext 64 (λ j. bit x j && not (eqb j (lowest x))) (bit less)
    (λ j m. sym (ap (λ (y : ℕ). bit y j) (d ∙ ap (without_bit x) same) ∙ without_bit_lem x (lowest x) j m)))

-- some task of the word has p
pub tasks_any : (x : ℕ) (p : ℕ → Bool) → list_any p (tasks_in x) ≡ any 64 (λ j. bit x j && p j)
unfolding tasks_in
tasks_any x p = those_any 64 (bit x) p
