-- The sets of the tasks in their rows of words: four words replaced are the new ones at their own task and no other anywhere else. And a clash goes by the
-- four groups alone, so sets that agree on them clash alike.
use Prim.Native.Nat.{ℕ, zero, suc, ◌+◌, ◌*◌, ◌/◌, ◌%◌, ◌≤◌, ◌<◌}
use mathlib.Core.Path.{◌≡◌, refl, sym, ap, ◌∙◌}
use mathlib.Core.Logic.{◌≢◌}
use mathlib.Core.List.{List}
use native.Mathlib.Nat.{add-zero}
use native.Mathlib.Omega.{arith}
use lib.ListN.{length, get_or, set, replicate, length-set}
use lib.Seq.{get_or-set_same, get_or-set_other}
use Rattle.objects.specs.Below.{any}
use Rattle.objects.specs.Objects.{Groups, Sets, bit, has, clash_on, clash}
use Rattle.objects.proofs.Laws.Below.{any_ext}
use Rattle.rules.specs.Tasks.{with_groups}

-- ---- rows

-- a row of one value has it at every place, and past its end
pub filled_with : {A : Type 0} (n k : ℕ) (x : A) → get_or (replicate n x) k x ≡ x
filled_with zero k x = refl
filled_with (suc n) zero x = refl
filled_with (suc n) (suc k) x = filled_with n k x

-- four words put beside each other, from a place on
abbrev pub four_from : List ℕ → ℕ → List ℕ → List ℕ
four_from row at words =
    set (set (set (set row at (get_or words 0 0)) (at + 1) (get_or words 1 0)) (at + 2) (get_or words 2 0)) (at + 3) (get_or words 3 0)

module _ (row : List ℕ) (at : ℕ) (words : List ℕ) where
  abbrev one_word : List ℕ
  one_word = set row at (get_or words 0 0)

  abbrev two_words : List ℕ
  two_words = set one_word (at + 1) (get_or words 1 0)

  abbrev three_words : List ℕ
  three_words = set two_words (at + 2) (get_or words 2 0)

  -- the row stays as long
  pub four_length : length (four_from row at words) ≡ length row
  four_length = simp length-set

  -- a place that is none of the four is as it was
  pub four_kept : (q : ℕ) → ((g : ℕ) → g < 4 → at + g ≢ q) → get_or (four_from row at words) q 0 ≡ get_or row q 0
  four_kept q apart =
      get_or-set_other three_words (at + 3) q (get_or words 3 0) 0 (λ e. apart 3 (omega arith) (sym e))
      ∙ get_or-set_other two_words (at + 2) q (get_or words 2 0) 0 (λ e. apart 2 (omega arith) (sym e))
      ∙ get_or-set_other one_word (at + 1) q (get_or words 1 0) 0 (λ e. apart 1 (omega arith) (sym e))
      ∙ get_or-set_other row at q (get_or words 0 0) 0 (λ e. apart 0 (omega arith) (omega arith))

  -- the four have the words
  pub four_put_lem : (g : ℕ) → at + 4 ≤ length row → g < 4 → get_or (four_from row at words) (at + g) 0 ≡ get_or words g 0
  four_put_lem zero size l =
      ap (λ (k : ℕ). get_or (four_from row at words) k 0) (add-zero at)
      ∙ get_or-set_other three_words (at + 3) at (get_or words 3 0) 0 (omega arith)
      ∙ get_or-set_other two_words (at + 2) at (get_or words 2 0) 0 (omega arith)
      ∙ get_or-set_other one_word (at + 1) at (get_or words 1 0) 0 (omega arith)
      ∙ get_or-set_same row at (get_or words 0 0) 0 (omega arith)
  four_put_lem (suc zero) size l =
      get_or-set_other three_words (at + 3) (at + 1) (get_or words 3 0) 0 (omega arith)
      ∙ get_or-set_other two_words (at + 2) (at + 1) (get_or words 2 0) 0 (omega arith)
      ∙ get_or-set_same one_word (at + 1) (get_or words 1 0) 0 (simp length-set (omega arith))
  four_put_lem (suc (suc zero)) size l =
      get_or-set_other three_words (at + 3) (at + 2) (get_or words 3 0) 0 (omega arith)
      ∙ get_or-set_same two_words (at + 2) (get_or words 2 0) 0 (simp length-set (omega arith))
  four_put_lem (suc (suc (suc zero))) size l = get_or-set_same three_words (at + 3) (get_or words 3 0) 0 (simp length-set (omega arith))
  four_put_lem (suc (suc (suc (suc g)))) size l = absurd (omega arith)

-- those of task i
module _ (row : List ℕ) (i : ℕ) (words : List ℕ) where
  pub groups_length : length (with_groups row i words) ≡ length row
  groups_length = four_length row (i * 4) words

  pub groups_other : (j g : ℕ) → j ≢ i → g < 4 → get_or (with_groups row i words) (j * 4 + g) 0 ≡ get_or row (j * 4 + g) 0
  groups_other j g d l = four_kept row (i * 4) words (j * 4 + g) (λ h m. omega arith)

  pub groups_same : (g : ℕ) → length row ≡ 256 → i < 64 → g < 4 → get_or (with_groups row i words) (i * 4 + g) 0 ≡ get_or words g 0
  groups_same g size li l = four_put_lem row (i * 4) words g (omega arith) l

-- ---- clashes

-- two sets of objects have the same four groups
abbrev pub SameGroups : Groups → Groups → Type 0
SameGroups a b = (g : ℕ) → g < 4 → a g ≡ b g

pub record Agree (x y : Sets) : Type 0 where
  pub reads : SameGroups x.reads y.reads
  pub writes : SameGroups x.writes y.writes

has_agree : (a b : Groups) → SameGroups a b → (o : ℕ) → o < 256 → has a o ≡ has b o
unfolding has
has_agree a b same o l = ap (λ (w : ℕ). bit w (o % 64)) (same (o / 64) (omega arith))

pub clash_is : (x y : Sets) → clash x y ≡ any 256 (clash_on x y)
unfolding clash
clash_is x y = refl

pub on_agree : (x y z v : Sets) → Agree x z → Agree y v → (o : ℕ) → o < 256 → clash_on x y o ≡ clash_on z v o
unfolding clash_on
on_agree x y z v p q o l =
    rw (
      has_agree x.reads z.reads p.reads o l,
      has_agree x.writes z.writes p.writes o l,
      has_agree y.reads v.reads q.reads o l,
      has_agree y.writes v.writes q.writes o l,
    )

pub clash_agree : (x y z v : Sets) → Agree x z → Agree y v → clash x y ≡ clash z v
clash_agree x y z v p q = clash_is x y ∙ any_ext 256 (clash_on x y) (clash_on z v) (on_agree x y z v p q) ∙ sym (clash_is z v)
