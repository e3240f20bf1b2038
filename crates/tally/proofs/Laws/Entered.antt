-- Items one after another: what two lists of them make, and what one more of the waits that a scan ended makes.
use Prim.Native.Nat.{ℕ, zero, suc, ◌<◌}
use mathlib.Core.Path.{◌≡◌, refl, sym, ap, ap₂, ◌∙◌}
use mathlib.Core.Logic.{◌⊎◌, inl, inr}
use mathlib.Core.List.{List, [], ◌∷◌, ◌++◌}
use mathlib.Core.Bool.{Bool, true, false, ◌&&◌, and_assoc}
use native.Mathlib.Omega.{arith}
use Rattle.objects.proofs.Laws.Below.{below_suc}
use Rattle.report.specs.declared.Figures.{Figures}
use Rattle.report.specs.Items.{Item, task_of, figures_at, fits, enter, entered, enterable}
use Rattle.tally.specs.Listed.{listed_wait, listed_waits}

-- ---- two lists

pub entered_both : (all : List Figures) (xs ys : List Item) → entered all (xs ++ ys) ≡ entered (entered all xs) ys
unfolding entered
entered_both all [] ys = refl
entered_both all (x ∷ xs) ys = entered_both (enter all x) xs ys

pub enterable_both : (all : List Figures) (xs ys : List Item) → enterable all (xs ++ ys) ≡ (enterable all xs && enterable (entered all xs) ys)
unfolding entered enterable
enterable_both all [] ys = refl
enterable_both all (x ∷ xs) ys =
    ap (λ (b : Bool). fits (figures_at all (task_of x)) x && b) (enterable_both (enter all x) xs ys)
    ∙ sym (and_assoc (fits (figures_at all (task_of x)) x) (enterable (enter all x) xs) (enterable (entered (enter all x) xs) ys))

-- ---- one item

and_yes : (b : Bool) → (b && true) ≡ b
and_yes true = refl
and_yes false = refl

pub enterable_one : (all : List Figures) (x : Item) → enterable all (x ∷ []) ≡ fits (figures_at all (task_of x)) x
unfolding enterable
enterable_one all x = and_yes (fits (figures_at all (task_of x)) x)

pub entered_one : (all : List Figures) (x : Item) → entered all (x ∷ []) ≡ enter all x
unfolding entered
entered_one all x = refl

pub enterable_none : (all : List Figures) → enterable all [] ≡ true
unfolding enterable
enterable_none all = refl

pub entered_none : (all : List Figures) → entered all [] ≡ all
unfolding entered
entered_none all = refl

-- ---- the waits that a scan ended

module _ (list : List ℕ) (tick : ℕ) (all : List Figures) where
  abbrev waits : ℕ → List Item
  waits k = listed_waits list tick k

  abbrev item : ℕ → Item
  item k = listed_wait list tick k

  pub none_enterable : enterable all (waits 0) ≡ true
  unfolding listed_waits
  none_enterable = enterable_none all

  pub none_entered : entered all (waits 0) ≡ all
  unfolding listed_waits
  none_entered = entered_none all

  pub more_entered : (k : ℕ) → entered all (waits (suc k)) ≡ enter (entered all (waits k)) (item k)
  unfolding listed_waits
  more_entered k = entered_both all (waits k) (item k ∷ []) ∙ entered_one (entered all (waits k)) (item k)

  more_enterable : (k : ℕ) → enterable all (waits (suc k)) ≡ (enterable all (waits k) && fits (figures_at (entered all (waits k)) (task_of (item k))) (item k))
  unfolding listed_waits
  more_enterable k =
      enterable_both all (waits k) (item k ∷ [])
      ∙ ap (λ (b : Bool). enterable all (waits k) && b) (enterable_one (entered all (waits k)) (item k))

  -- one more fits, or not, as its own totals say
  pub fits_more : (k : ℕ) (b : Bool) → enterable all (waits k) ≡ true → fits (figures_at (entered all (waits k)) (task_of (item k))) (item k) ≡ b
      → enterable all (waits (suc k)) ≡ b
  fits_more k b e q = more_enterable k ∙ ap₂ (λ (x y : Bool). x && y) e q

  -- and where one does not fit, no more make it fit
  pub stays_out : (k count : ℕ) → k < count → enterable all (waits (suc k)) ≡ false → enterable all (waits count) ≡ false
  stays_out k zero l e = absurd (omega arith)
  stays_out k (suc count) l e = go (below_suc k count l) (λ m. stays_out k count m e)
    where
      go : (k ≡ count) ⊎ (k < count) → (k < count → enterable all (waits count) ≡ false) → enterable all (waits (suc count)) ≡ false
      go (inl q) out = ap (λ (j : ℕ). enterable all (waits (suc j))) (sym q) ∙ e
      go (inr m) out =
          more_enterable count ∙ ap (λ (b : Bool). b && fits (figures_at (entered all (waits count)) (task_of (item count))) (item count)) (out m)
