-- The figures of two lists, one after the other, are those of each put together; and what one item more makes of a task's figures.
use Prim.Native.Nat.{ℕ, ◌+◌, max}
use mathlib.Core.Path.{◌≡◌, refl, ◌∙◌}
use mathlib.Core.Logic.{◌≢◌}
use mathlib.Core.List.{List, [], ◌∷◌, ◌++◌}
use native.Mathlib.Nat.{add-zero, max-zero}
use native.Mathlib.Omega.{arith}
use borrow.Author.Tests.{eq-eqb, ne_eqb}
use Rattle.report.specs.declared.Figures.{Figures}
use Rattle.report.specs.Items.{Item, commit, wait, task_of, after}
use Rattle.report.specs.Ledger.{total, greatest, commit_is, waited_is, clashes_in, retries_in, ticks_in, wait_is, figures_of}

pub total_append : (f : Item → ℕ) (xs ys : List Item) → total f (xs ++ ys) ≡ total f xs + total f ys
unfolding total
total_append f [] ys = omega arith
total_append f (x ∷ xs) ys = omega (arith, total_append f xs ys)

pub greatest_append : (f : Item → ℕ) (xs ys : List Item) → greatest f (xs ++ ys) ≡ max (greatest f xs) (greatest f ys)
unfolding greatest
greatest_append f [] ys = omega arith
greatest_append f (x ∷ xs) ys = omega (arith, greatest_append f xs ys)

abbrev pub added : Figures → Figures → Figures
added f g = record {
  committed = f.committed + g.committed;
  waited = f.waited + g.waited;
  clashes = f.clashes + g.clashes;
  retries = f.retries + g.retries;
  longest = max f.longest g.longest;
  ticks = f.ticks + g.ticks;
  waits = f.waits + g.waits;
}

pub figures_append : (i : ℕ) (xs ys : List Item) → figures_of i (xs ++ ys) ≡ added (figures_of i xs) (figures_of i ys)
unfolding figures_of
figures_append i xs ys =
    rw (
      total_append (commit_is i) xs ys,
      total_append (waited_is i) xs ys,
      total_append (clashes_in i) xs ys,
      total_append (retries_in i) xs ys,
      greatest_append (ticks_in i) xs ys,
      total_append (ticks_in i) xs ys,
      total_append (wait_is i) xs ys,
    )

-- one item more, of this task and of another
one_own : (f : Figures) (x : Item) → added f (figures_of (task_of x) (x ∷ [])) ≡ after f x
unfolding figures_of total greatest
one_own f (commit i waited) = rw (eq-eqb i i refl) (simp (add-zero, max-zero))
one_own f (wait i ticks clashes retries) = rw (eq-eqb i i refl) (simp (add-zero, max-zero))

one_other : (i : ℕ) (f : Figures) (x : Item) → task_of x ≢ i → added f (figures_of i (x ∷ [])) ≡ f
unfolding figures_of total greatest
one_other i f (commit j waited) d = rw (ne_eqb j i d) (simp (add-zero, max-zero))
one_other i f (wait j ticks clashes retries) d = rw (ne_eqb j i d) (simp (add-zero, max-zero))

pub figures_own : (xs : List Item) (x : Item) → figures_of (task_of x) (xs ++ (x ∷ [])) ≡ after (figures_of (task_of x) xs) x
figures_own xs x = figures_append (task_of x) xs (x ∷ []) ∙ one_own (figures_of (task_of x) xs) x

pub figures_other : (i : ℕ) (xs : List Item) (x : Item) → task_of x ≢ i → figures_of i (xs ++ (x ∷ [])) ≡ figures_of i xs
figures_other i xs x d = figures_append i xs (x ∷ []) ∙ one_other i (figures_of i xs) x d
