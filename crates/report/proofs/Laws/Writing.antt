-- The row: waits that are written later go on where the earlier ones ended. And where they ended is the number of waits that the figures have, of all tasks.
use Prim.Native.Nat.{ℕ, ◌+◌, ◌<◌}
use mathlib.Core.Path.{◌≡◌, refl, sym, ap, ◌∙◌}
use mathlib.Core.List.{List, [], ◌∷◌, ◌++◌}
use native.Mathlib.Nat.{add-zero}
use native.Mathlib.Omega.{arith}
use lib.Dec.{eqb}
use lib.ListN.{length}
use borrow.Author.Tests.{eq-eqb, ne_eqb}
use Rattle.objects.specs.Below.{one, sum}
use Rattle.objects.proofs.Laws.Below.{sum_ext, sum_add, sum_zero, sum_change}
use Rattle.report.specs.declared.Figures.{Figures}
use Rattle.report.specs.Items.{Item, commit, wait, figures_at, waits_booked, waits_in, put_wait, written}
use Rattle.report.specs.Ledger.{total, wait_is, figures_of}
use Rattle.report.proofs.Laws.Entering.{Numbered, none, more, Agree}

-- ---- the row

pub waits_append : (xs ys : List Item) → waits_in (xs ++ ys) ≡ waits_in xs ++ waits_in ys
unfolding waits_in
waits_append [] ys = refl
waits_append (commit i waited ∷ xs) ys = waits_append xs ys
waits_append (wait i ticks clashes retries ∷ xs) ys = ap (λ (more : List ℕ). ticks ∷ more) (waits_append xs ys)

pub written_append : (row : List ℕ) (i : ℕ) (ws vs : List ℕ) → written row i (ws ++ vs) ≡ written (written row i ws) (i + length ws) vs
unfolding written
written_append row i [] vs = rw add-zero
written_append row i (w ∷ ws) vs =
    written_append (put_wait row i w) (i + 1) ws vs
    ∙ ap (λ (k : ℕ). written (written (put_wait row i w) (i + 1) ws) k vs) (omega arith)

-- ---- how many waits

-- of all tasks one has the number j
one_has : (k j : ℕ) → j < k → sum k (λ i. one (eqb j i)) ≡ 1
one_has k j l =
    omega (
      arith,
      sum_change k (λ i. one (eqb j i)) (λ i. 0) j l (λ i m d. ap one (ne_eqb j i (λ q. d (sym q)))),
      sum_zero k (λ i. 0) (λ i m. refl),
      ap one (eq-eqb j j refl),
    )

waits_summed : {booked : List Item} → Numbered booked → sum 64 (λ i. total (wait_is i) booked) ≡ length (waits_in booked)
unfolding total waits_in
waits_summed none = sum_zero 64 (λ i. 0) (λ i l. refl)
waits_summed (more {x = commit j waited} {xs = xs} l p) =
    omega (arith, sum_add 64 (λ i. 0) (λ i. total (wait_is i) xs), sum_zero 64 (λ i. 0) (λ i m. refl), waits_summed p)
waits_summed (more {x = wait j ticks clashes retries} {xs = xs} l p) =
    omega (arith, sum_add 64 (λ i. one (eqb j i)) (λ i. total (wait_is i) xs), one_has 64 j l, waits_summed p)

-- the figures have as many waits as are booked
pub waits_counted : {figures : List Figures} {booked : List Item} → Agree figures booked → Numbered booked
    → waits_booked figures ≡ length (waits_in booked)
unfolding waits_booked figures_of
waits_counted {figures} {booked} p q =
    sum_ext 64 (λ i. (figures_at figures i).waits) (λ i. total (wait_is i) booked) (λ i l. ap (λ (f : Figures). f.waits) (p.each i l)) ∙ waits_summed q
