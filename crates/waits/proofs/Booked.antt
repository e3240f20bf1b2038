-- How many waits are booked: the sum over the tasks, and over the list of their figures, which each have fewer than 2 ^ 32.
use Prim.Native.Nat.{ℕ, ◌+◌, ◌*◌, ◌≤◌, ◌<◌, ◌^◌}
use mathlib.Core.Path.{◌≡◌, sym, ap, ◌∙◌}
use mathlib.Core.List.{List, [], ◌∷◌}
use native.Mathlib.Omega.{arith}
use lib.ListN.{length}
use mir.Val.{Val}
use denote.Array.{each}
use denote.Shadow.{shadow}
use Rattle.std.specs.List.{sum_by}
use Rattle.std.proofs.lemmas.List.Sums.{sum_by-cons}
use Rattle.objects.specs.Below.{sum}
use Rattle.objects.proofs.Laws.Below.{sum_empty, sum_first}
use Rattle.report.specs.declared.Figures.{Figures}
use Rattle.report.specs.contracts.Figures as figures
use Rattle.report.specs.Items.{figures_at, waits_booked}

abbrev pub waits_of : Figures → ℕ
waits_of f = f.waits

-- ---- the sum over the list

sum_of_all : (all : List Figures) → sum (length all) (λ j. (figures_at all j).waits) ≡ sum_by waits_of all
sum_of_all [] = sum_empty (λ j. (figures_at [] j).waits)
sum_of_all (f ∷ all) =
    sum_first (length all) (λ j. (figures_at (f ∷ all) j).waits) ∙ ap (λ (n : ℕ). f.waits + n) (sum_of_all all) ∙ sym (sum_by-cons waits_of f all)

pub booked_is : (all : List Figures) → length all ≡ 64 → sum_by waits_of all ≡ waits_booked all
unfolding waits_booked
booked_is all size = sym (sum_of_all all) ∙ ap (λ (k : ℕ). sum k (λ j. (figures_at all j).waits)) size

-- ---- that it is held in 40 bits

-- what is told of figures, each at its machine value
abbrev pub Told : List Figures → List Val → Type 0
Told all values = shadow (each (figures.the_row).Denot (figures.the_row).own_val all values)

most : (all : List Figures) (values : List Val) → Told all values → sum_by waits_of all ≤ length all * 4294967295
most [] values told = omega arith
most (f ∷ all) [] told = absurd told
most (f ∷ all) (v ∷ values) told =
    let here : f.waits < 2 ^ 32 = told.0.1.1.1.1.1.1.1.1.0.1 in
    omega (arith, sum_by-cons waits_of f all, most all values told.1)

pub booked_fits : (all : List Figures) (values : List Val) → length all ≡ 64 → Told all values → sum_by waits_of all < 2 ^ 40
booked_fits all values size told = omega (arith, most all values told)
