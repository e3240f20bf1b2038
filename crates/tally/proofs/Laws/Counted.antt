-- One item into the figures of its task: where no total passes it is entered, and else it is refused.
use mathlib.Core.Path.{◌≡◌, refl, sym, ap, ◌∙◌}
use mathlib.Core.Bool.{Bool, true, false}
use mathlib.Core.List.{List}
use lib.ListN.{set}
use Rattle.std.specs.Option.{ok_or}
use Rattle.std.specs.Result.{IsErrAnd}
use Rattle.std.specs.declared.option.Option.{Option}
use Rattle.std.specs.declared.option.Option.TheVariants.{Some, None}
use Rattle.std.specs.declared.result.Result.{Result}
use Rattle.std.specs.declared.result.Result.TheVariants.{Ok, Err}
use Rattle.rules.specs.declared.Refusal.{Refusal}
use Rattle.rules.specs.declared.Refusal.TheVariants.{TotalPasses}
use Rattle.report.specs.declared.Figures.{Figures}
use Rattle.report.specs.Items.{Item, task_of, after, fits, figures_at, enter}
use Rattle.tally.specs.Parts.{counted_by, counted}

module _ (f : Figures) (x : Item) (made : Option Figures) (is : made ≡ counted f x) where
  pub fits_is : (g : Figures) → made ≡ Some g → (fits f x ≡ true) × (g ≡ after f x)
  fits_is g some = go (fits f x) (sym is ∙ some)
    where
      go : (b : Bool) → counted_by b f x ≡ Some g → (b ≡ true) × (g ≡ after f x)
      go true e = (refl, cc)
      go false e = absurd (cc)

  pub passes_is : made ≡ None → fits f x ≡ false
  passes_is none = go (fits f x) (sym is ∙ none)
    where
      go : (b : Bool) → counted_by b f x ≡ None → b ≡ false
      go true e = absurd (cc)
      go false e = refl

-- its figures, set in those of all tasks
pub set_is : (all : List Figures) (x : Item) (g : Figures) → g ≡ after (figures_at all (task_of x)) x → set all (task_of x) g ≡ enter all x
set_is all x g is = ap (set all (task_of x)) is

-- what a function returns that is refused by an item
pub total_passes : (made : Option Figures) (refusal : Refusal) (result : Result (Unit {0}) Refusal) → made ≡ None
    → Err refusal ≡ ok_or made TotalPasses → IsErrAnd result (λ other. other ≡ refusal) → result ≡ Err TotalPasses
total_passes made refusal (Ok x) none is same = absurd same
total_passes made refusal (Err other) none is same =
    let passes : ◌≡◌ {A = Result Figures Refusal} (Err refusal) (Err TotalPasses) = is ∙ ap (λ (m : Option Figures). ok_or m TotalPasses) none in
    cc
