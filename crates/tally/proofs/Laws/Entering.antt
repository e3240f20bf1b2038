-- What entering items makes: of figures, of items after others, of a tally and of the row.
use Prim.Native.Nat.{ℕ}
use mathlib.Core.Path.{◌≡◌, refl, sym, ap, ap₂, ◌∙◌}
use mathlib.Core.Bool.{Bool, true, false, cond, ◌&&◌, false≢true}
use mathlib.Core.List.{List, [], ◌++◌}
use Rattle.std.specs.declared.result.Result.{Result}
use Rattle.std.specs.declared.result.Result.TheVariants.{Ok, Err}
use Rattle.rules.specs.declared.Refusal.{Refusal}
use Rattle.rules.specs.declared.Refusal.TheVariants.{TotalPasses}
use Rattle.report.specs.declared.Figures.{Figures}
use Rattle.report.specs.declared.Tally.{Tally}
use Rattle.report.specs.Items.{Item, entered, enterable, waits_booked, waits_in, written}
use Rattle.report.specs.Booking.{with_figures}
use Rattle.tally.specs.Listed.{entering, row_entering}
use Rattle.tally.specs.Parts.{verdict, Enters}
use Rattle.tally.proofs.Laws.Entered.{entered_both, enterable_both, enterable_none, entered_none}

-- ---- of figures

pub taken : (all : List Figures) (new : List Item) (left : List Figures) → enterable all new ≡ true → left ≡ entered all new
    → Enters all new (Ok tt) left
taken all new left fit is = record { fits = sym (ap verdict fit); figures = λ yes. is }

pub refused : (all : List Figures) (new : List Item) (result : Result (Unit {0}) Refusal) (left : List Figures) → enterable all new ≡ false
    → result ≡ Err TotalPasses → Enters all new result left
refused all new result left out is = record { fits = is ∙ sym (ap verdict out); figures = λ yes. absurd (false≢true (sym out ∙ yes)) }

module _ (all : List Figures) (new : List Item) (left : List Figures) where
  pub fit : Enters all new (Ok tt) left → enterable all new ≡ true
  fit enters = go (enterable all new) enters.fits
    where
      go : (b : Bool) → Ok tt ≡ verdict b → b ≡ true
      go true e = refl
      go false e = absurd (cc)

  pub is : Enters all new (Ok tt) left → left ≡ entered all new
  is enters = enters.figures (fit enters)

  pub out : (refusal : Refusal) → Enters all new (Err refusal) left → (enterable all new ≡ false) × (refusal ≡ TotalPasses)
  out refusal enters = go (enterable all new) enters.fits
    where
      go : (b : Bool) → Err refusal ≡ verdict b → (b ≡ false) × (refusal ≡ TotalPasses)
      go true e = absurd (cc)
      go false e = (refl, cc)

-- no items
pub none_taken : (all : List Figures) → Enters all [] (Ok tt) all
none_taken all = taken all [] all (enterable_none all) (sym (entered_none all))

-- items after others
module _ (all between : List Figures) (xs ys : List Item) where
  pub both_enter : (result : Result (Unit {0}) Refusal) (left : List Figures) → Enters all xs (Ok tt) between → Enters between ys result left
      → Enters all (xs ++ ys) result left
  both_enter result left first second =
      let between_is : between ≡ entered all xs = is all xs between first in
      let same : enterable all (xs ++ ys) ≡ enterable between ys =
      enterable_both all xs ys
      ∙ ap₂ (λ (b : Bool) (fs : List Figures). b && enterable fs ys) (fit all xs between first) (sym between_is)
      in record {
        fits = second.fits ∙ sym (ap verdict same);
        figures = λ yes. second.figures (sym same ∙ yes) ∙ ap (λ (fs : List Figures). entered fs ys) between_is ∙ sym (entered_both all xs ys);
      }

  pub first_out : (refusal : Refusal) → Enters all xs (Err refusal) between → Enters all (xs ++ ys) (Err refusal) between
  first_out refusal first =
      let outs = out all xs between refusal first in
      refused all (xs ++ ys) (Err refusal) between
      (enterable_both all xs ys ∙ ap (λ (b : Bool). b && enterable (entered all xs) ys) outs.0) (ap Err outs.1)

-- ---- of a tally and of the row

abbrev answer : Tally → List Item → Bool → Result Tally Refusal
answer t new fits = cond fits (Ok (with_figures t (entered t.figures new))) (Err TotalPasses)

-- with 41, and with 0
pub left_out : (t : Tally) (new : List Item) (row : List ℕ) (refusal : Refusal) (left : List Figures) → Enters t.figures new (Err refusal) left
    → (Err refusal ≡ entering t new) × (row ≡ row_entering t new row)
unfolding entering row_entering
left_out t new row refusal left enters =
    let outs = out t.figures new left refusal enters in (
      ap Err outs.1 ∙ sym (ap (answer t new) outs.0),
      sym (ap (λ (b : Bool). cond b (written row (waits_booked t.figures) (waits_in new)) row) outs.0),
    )

pub taken_in : (t : Tally) (new : List Item) (row : List ℕ) (left : List Figures) → Enters t.figures new (Ok tt) left
    → (Ok (with_figures t left) ≡ entering t new) × (written row (waits_booked t.figures) (waits_in new) ≡ row_entering t new row)
unfolding entering row_entering
taken_in t new row left enters =
    let fits = fit t.figures new left enters in (
      ap (λ (fs : List Figures). Ok (with_figures t fs)) (is t.figures new left enters) ∙ sym (ap (answer t new) fits),
      sym (ap (λ (b : Bool). cond b (written row (waits_booked t.figures) (waits_in new)) row) fits),
    )
