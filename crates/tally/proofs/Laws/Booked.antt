-- A booking is its parts: what the manager answers, whether the transactions had waited, and what the items of an accepted event make of the tally and of the row.
use Prim.Native.Nat.{ℕ, zero, suc, ◌%◌, min}
use mathlib.Core.Path.{◌≡◌, refl, sym, ap, ap₂, ◌∙◌}
use mathlib.Core.Logic.{◌≢◌}
use mathlib.Core.Bool.{Bool, true, false, cond, ◌&&◌}
use mathlib.Core.List.{List, [], ◌∷◌, ◌++◌}
use native.Mathlib.Omega.{arith}
use lib.Dec.{eqb}
use lib.ListN.{get_or}
use borrow.Author.Tests.{ne_eqb}
use Rattle.std.specs.declared.result.Result.{Result}
use Rattle.std.specs.declared.result.Result.TheVariants.{Ok, Err}
use Rattle.rules.specs.declared.Refusal.{Refusal}
use Rattle.rules.specs.declared.Refusal.TheVariants.{TotalPasses}
use Rattle.rules.specs.declared.Task.{Task}
use Rattle.rules.specs.declared.Event.{Event}
use Rattle.rules.specs.declared.Said.{Said}
use Rattle.rules.specs.declared.Admission.{Admission}
use Rattle.rules.specs.declared.Admissions.{Admissions}
use Rattle.rules.specs.declared.Answer.{Answer}
use Rattle.rules.specs.Answers.{number}
use Rattle.rules.specs.Refusals.{result_number}
use Rattle.rules.specs.Ranking.{by_rank}
use Rattle.rules.specs.Events.{step}
use Rattle.rules.specs.History.{is_commit}
use Rattle.report.specs.declared.Tally.{Tally}
use Rattle.report.specs.declared.OpenSession.{OpenSession}
use Rattle.report.specs.declared.WithBooked.{WithBooked}
use Rattle.report.specs.Items.{Item, commit, entered, enterable, waits_booked, waits_in, written}
use Rattle.report.specs.Booking.{wait_items, items_in, items, waited_after, book_number, with_figures, booking, row_after}
use Rattle.tally.specs.declared.Noted.{Noted}
use Rattle.tally.specs.Listed.{listed_waits, listed_items, entering, entering_number, tally_after, entering_tally, row_entering}
use Rattle.tally.specs.Parts.{Lists, answered}

-- ---- the items, by the list

-- a list that has the waits of the first admissions
pub waits_listed : (tasks : List Task) (tick : ℕ) (admitted : List Admission) (count : ℕ) (list : List ℕ) → Lists tasks tick admitted count list
    → listed_waits list tick count ≡ wait_items tasks tick admitted count
unfolding listed_waits wait_items
waits_listed tasks tick admitted zero list each = refl
waits_listed tasks tick admitted (suc k) list each =
    ap₂ (λ (xs : List Item) (x : Item). xs ++ (x ∷ [])) (waits_listed tasks tick admitted k list (λ j l. each j (omega arith))) (each k (omega arith))

-- what is noted of an event, and the list, book what its answer does
pub items_listed : (n : Noted) (list : List ℕ) (waited : List Bool) (tasks : List Task) (e : Event) (said : Said) (admitted : Admissions)
    → n.tick ≡ e.tick → n.commits ≡ (eqb (number said) 0 && is_commit e.kind) → n.task % 64 ≡ e.task → n.waited ≡ get_or waited e.task false
    → min n.admitted 16 ≡ admitted.count → Lists tasks e.tick admitted.list admitted.count list
    → listed_items n list ≡ items_in waited tasks e said admitted
unfolding listed_items
items_listed n list waited tasks e said admitted tick commits task had count each =
    ap₂ (λ (xs ys : List Item). xs ++ ys)
    (ap₂ (λ (b : Bool) (x : Item). cond b (x ∷ []) []) commits (ap₂ commit task had))
    (ap₂ (listed_waits list) tick count ∙ waits_listed tasks e.tick admitted.list admitted.count list each)

-- ---- the booking

module _ (t : Tally) (o : OpenSession) (e : Event) where
  abbrev pub answer : Answer
  answer = step by_rank o.session e

  -- what a function answers that has these parts
  abbrev pub made : Tally → ℕ → WithBooked
  made t' k = answered t' k answer.said answer.admitted (record { session = answer.session; waited = waited_after o.waited e answer.said })

  -- of the answer that the manager gave
  pub made_by : (a : Answer) (t' : Tally) (k : ℕ) (waited : List Bool) → a ≡ answer → waited ≡ waited_after o.waited e a.said
      → answered t' k a.said a.admitted (record { session = a.session; waited = waited }) ≡ made t' k
  made_by a t' k waited is w-is =
      ap (λ (w : List Bool). answered t' k a.said a.admitted (record { session = a.session; waited = w })) w-is
      ∙ ap (λ (x : Answer). answered t' k x.said x.admitted (record { session = x.session; waited = waited_after o.waited e x.said })) is

  -- by its number
  abbrev numbered : ℕ → WithBooked
  numbered k = made (cond (eqb k 0) (with_figures t (entered t.figures (items o e answer))) t) k

  abbrev row_by : List ℕ → ℕ → List ℕ
  row_by row k = cond (eqb k 0) (written row (waits_booked t.figures) (waits_in (items o e answer))) row

  booking_is : booking t o e ≡ numbered (book_number t o e)
  unfolding booking
  booking_is = refl

  row_is : (row : List ℕ) → row_after t o e row ≡ row_by row (book_number t o e)
  unfolding row_after
  row_is row = refl

  tried : ℕ → ℕ
  tried k = cond (eqb k 0) (cond (enterable t.figures (items o e answer)) 0 41) k

  number_is : book_number t o e ≡ tried (number answer.said)
  unfolding book_number tried
  number_is = refl

  -- an event that the manager refuses
  pub refused_is : (row : List ℕ) → number answer.said ≢ 0 → (booking t o e ≡ made t (number answer.said)) × (row_after t o e row ≡ row)
  unfolding tried
  refused_is row h =
      let no = ne_eqb (number answer.said) 0 h in
      let is : book_number t o e ≡ number answer.said = number_is ∙ ap (λ (b : Bool). cond b (cond (enterable t.figures (items o e answer)) 0 41) (number answer.said)) no in (
        booking_is ∙ ap numbered is
            ∙ ap (λ (b : Bool). made (cond b (with_figures t (entered t.figures (items o e answer))) t) (number answer.said)) no,
        row_is row ∙ ap (row_by row) is ∙ ap (λ (b : Bool). cond b (written row (waits_booked t.figures) (waits_in (items o e answer))) row) no,
      )

  -- one that it accepts: its items are entered, or with 41 none
  pub accepted_is : (row : List ℕ) → number answer.said ≡ 0 →
      let new = items o e answer in
      (booking t o e ≡ made (entering_tally t new) (entering_number t new)) × (row_after t o e row ≡ row_entering t new row)
  unfolding entering row_entering tried
  accepted_is row z =
      let is : book_number t o e ≡ cond (enterable t.figures (items o e answer)) 0 41 = number_is ∙ ap tried z in
      (booking_is ∙ ap numbered is ∙ by_fit (enterable t.figures (items o e answer)), row_is row ∙ ap (row_by row) is ∙ row_fit (enterable t.figures (items o e answer)))
    where
      entry : Bool → Result Tally Refusal
      entry fit = cond fit (Ok (with_figures t (entered t.figures (items o e answer)))) (Err TotalPasses)

      by_fit : (fit : Bool) → numbered (cond fit 0 41) ≡ made (tally_after t (entry fit)) (result_number (entry fit))
      by_fit true = refl
      by_fit false = refl

      row_fit : (fit : Bool) → row_by row (cond fit 0 41) ≡ cond fit (written row (waits_booked t.figures) (waits_in (items o e answer))) row
      row_fit true = refl
      row_fit false = refl

  -- by items that are those of the answer
  pub entered_is : (a : Answer) (new : List Item) (row : List ℕ) → a ≡ answer → number a.said ≡ 0
      → new ≡ items_in o.waited o.session.tasks e a.said a.admitted
      → (made (entering_tally t new) (entering_number t new) ≡ booking t o e) × (row_entering t new row ≡ row_after t o e row)
  unfolding items
  entered_is a new row is z New-is =
      let same : new ≡ items o e answer = New-is ∙ ap (λ (x : Answer). items_in o.waited o.session.tasks e x.said x.admitted) is in
      let both = accepted_is row (sym (ap (λ (x : Answer). number x.said) is) ∙ z) in (
        ap (λ (xs : List Item). made (entering_tally t xs) (entering_number t xs)) same ∙ sym both.0,
        ap (λ (xs : List Item). row_entering t xs row) same ∙ sym both.1,
      )
