-- The theorem: an induction over the sessions. While a session is open its calls are a run, so that each event books what history says of it; and what is booked keeps
-- the figures, the row and that every total fits.
use Prim.Native.Nat.{ℕ}
use mathlib.Core.Path.{◌≡◌, refl, sym, ap, ap₂, ◌∙◌}
use mathlib.Core.Logic.{◌⊎◌, inl, inr}
use mathlib.Core.List.{List, [], ◌∷◌, ◌++◌, append-nil, cons≢nil}
use mathlib.Core.Bool.{Bool, true, false, cond, ◌&&◌, false≢true}
use native.Mathlib.Nat.{zero-add}
use lib.Dec.{eqb}
use lib.ListN.{length, take, length-replicate, get_or-replicate}
use Rattle.objects.proofs.Laws.Below.{and_both, all_from}
use Rattle.rising.specs.Order.{in_rising}
use Rattle.rules.specs.declared.Setup.{Setup}
use Rattle.rules.specs.declared.Event.{Event}
use Rattle.rules.specs.declared.Answer.{Answer}
use Rattle.rules.specs.Answers.{number}
use Rattle.rules.specs.Ranking.{by_rank}
use Rattle.rules.specs.Setup.{setup_number, same_setup, fresh}
use Rattle.rules.specs.Events.{step}
use Rattle.rules.specs.History.{Call, heard}
use Rattle.rules.specs.Demand3.{begun as startsRun}
use Rattle.rules.proofs.Demand3.{fresh_starts}
use Rattle.report.specs.declared.Figures.{Figures}
use Rattle.report.specs.declared.Tally.{Tally}
use Rattle.report.specs.declared.WithOpened.{WithOpened}
use Rattle.report.specs.declared.OpenSession.{OpenSession}
use Rattle.report.specs.Items.{Item, no_figures, entered, enterable, waits_booked, waits_in, written}
use Rattle.report.specs.Booking.{empty_tally, opened, items, book_number, with_figures, booking, row_after}
use Rattle.report.specs.Ledger.{had_waited, books_of, total, greatest, figures_of, totals_fit, fitting, booked_with, booked_by, Sitting, ledger, all_same, last_of}
use Rattle.report.specs.Sheet.{kept_of, middle_place, nine_place, kept_in, middle, nine_tenths, last_waits, middle_of, nine_tenths_of}
use Rattle.report.specs.Row.{SameNumbers}
use Rattle.report.specs.Report.{Reported, begun, opens, books, InEveryReport, FiguresAre, RowIs, LeftOut, MiddleIs, NineTenthsIs, OneSetup}
use Rattle.report.proofs.Laws.Setups.{same_self, all_same_lem}
use Rattle.report.proofs.Laws.Opening.{opening_is, opens_setup, opens_same}
use Rattle.report.proofs.Laws.Entering.{Numbered, none, numbered_append, Agree, entered_agree, enterable_fitting}
use Rattle.report.proofs.Laws.Writing.{waits_append, written_append, waits_counted}
use Rattle.report.proofs.Laws.Row.{row_places, last_k}
use Rattle.report.proofs.Laws.Events.{Underway, Books, books as booksEvent, underway}

-- ---- a session that is open

fresh_underway : (v : Setup) → setup_number v ≡ 0 → Underway v (opened (fresh v)) []
unfolding had_waited
fresh_underway v good = record {
  starts = fresh_starts by_rank v good;
  run = startsRun;
  size = length-replicate 64 false;
  waited = λ i l. get_or-replicate 64 i false false l;
}

pub session : {u : Setup} {start : List ℕ} {t : Tally} {row : List ℕ} {o : OpenSession} {s : Sitting} {earlier : List Sitting}
    → Reported u start t row o (s ∷ earlier) → Underway s.setup o s.calls
unfolding booking
session (opens {t = t} r v z) = rw (opening_is t v z) (fresh_underway v (opens_setup t v z))
session (books {o = o} {s = s} r e) = underway s.setup o s.calls (session r) e

-- ---- what is booked

-- the tally and the row are those of what is booked, and it fits
pub record Holds (start : List ℕ) (t : Tally) (row : List ℕ) (booked : List Item) : Type 0 where
  pub agree : Agree t.figures booked
  pub numbered : Numbered booked
  pub fits : fitting booked ≡ true
  pub row_is : row ≡ written start 0 (waits_in booked)

empty_holds : (u : Setup) (start : List ℕ) → Holds start (empty_tally u) start []
unfolding empty_tally figures_of total greatest fitting waits_in written
empty_holds u start = record {
  agree = record { size = length-replicate 64 no_figures; each = λ i l. get_or-replicate 64 i no_figures no_figures l };
  numbered = none;
  fits = all_from 64 (λ i. totals_fit no_figures) (λ i l. refl);
  row_is = refl;
}

module _ (start : List ℕ) (t : Tally) (row : List ℕ) (o : OpenSession) (s : Sitting) (earlier : List Sitting) (p : Underway s.setup o s.calls)
    (holds : Holds start t row (ledger (s ∷ earlier))) (e : Event) where
  abbrev calls : List Call
  calls = s.calls

  abbrev a : Answer
  a = step by_rank o.session e

  abbrev booked : List Item
  booked = ledger (s ∷ earlier)

  abbrev new : List Item
  new = books_of s.setup (heard e a) calls

  event : Books s.setup o calls e a
  event = booksEvent s.setup o calls p e

  -- 41 is tried item by item, and is what is asked of the totals
  tried : enterable t.figures (items o e a) ≡ fitting (booked ++ new)
  tried = rw event.same (enterable_fitting holds.agree event.numbered holds.fits)

  -- the event is booked with all of its items, or with none
  abbrev Outcome : Bool → List Item → Type 0
  Outcome is booked' = ((is ≡ true) × (booked' ≡ booked ++ new) × (fitting (booked ++ new) ≡ true)) ⊎ ((is ≡ false) × (booked' ≡ booked))

  outcome : Outcome (eqb (book_number t o e) 0) (ledger (record { setup = s.setup; calls = heard e a ∷ calls } ∷ earlier))
  unfolding book_number ledger booked_by booked_with
  outcome = rw tried (go (eqb (number a.said) 0) refl (fitting (booked ++ new)) refl)
    where
      go : (accepts : Bool) → eqb (number a.said) 0 ≡ accepts → (f : Bool) → fitting (booked ++ new) ≡ f
          → Outcome (eqb (cond accepts (cond f 0 41) (number a.said)) 0) (cond f (booked ++ new) booked)
      go true z true f = inl (refl, refl, f)
      go true z false f = inr (refl, refl)
      go false z true f = inr (z, rw (event.idle z) (append-nil booked))
      go false z false f = inr (z, refl)

  holds_on : Holds start (booking t o e).tally (row_after t o e row) (ledger (record { setup = s.setup; calls = heard e a ∷ calls } ∷ earlier))
  unfolding booking row_after
  holds_on = go outcome
    where
      go : {is : Bool} {booked' : List Item} → Outcome is booked'
          → Holds start (cond is (with_figures t (entered t.figures (items o e a))) t)
          (cond is (written row (waits_booked t.figures) (waits_in (items o e a))) row) booked'
      go (inl q) = rw (q.0, q.1, event.same) (record {
        agree = entered_agree holds.agree event.numbered;
        numbered = numbered_append holds.numbered event.numbered;
        fits = q.2;
        row_is = rw (holds.row_is, waits_counted holds.agree holds.numbered, waits_append booked new, written_append start 0 (waits_in booked) (waits_in new), zero-add);
      })
      go (inr q) = rw (q.0, q.1) holds

pub holds : {u : Setup} {start : List ℕ} {t : Tally} {row : List ℕ} {o : OpenSession} {sessions : List Sitting} → Reported u start t row o sessions
    → Holds start t row (ledger sessions)
unfolding ledger booked_by booking
holds {u} {start} begun = empty_holds u start
holds (opens {t = t} r v z) =
    let h = holds r in
    rw (opening_is t v z) (record { agree = h.agree; numbered = h.numbered; fits = h.fits; row_is = h.row_is })
holds {start = start} (books {t = t} {row = row} {o = o} {s = s} {earlier = earlier} r e) =
    holds_on start t row o s earlier (session r) (holds r) e

-- ---- the theorem

pub figures_are : FiguresAre
figures_are u start t row o sessions r = (holds r).agree.each

pub row_is : RowIs
row_is u start t row o sessions r = (holds r).row_is

pub left_out : LeftOut
unfolding booking book_number
left_out u start t row o s earlier r e =
    let n = number (step by_rank o.session e).said in
    ap (λ (f : Bool). cond (eqb n 0) (cond f 0 41) n) (tried start t row o s earlier (session r) (holds r) e)

-- the waits that the figures have, of all tasks, are as many as are booked
pub waits_booked_lem : InEveryReport (λ start t row o sessions. waits_booked t.figures ≡ length (waits_in (ledger sessions)))
waits_booked_lem u start t row o sessions r = waits_counted (holds r).agree (holds r).numbered

-- the number at a place that goes by k: the row's first k are, in rising order, the last k waits
at_place : (place : ℕ → ℕ)
    → InEveryReport (λ start t row o sessions.
    in_rising (place (kept_in t.figures row)) (take (kept_in t.figures row) row)
    ≡ in_rising (place (length (last_waits (length start) (ledger sessions)))) (last_waits (length start) (ledger sessions)))
at_place place u start t row o sessions r =
    ap (λ (k : ℕ). in_rising (place k) (take k row)) kept ∙ ap (λ (xs : List ℕ). in_rising (place k) (take k xs)) (row_is u start t row o sessions r)
    ∙ same.places (place k) ∙ ap (λ (n : ℕ). in_rising (place n) (last_of k waits)) (sym same.sizes)
  where
    waits : List ℕ
    waits = waits_in (ledger sessions)

    k : ℕ
    k = kept_of (length start) (length waits)

    same : SameNumbers k (take k (written start 0 waits)) (last_of k waits)
    same = last_k start waits

    size : length row ≡ length start
    size = ap (λ (xs : List ℕ). length xs) (row_is u start t row o sessions r) ∙ (row_places start waits).size

    kept : kept_in t.figures row ≡ k
    kept = ap₂ (λ (places booked : ℕ). kept_of places booked) size (waits_booked_lem u start t row o sessions r)

pub middle_is : MiddleIs
unfolding middle middle_of
middle_is = at_place middle_place

pub nine_tenths_is : NineTenthsIs
unfolding nine_tenths nine_tenths_of
nine_tenths_is = at_place nine_place

-- ---- one setup

-- a booking changes figures alone
setup_kept : (t : Tally) (b : Bool) (all : List Figures) → (cond b (with_figures t all) t).setup ≡ t.setup
setup_kept t true all = refl
setup_kept t false all = refl

taken_kept : (t : Tally) (b : Bool) (all : List Figures) → (cond b (with_figures t all) t).taken ≡ t.taken
taken_kept t true all = refl
taken_kept t false all = refl

-- while no setup is taken there is no session
none_taken : {u : Setup} {start : List ℕ} {t : Tally} {row : List ℕ} {o : OpenSession} {sessions : List Sitting} → Reported u start t row o sessions
    → t.taken ≡ false → sessions ≡ []
unfolding booking
none_taken begun q = refl
none_taken (opens {t = t} r v z) q = absurd (false≢true (sym q ∙ ap (λ (x : WithOpened). x.tally.taken) (opening_is t v z)))
none_taken (books {t = t} {o = o} r e) q =
    absurd (cons≢nil (none_taken r (sym (taken_kept t (eqb (book_number t o e) 0) (entered t.figures (items o e (step by_rank o.session e)))) ∙ q)))

setups : {u : Setup} {start : List ℕ} {t : Tally} {row : List ℕ} {o : OpenSession} {sessions : List Sitting} → Reported u start t row o sessions
    → all_same t.setup sessions ≡ true
unfolding all_same booking
setups begun = refl
setups (opens {t = t} {sessions = sessions} r v z) =
    ap (λ (x : WithOpened). same_setup x.tally.setup v && all_same x.tally.setup sessions) (opening_is t v z)
    ∙ and_both (same_setup v v) (all_same v sessions) (same_self v) (earlier_same t.taken refl (setups r))
  where
    earlier_same : (b : Bool) → t.taken ≡ b → all_same t.setup sessions ≡ true → all_same v sessions ≡ true
    earlier_same true q same = all_same_lem t.setup v sessions (opens_same t v z q) same
    earlier_same false q same = ap (λ (xs : List Sitting). all_same v xs) (none_taken r q)
setups (books {t = t} {o = o} {s = s} {earlier = earlier} r e) =
    ap (λ (u : Setup). same_setup u s.setup && all_same u earlier)
    (setup_kept t (eqb (book_number t o e) 0) (entered t.figures (items o e (step by_rank o.session e))))
    ∙ setups r

pub one_setup : OneSetup
one_setup u start t row o sessions r = setups r
