-- `tally::entry::enter` meets its contract: the commit first, if it is one, and then the waits; where a total passes nothing changes. Assumes nothing.
use Prim.Native.Nat.{ℕ, ◌%◌, min}
use mathlib.Core.Path.{◌≡◌, refl, sym, ap, subst, ◌∙◌}
use mathlib.Core.Bool.{Bool, true, false, cond}
use mathlib.Core.List.{List, [], ◌∷◌, ◌++◌}
use Rattle.std.specs.Result.{IsErrAnd}
use Rattle.std.specs.declared.result.Result.{Result}
use Rattle.std.specs.declared.result.Result.TheVariants.{Ok, Err}
use Rattle.rules.specs.declared.Refusal.{Refusal}
use Rattle.report.specs.declared.Figures.{Figures}
use Rattle.report.specs.declared.Tally.{Tally}
use Rattle.report.specs.Items.{Item, commit, waits_booked, waits_in, written}
use Rattle.report.specs.Booking.{with_figures}
use Rattle.tally.specs.declared.Noted.{Noted}
use Rattle.tally.specs.Listed.{listed_waits, noted_commit, listed_items, entering, row_entering}
use Rattle.tally.specs.Parts.{Enters}
use Rattle.tally.proofs.Laws.Rows.{no_wait, listed_waits_lem, commit_keeps}
use Rattle.tally.proofs.Laws.Entering.{is, none_taken, both_enter, first_out, left_out, taken_in}
use Rattle.tally.proofs.entry.enter.Goals.{then-n+in_ok-enter_commit, else-n}
use Rattle.tally.proofs.entry.enter.Goals as goal

-- after its commit, if it is one
record Between (t after : Tally) (n : Noted) : Type 0 where
  tally : after ≡ with_figures t after.figures
  enters : Enters t.figures (noted_commit n) (Ok tt) after.figures

module _ (t after : Tally) (n : Noted) where
  with_commit : n.commits ≡ true → (figures : List Figures) → after ≡ with_figures t figures
      → Enters t.figures (commit (n.task % 64) n.waited ∷ []) (Ok tt) figures → Between t after n
  with_commit commits figures after_is enters = record {
    tally = after_is ∙ ap (λ (x : Tally). with_figures t x.figures) (sym after_is);
    enters =
        subst (λ (b : Bool). Enters t.figures (cond b (commit (n.task % 64) n.waited ∷ []) []) (Ok tt) after.figures) (sym commits)
        (subst (λ (x : Tally). Enters t.figures (commit (n.task % 64) n.waited ∷ []) (Ok tt) x.figures) (sym after_is) enters);
  }

  with_none : n.commits ≡ false → after ≡ t → Between t after n
  with_none none after_is = record {
    tally = after_is ∙ ap (λ (x : Tally). with_figures t x.figures) (sym after_is);
    enters =
        subst (λ (b : Bool). Enters t.figures (cond b (commit (n.task % 64) n.waited ∷ []) []) (Ok tt) after.figures) (sym none)
        (subst (λ (x : Tally). Enters t.figures [] (Ok tt) x.figures) (sym after_is) (none_taken t.figures));
  }

-- all of its items
module _ (t : Tally) (n : Noted) (list row : List ℕ) where
  abbrev waits : List Item
  waits = listed_waits list n.tick (min n.admitted 16)

  abbrev items : List Item
  items = listed_items n list

  items_are : items ≡ noted_commit n ++ waits
  unfolding listed_items
  items_are = refl

  refuses : (refusal : Refusal) (left : List Figures) (result : Result Tally Refusal) → Enters t.figures (noted_commit n ++ waits) (Err refusal) left
      → IsErrAnd result (λ other. other ≡ refusal) → (result ≡ entering t items) × (row ≡ row_entering t items row)
  refuses refusal left (Ok x) enters same = absurd same
  refuses refusal left (Err other) enters same =
      let out = left_out t items row refusal left (subst (λ (new : List Item). Enters t.figures new (Err refusal) left) (sym items_are) enters) in
      (ap Err same ∙ out.0, out.1)

  accepts : (left : List Figures) (row' : List ℕ) → Enters t.figures (noted_commit n ++ waits) (Ok tt) left
      → row' ≡ written row (waits_booked t.figures) (waits_in waits) → (Ok (with_figures t left) ≡ entering t items) × (row' ≡ row_entering t items row)
  accepts left row' enters row_is =
      let into = taken_in t items row left (subst (λ (new : List Item). Enters t.figures new (Ok tt) left) (sym items_are) enters) in
      (into.0, row_is ∙ ap (written row (waits_booked t.figures)) (sym (listed_waits_lem n list)) ∙ into.1)

  -- an event that admits nobody
  admits_nobody : n.admitted ≡ 0 → (left : List Figures) → Enters t.figures (noted_commit n) (Ok tt) left
      → (Ok (with_figures t left) ≡ entering t items) × (row ≡ row_entering t items row)
  unfolding listed_waits
  admits_nobody none left enters =
      let no_waits : listed_waits list n.tick 0 ≡ waits = ap (λ (k : ℕ). listed_waits list n.tick (min k 16)) (sym none) in
      let all = subst (λ (new : List Item). Enters left new (Ok tt) left) no_waits (none_taken left) in
      accepts left row (both_enter t.figures left (noted_commit n) waits (Ok tt) left enters all)
      (sym (no_wait list n.tick row (waits_booked t.figures)) ∙ ap (λ (new : List Item). written row (waits_booked t.figures) (waits_in new)) no_waits)

pub returns-in_err-enter_commit : goal.returns-in_err-enter_commit
returns-in_err-enter_commit c =
    let a = c.args in
    let refusal = c.in_err-enter_commit.field-0.0 in
    let left = c.enter_commit.new.figures in
    let waits = listed_waits a.list.now a.n.tick (min a.n.admitted 16) in
    let first : Enters a.t.figures (noted_commit a.n) (Err refusal) left =
    subst (λ (b : Bool). Enters a.t.figures (cond b (commit (a.n.task % 64) a.n.waited ∷ []) []) (Err refusal) left) (sym c.if-n.true)
    c.in_err-enter_commit.ensures
    in
    let both = refuses a.t a.n a.list.now a.row.now refusal left c.from_residual.result (first_out a.t.figures left (noted_commit a.n) waits refusal first) c.from_residual.ensures.1 in
    record { is = both.0; writes = both.1 }

pub returns-in_err-enter_waits : goal.returns-in_err-enter_waits
returns-in_err-enter_waits c =
    let a = c.args in
    let after = c.if-n.t in
    let between : Between a.t after a.n = elim c.if-n.branch [
      | then-n+in_ok-enter_commit w ↦ with_commit a.t after a.n w.if-n.true w.enter_commit.new.figures w.t-is w.in_ok-enter_commit.ensures
      | else-n w ↦ with_none a.t after a.n w.if-n.false w.t-is
    ] in
    let refusal = c.in_err-enter_waits.field-0.0 in
    let left = c.enter_waits.new.figures in
    let waits = listed_waits a.list.now a.n.tick (min a.n.admitted 16) in
    let all = both_enter a.t.figures after.figures (noted_commit a.n) waits (Err refusal) left between.enters c.in_err-enter_waits.ensures in
    let both = refuses a.t a.n a.list.now a.row.now refusal left c.from_residual-in_err-enter_waits.result all c.from_residual-in_err-enter_waits.ensures.1 in
    record { is = both.0; writes = both.1 }

pub returns-in_ok-enter_waits : goal.returns-in_ok-enter_waits
returns-in_ok-enter_waits c =
    let a = c.args in
    let after = c.if-n.t in
    let between : Between a.t after a.n = elim c.if-n.branch [
      | then-n+in_ok-enter_commit w ↦ with_commit a.t after a.n w.if-n.true w.enter_commit.new.figures w.t-is w.in_ok-enter_commit.ensures
      | else-n w ↦ with_none a.t after a.n w.if-n.false w.t-is
    ] in
    let left = c.enter_waits.new.figures in
    let waits = listed_waits a.list.now a.n.tick (min a.n.admitted 16) in
    let all = both_enter a.t.figures after.figures (noted_commit a.n) waits (Ok tt) left between.enters c.in_ok-enter_waits.ensures in
    let kept = commit_keeps a.t.figures after.figures a.n (is a.t.figures (noted_commit a.n) after.figures between.enters) in
    let row_is = c.write_waits.ensures ∙ ap (λ (from : ℕ). written a.row.now from (waits_in waits)) (c.waits_booked-from.ensures.is ∙ kept) in
    let both = accepts a.t a.n a.list.now a.row.now left c.write_waits.new.row all row_is in
    record { is = ap (λ (x : Tally). Ok (with_figures x left)) between.tally ∙ both.0; writes = both.1 }

pub returns-else-n-ne0 : goal.returns-else-n-ne0
returns-else-n-ne0 c =
    let a = c.args in
    let after = c.if-n.t in
    let between : Between a.t after a.n = elim c.if-n.branch [
      | then-n+in_ok-enter_commit w ↦ with_commit a.t after a.n w.if-n.true w.enter_commit.new.figures w.t-is w.in_ok-enter_commit.ensures
      | else-n w ↦ with_none a.t after a.n w.if-n.false w.t-is
    ] in
    let both = admits_nobody a.t a.n a.list.now a.row.now c.if-n-ne0.false after.figures between.enters in
    record { is = ap Ok between.tally ∙ both.0; writes = both.1 }
