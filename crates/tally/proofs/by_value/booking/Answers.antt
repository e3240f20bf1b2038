-- `tally::by_value::booking` meets its contract: its parts are those of the booking, and what the answer lists lies within the tables. Assumes nothing.
use Prim.Native.Nat.{ℕ, min}
use mathlib.Core.Path.{◌≡◌, refl, sym, ap, subst, ◌∙◌}
use mathlib.Core.Bool.{Bool, false, ◌&&◌}
use mathlib.Core.List.{List}
use native.Mathlib.Nat.{mod-eq_of_lt}
use native.Mathlib.Omega.{arith}
use lib.Dec.{eqb}
use lib.ListN.{get_or}
use Rattle.std.specs.declared.result.Result.{Result}
use Rattle.rules.specs.declared.Refusal.{Refusal}
use Rattle.rules.specs.declared.Session.{Session}
use Rattle.rules.specs.declared.Event.{Event}
use Rattle.rules.specs.declared.Answer.{Answer}
use Rattle.rules.specs.Answers.{number}
use Rattle.rules.specs.Ranking.{by_rank}
use Rattle.rules.specs.Refusals.{result_number}
use Rattle.rules.specs.Events.{step}
use Rattle.rules.specs.History.{is_commit}
use Rattle.report.specs.declared.Tally.{Tally}
use Rattle.report.specs.declared.OpenSession.{OpenSession}
use Rattle.report.specs.declared.WithBooked.{WithBooked}
use Rattle.report.specs.Booking.{waited_after, booking, row_after}
use Rattle.tally.specs.declared.Noted.{Noted}
use Rattle.tally.specs.Listed.{listed_items, entering, tally_after, row_entering}
use Rattle.tally.specs.Parts.{Lists, answered}
use Rattle.tally.proofs.Laws.Inside.{Within, answer_inside}
use Rattle.tally.proofs.Laws.Booked.{items_listed, made, made_by, refused_is, entered_is}
use Rattle.tally.proofs.by_value.booking.Goals as goal

-- of the answer that the manager gave
inside : (s : Session) (e : Event) (a : Answer) → a ≡ step by_rank s e → Within e.task a
inside s e a is = subst (Within e.task) (sym is) (answer_inside by_rank s e)

-- an accepted event: what entering its items answers and leaves is what its booking does
module _ (t : Tally) (o : OpenSession) (e : Event) (a : Answer) (commits : Bool) (list : List ℕ) (at : ℕ) (waited : List Bool) where
  abbrev noted : Noted
  noted = record { tick = e.tick; task = e.task; commits = commits; waited = get_or o.waited at false; admitted = a.admitted.count }

  abbrev with_answer : Tally → ℕ → WithBooked
  with_answer t' k = answered t' k a.said a.admitted (record { session = a.session; waited = waited })

  module _
      (is : a ≡ step by_rank o.session e)
      (commits_is : commits ≡ (eqb (number a.said) 0 && is_commit e.kind))
      (lists : Lists o.session.tasks e.tick a.admitted.list a.admitted.count list)
      (at_is : at ≡ e.task)
      (waited_is : waited ≡ waited_after o.waited e a.said)
    where
      booked : number a.said ≡ 0 → (row row' : List ℕ) (result : Result Tally Refusal) → result ≡ entering t (listed_items noted list)
          → row' ≡ row_entering t (listed_items noted list) row
          → (with_answer (tally_after t result) (result_number result) ≡ booking t o e) × (row' ≡ row_after t o e row)
      booked accepted row row' result result_is row_is =
          let within = inside o.session e a is in
          let few : min a.admitted.count 16 ≡ a.admitted.count = omega (arith, within.listed.0) in
          let new = items_listed noted list o.waited o.session.tasks e a.said a.admitted refl commits_is (mod-eq_of_lt (within.task accepted))
          (ap (λ (i : ℕ). get_or o.waited i false) at_is) few lists
          in
          let all = entered_is t o e a (listed_items noted list) row is accepted new in (
            made_by t o e a (tally_after t result) (result_number result) waited is waited_is
                ∙ ap (λ (z : Result Tally Refusal). made t o e (tally_after t z) (result_number z)) result_is ∙ all.0,
            row_is ∙ all.1,
          )

pub waited_after-requires : goal.waited_after-requires
waited_after-requires c = (inside c.args.o.session c.args.e c.step-said.result c.step-said.ensures).task

pub returns-then-booked-ne0 : goal.returns-then-booked-ne0
returns-then-booked-ne0 c =
    let a = c.args in
    let answer = c.step-said.result in
    let number_is = c.number_of.ensures ∙ ap (λ (x : Answer). number x.said) c.step-said.ensures in
    let is = refused_is a.t a.o a.e a.row.now (λ z. c.if-booked-ne0.true (number_is ∙ z)) in record {
      is = made_by a.t a.o a.e answer a.t c.number_of.result c.waited_after.result c.step-said.ensures c.waited_after.ensures
          ∙ ap (made a.t a.o a.e a.t) number_is ∙ sym is.0;
      writes = sym is.1;
    }

pub list_of-list-requires : goal.list_of-list-requires
list_of-list-requires c = (inside c.args.o.session c.args.e c.step-said.result c.step-said.ensures).listed

pub bounds-o-from : goal.bounds-o-from
bounds-o-from c =
    let low = (inside c.args.o.session c.args.e c.step-said.result c.step-said.ensures).task (sym c.number_of.ensures ∙ c.if-booked-ne0.false) in
    omega (arith, c.from.ensures)

pub returns-in-Ok : goal.returns-in-Ok
returns-in-Ok c =
    let a = c.args in
    let accepted = c.if-booked-ne0.false in
    let is = booked a.t a.o a.e c.step-said.result c.commits.result c.list_of-list.result c.from.result c.waited_after.result c.step-said.ensures c.commits.ensures c.list_of-list.ensures c.from.ensures c.waited_after.ensures
    (sym c.number_of.ensures ∙ accepted) a.row.now c.enter.new.row c.enter.result c.enter.ensures.is c.enter.ensures.writes
    in
    let same = rw c.in-Ok.is at is in record {
      is = ap (with_answer a.t a.o a.e c.step-said.result c.commits.result c.list_of-list.result c.from.result c.waited_after.result c.in-Ok.tally) accepted ∙ same.0;
      writes = same.1;
    }

pub returns-in-Err : goal.returns-in-Err
returns-in-Err c =
    let a = c.args in
    let is = booked a.t a.o a.e c.step-said.result c.commits.result c.list_of-list.result c.from.result c.waited_after.result c.step-said.ensures c.commits.ensures c.list_of-list.ensures c.from.ensures c.waited_after.ensures
    (sym c.number_of.ensures ∙ c.if-booked-ne0.false) a.row.now c.enter.new.row c.enter.result c.enter.ensures.is c.enter.ensures.writes
    in
    let same = rw c.in-Err.is at is in record {
      is = ap (with_answer a.t a.o a.e c.step-said.result c.commits.result c.list_of-list.result c.from.result c.waited_after.result a.t) c.from-in-Err.ensures ∙ same.0;
      writes = same.1;
    }
