-- `tally::entry::write_waits` meets its contract. The loop's invariant: the waits passed are written.
use Prim.Native.Nat.{ℕ, suc, ◌+◌, ◌-◌, ◌*◌, ◌%◌, min}
use mathlib.Core.Path.{◌≡◌, refl, sym, ap, ap₂, ◌∙◌}
use mathlib.Core.Logic.{◌≢◌}
use mathlib.Core.Bool.{Bool, cond}
use mathlib.Core.List.{List}
use native.Mathlib.Numerals.{add-one}
use lib.ListN.{length-set, get_or, set}
use borrow.Author.Tests.{eq-eqb, ne_eqb}
use Rattle.report.specs.Items.{places_of, waits_in, put_wait, written}
use Rattle.tally.specs.Listed.{listed_waits}
use Rattle.tally.proofs.Laws.Rows.{no_place, no_wait, one_more_wait}
use Rattle.tally.proofs.entry.write_waits.Goals as goal

pub returns-then-places-eq0 : goal.returns-then-places-eq0
returns-then-places-eq0 c =
    let a = c.args in
    sym (no_place a.row.now a.from (waits_in (listed_waits a.list.now a.tick (min a.admitted 16)))
    (eq-eqb (places_of a.row.now) 0 (sym c.places_in-places.ensures ∙ c.if-places-eq0.true)))

pub loop-k-init : goal.loop-k-init
loop-k-init c =
    let a = c.args in
    record { places = refl; row = sym (no_wait a.list.now a.tick a.row.now a.from) }

-- one more wait: the row with it
module _ (list : List ℕ) (tick : ℕ) (before row : List ℕ) (from at places ticks : ℕ) where
  abbrev waits : ℕ → List ℕ
  waits k = waits_in (listed_waits list tick k)

  one_more : places ≡ places_of row → places ≢ 0 → ticks ≡ tick - get_or list (at * 4 + 3) 0 → row ≡ written before from (waits at)
      → set row ((from + at) % places) ticks ≡ written before from (waits (suc at))
  one_more places_are some ticks_are so_far =
      ap₂ (λ (n t : ℕ). set row ((from + at) % n) t) places_are ticks_are
      ∙ sym (ap (λ (b : Bool). cond b row (set row ((from + at) % places_of row) since)) (ne_eqb (places_of row) 0 (λ z. some (places_are ∙ z))))
      ∙ ap (λ (r : List ℕ). put_wait r (from + at) since) so_far
      ∙ sym (one_more_wait list tick before from at)
    where
      since : ℕ
      since = tick - get_or list (at * 4 + 3) 0

pub loop-k-preserved : goal.loop-k-preserved
loop-k-preserved c =
    let a = c.args in
    let inv = c.loop-k.invariant in
    let at = c.loop-k.k in
    let row = c.loop-k.row in
    let places = c.places_in-places.result in
    let places_are : places ≡ places_of row = c.places_in-places.ensures ∙ ap (λ (size : ℕ). min 4096 size) (sym inv.places) in
    let more = one_more a.list.now a.tick a.row.now row a.from at places c.ticks_since.result places_are c.if-places-eq0.false c.ticks_since.ensures inv.row in record {
      places = length-set row ((a.from + at) % places) c.ticks_since.result ∙ inv.places;
      row = more ∙ ap (λ (k : ℕ). written a.row.now a.from (waits_in (listed_waits a.list.now a.tick k))) (sym (add-one at));
    }
