-- `tally::entry::enter_waits` meets its contract. The loop's invariant: the waits passed fit, and the figures are those after them.
use Prim.Native.Nat.{ℕ, suc, ◌+◌, ◌-◌, ◌*◌, ◌%◌, min}
use mathlib.Core.Path.{◌≡◌, sym, ap, ◌∙◌}
use mathlib.Core.Bool.{Bool, true, false}
use mathlib.Core.List.{List}
use native.Mathlib.Numerals.{add-one}
use native.Mathlib.Omega.{arith}
use lib.ListN.{length-set, get_or, set}
use borrow.Author.Rules.{rules}
use Rattle.std.specs.declared.option.Option.{Option}
use Rattle.std.specs.declared.option.Option.TheVariants.{Some, None}
use Rattle.report.specs.declared.Figures.{Figures}
use Rattle.report.specs.Items.{Item, wait, fits, figures_at, enter, entered, enterable}
use Rattle.tally.specs.Listed.{listed_wait, listed_waits}
use Rattle.tally.specs.Parts.{counted}
use Rattle.tally.proofs.Laws.Counted.{fits_is, passes_is, set_is, total_passes}
use Rattle.tally.proofs.Laws.Entered.{none_enterable, none_entered, more_entered, fits_more, stays_out}
use Rattle.tally.proofs.Laws.Entering.{refused}
use Rattle.tally.proofs.entry.enter_waits.Goals as goal

pub loop-k-init : goal.loop-k-init
loop-k-init c =
    let a = c.args in record {
      size = search rules;
      fit = none_enterable a.list.now a.tick a.figures.now;
      figures = sym (none_entered a.list.now a.tick a.figures.now);
    }

-- one more wait: what its totals say, and what its figures are
module _ (list : List ℕ) (tick : ℕ) (all now : List Figures) (at ticks : ℕ) (made : Option Figures) where
  abbrev waits : ℕ → List Item
  waits k = listed_waits list tick k

  abbrev x : Item
  x = listed_wait list tick at

  abbrev i : ℕ
  i = get_or list (at * 4) 0 % 64

  module _
      (fit : enterable all (waits at) ≡ true)
      (now_is : now ≡ entered all (waits at))
      (ticks_are : ticks ≡ tick - get_or list (at * 4 + 3) 0)
      (is : made ≡ counted (figures_at now i) (wait 0 ticks (get_or list (at * 4 + 1) 0) (get_or list (at * 4 + 2) 0)))
    where
      made_is : made ≡ counted (figures_at now i) x
      made_is =
          is ∙ ap (λ (n : ℕ). counted (figures_at now i) (wait 0 n (get_or list (at * 4 + 1) 0) (get_or list (at * 4 + 2) 0))) ticks_are

      more_fits : (b : Bool) → fits (figures_at now i) x ≡ b → enterable all (waits (suc at)) ≡ b
      more_fits b q = fits_more list tick all at b fit (ap (λ (fs : List Figures). fits (figures_at fs i) x) (sym now_is) ∙ q)

      passes : made ≡ None → enterable all (waits (suc at)) ≡ false
      passes none = more_fits false (passes_is (figures_at now i) x made made_is none)

      more : (g : Figures) → made ≡ Some g → (enterable all (waits (suc at)) ≡ true) × (set now i g ≡ entered all (waits (suc at)))
      more g some =
          let both = fits_is (figures_at now i) x made made_is g some in (
            more_fits true both.0,
            set_is now x g both.1 ∙ ap (λ (fs : List Figures). enter fs x) now_is ∙ sym (more_entered list tick all at),
          )

pub returns-in_err-figures : goal.returns-in_err-figures
returns-in_err-figures c =
    let a = c.args in
    let inv = c.loop-k.invariant in
    let made = c.with_wait-after.result in
    let none = c.in_err-figures.ensures.ok_part in
    let now = c.loop-k.figures in
    let passed = passes a.list.now a.tick a.figures.now now c.loop-k.k c.ticks_since-ticks.result made inv.fit inv.figures c.ticks_since-ticks.ensures c.with_wait-after.ensures none in
    refused a.figures.now (listed_waits a.list.now a.tick (min a.admitted 16)) c.from_residual.result now
    (stays_out a.list.now a.tick a.figures.now c.loop-k.k (min a.admitted 16) (omega arith) passed)
    (total_passes made c.in_err-figures.field-0.0 c.from_residual.result none c.in_err-figures.ensures.value c.from_residual.ensures.1)

pub loop-k-preserved : goal.loop-k-preserved
loop-k-preserved c =
    let a = c.args in
    let inv = c.loop-k.invariant in
    let k = c.loop-k.k in
    let now = c.loop-k.figures in
    let g = c.in_ok-figures.field-0 in
    let next = more a.list.now a.tick a.figures.now now k c.ticks_since-ticks.result c.with_wait-after.result inv.fit inv.figures c.ticks_since-ticks.ensures c.with_wait-after.ensures g c.in_ok-figures.ensures.ok_part in record {
      size = length-set now (get_or a.list.now (k * 4) 0 % 64) g ∙ inv.size;
      fit = ap (λ (n : ℕ). enterable a.figures.now (listed_waits a.list.now a.tick n)) (add-one k) ∙ next.0;
      figures = next.1 ∙ ap (λ (n : ℕ). entered a.figures.now (listed_waits a.list.now a.tick n)) (sym (add-one k));
    }
