-- A tally's figures are those of what is booked, and stay so as items are entered one after another. And what is tried item by item is what is asked of the whole: since
-- totals only grow, all items can be entered exactly if in the end every total of every task fits.
use Prim.Native.Nat.{ℕ, ◌≤◌, ◌<◌}
use mathlib.Core.Path.{◌≡◌, refl, sym, ap, ◌∙◌}
use mathlib.Core.List.{List, [], ◌∷◌, ◌++◌, append-nil}
use mathlib.Core.Bool.{Bool, true, false, ◌&&◌, and-true}
use native.Mathlib.Omega.{arith}
use lib.ListN.{length, length-set}
use lib.Seq.{append_snoc, get_or-set_same, get_or-set_other}
use borrow.Author.Tests.{leb-true, le-leb}
use Rattle.objects.specs.Below.{all}
use Rattle.objects.proofs.Laws.Below.{bool_ext, not_true_false, not_both, and_left, and_right, all_at, all_from}
use Rattle.rules.proofs.Laws.Alike.{at_or_other}
use Rattle.report.specs.declared.Figures.{Figures}
use Rattle.report.specs.Items.{Item, commit, wait, task_of, no_figures, after, within, fits, figures_at, enter, entered, enterable}
use Rattle.report.specs.Ledger.{figures_of, totals_fit, fitting}
use Rattle.report.proofs.Laws.Totals.{added, figures_append, figures_own, figures_other}

-- items of tasks that a tally has
pub data Numbered : List Item → Type 0 where
  none : Numbered []
  more : {x : Item} {xs : List Item} → task_of x < 64 → Numbered xs → Numbered (x ∷ xs)

pub numbered_append : {xs ys : List Item} → Numbered xs → Numbered ys → Numbered (xs ++ ys)
numbered_append none q = q
numbered_append (more l p) q = more l (numbered_append p q)

-- ---- the figures

-- the figures of a tally are those of what is booked
pub record Agree (figures : List Figures) (booked : List Item) : Type 0 where
  pub size : length figures ≡ 64
  pub each : (i : ℕ) → i < 64 → figures_at figures i ≡ figures_of i booked

enter_agree : {figures : List Figures} {booked : List Item} → Agree figures booked → (x : Item) → task_of x < 64
    → Agree (enter figures x) (booked ++ (x ∷ []))
enter_agree {figures} {booked} p x l = record {
  size = length-set figures j new ∙ p.size;
  each = at_or_other j (λ (i : ℕ). i < 64 → figures_at (enter figures x) i ≡ figures_of i (booked ++ (x ∷ [])))
      (λ m. get_or-set_same figures j new no_figures (omega (arith, p.size)) ∙ ap (λ (f : Figures). after f x) (p.each j m) ∙ sym (figures_own booked x))
      (λ i d m. get_or-set_other figures j i new no_figures d ∙ p.each i m ∙ sym (figures_other i booked x (λ q. d (sym q))));
}
  where
    j : ℕ
    j = task_of x

    new : Figures
    new = after (figures_at figures j) x

pub entered_agree : {figures : List Figures} {booked new : List Item} → Agree figures booked → Numbered new
    → Agree (entered figures new) (booked ++ new)
unfolding entered
entered_agree {figures} {booked} p none = rw (append-nil booked) p
entered_agree {figures} {booked} p (more {x = x} {xs = xs} l q) = rw (append_snoc booked x xs) at (entered_agree {figures = enter figures x} (enter_agree p x l) q)

-- ---- the totals

-- each of the five totals fits
record Small (f : Figures) : Type 0 where
  committed : f.committed ≤ 4294967295
  waited : f.waited ≤ 4294967295
  clashes : f.clashes ≤ 4294967295
  retries : f.retries ≤ 4294967295
  ticks : f.ticks ≤ 4294967295
  waits : f.waits ≤ 4294967295

split : (b : Bool) (k : ℕ) → (b && within k) ≡ true → (b ≡ true) × (k ≤ 4294967295)
split b k e = (and_left b (within k) e, leb-true k 4294967295 (and_right b (within k) e))

small : (f : Figures) → totals_fit f ≡ true → Small f
small f e =
    let five = split (within f.committed && within f.waited && within f.clashes && within f.retries && within f.ticks) f.waits e in
    let four = split (within f.committed && within f.waited && within f.clashes && within f.retries) f.ticks five.0 in
    let three = split (within f.committed && within f.waited && within f.clashes) f.retries four.0 in
    let two = split (within f.committed && within f.waited) f.clashes three.0 in
    let first = split (within f.committed) f.waited two.0 in
    record {
      committed = leb-true f.committed 4294967295 first.0;
      waited = first.1;
      clashes = two.1;
      retries = three.1;
      ticks = four.1;
      waits = five.1;
    }

fit : (f : Figures) → Small f → totals_fit f ≡ true
fit f p =
    rw (
      le-leb f.committed 4294967295 p.committed,
      le-leb f.waited 4294967295 p.waited,
      le-leb f.clashes 4294967295 p.clashes,
      le-leb f.retries 4294967295 p.retries,
      le-leb f.ticks 4294967295 p.ticks,
      le-leb f.waits 4294967295 p.waits,
    )

-- what an item adds to is tried, and the rest fits already
fits_after : (f : Figures) (x : Item) → Small f → fits f x ≡ totals_fit (after f x)
fits_after f (commit i waited) p =
    rw (
      le-leb f.clashes 4294967295 p.clashes,
      le-leb f.retries 4294967295 p.retries,
      le-leb f.ticks 4294967295 p.ticks,
      le-leb f.waits 4294967295 p.waits,
    )
    (simp and-true)
fits_after f (wait i ticks clashes retries) p =
    rw (le-leb f.committed 4294967295 p.committed, le-leb f.waited 4294967295 p.waited)

-- what fits with more fits without
fitting_less : (xs ys : List Item) → fitting (xs ++ ys) ≡ true → fitting xs ≡ true
unfolding fitting
fitting_less xs ys e =
    all_from 64 (λ (i : ℕ). totals_fit (figures_of i xs))
    (λ i l.
    let f = figures_of i xs in
    let g = figures_of i ys in
    let p = small (added f g) (ap totals_fit (sym (figures_append i xs ys)) ∙ all_at 64 (λ (i : ℕ). totals_fit (figures_of i (xs ++ ys))) e i l) in
    fit f (record {
      committed = omega (arith, p.committed);
      waited = omega (arith, p.waited);
      clashes = omega (arith, p.clashes);
      retries = omega (arith, p.retries);
      ticks = omega (arith, p.ticks);
      waits = omega (arith, p.waits);
    }))

fitting_more : (xs : List Item) (x : Item) → task_of x < 64 → fitting xs ≡ true → fits (figures_of (task_of x) xs) x ≡ fitting (xs ++ (x ∷ []))
unfolding fitting
fitting_more xs x l e =
    bool_ext (fits (figures_of j xs) x) (all 64 fits_now)
    (λ p. all_from 64 fits_now
    (at_or_other j (λ (i : ℕ). i < 64 → fits_now i ≡ true) (λ m. sym here ∙ p) (λ i d m. ap totals_fit (figures_other i xs x (λ q. d (sym q))) ∙ before i m)))
    (λ p. here ∙ all_at 64 fits_now p j l)
  where
    j : ℕ
    j = task_of x

    fits_now : ℕ → Bool
    fits_now i = totals_fit (figures_of i (xs ++ (x ∷ [])))

    before : (i : ℕ) → i < 64 → totals_fit (figures_of i xs) ≡ true
    before = all_at 64 (λ (i : ℕ). totals_fit (figures_of i xs)) e

    here : fits (figures_of j xs) x ≡ fits_now j
    here = fits_after (figures_of j xs) x (small (figures_of j xs) (before j l)) ∙ ap totals_fit (sym (figures_own xs x))

pub enterable_fitting : {figures : List Figures} {booked new : List Item} → Agree figures booked → Numbered new → fitting booked ≡ true
    → enterable figures new ≡ fitting (booked ++ new)
unfolding enterable
enterable_fitting {figures} {booked} p none e = rw (append-nil booked) (sym e)
enterable_fitting {figures} {booked} p (more {x = x} {xs = xs} l q) e =
    go (fitting (booked ++ (x ∷ []))) refl (enterable_fitting {figures = enter figures x} (enter_agree p x l) q)
  where
    new : List Item
    new = booked ++ (x ∷ [])

    whole : new ++ xs ≡ booked ++ (x ∷ xs)
    whole = append_snoc booked x xs

    here : fits (figures_at figures (task_of x)) x ≡ fitting new
    here = ap (λ (f : Figures). fits f x) (p.each (task_of x) l) ∙ fitting_more booked x l e

    go : (b : Bool) → fitting new ≡ b → (fitting new ≡ true → enterable (enter figures x) xs ≡ fitting (new ++ xs))
        → (fits (figures_at figures (task_of x)) x && enterable (enter figures x) xs) ≡ fitting (booked ++ (x ∷ xs))
    go true t rest = rw (here ∙ t) (rest t ∙ ap fitting whole)
    go false t rest =
        rw (here ∙ t) (sym (not_true_false (fitting (booked ++ (x ∷ xs))) (λ f. not_both (fitting new) (fitting_less new xs (ap fitting whole ∙ f)) t)))
