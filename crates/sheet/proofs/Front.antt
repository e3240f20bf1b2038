-- The first n tasks of a table say the same as a table of their own.
use Prim.Native.Nat.{ℕ, zero, suc, ◌+◌, ◌-◌, ◌*◌, ◌≤◌, ◌<◌}
use mathlib.Core.Path.{◌≡◌, refl, ap, ◌∙◌}
use mathlib.Core.Bool.{Bool, true, false, cond, ◌&&◌}
use mathlib.Core.List.{List, [], ◌∷◌}
use native.Mathlib.Omega.{arith}
use lib.Dec.{eqb, leb}
use lib.ListN.{length, take}
use borrow.Author.Tests.{eqb-false}
use Rattle.std.proofs.lemmas.List.{get_or-take, length-take-le}
use Rattle.rules.proofs.Laws.Foremost.{foremost_ext}
use Rattle.report.specs.declared.Figures.{Figures}
use Rattle.report.specs.Items.{no_figures, figures_at}
use Rattle.report.specs.Sheet.{has_wait, most_key, most_next, most_from, most}
use Rattle.report.proofs.Laws.Most.{next_below}
use Rattle.sheet.specs.Text.{rows_text, most_text, head_text, foot_text}

module _ (all : List Figures) (n : ℕ) where
  same : (i : ℕ) → i < n → figures_at (take n all) i ≡ figures_at all i
  same i h = get_or-take n all i no_figures h

  rows_front : (k : ℕ) → k ≤ n → rows_text k (take n all) ≡ rows_text k all
  unfolding rows_text
  rows_front zero h = refl
  rows_front (suc k) h = rw (rows_front k (omega arith), same k (omega arith))

  next_front : (from : ℕ) → most_next (take n all) n from ≡ most_next all n from
  unfolding most_next
  next_front from =
      foremost_ext n (λ i. has_wait (take n all) i && leb from (most_key (take n all) i)) (λ i. has_wait all i && leb from (most_key all i))
      (most_key (take n all)) (most_key all)
      (λ i h. ap (λ (f : Figures). leb 1 f.waits && leb from ((4294967295 - f.ticks) * 64 + i)) (same i h))
      (λ i h. ap (λ (f : Figures). (4294967295 - f.ticks) * 64 + i) (same i h))

  from_front : (k from : ℕ) → most_from k (take n all) n from ≡ most_from k all n from
  unfolding most_from
  from_front zero from = refl
  from_front (suc k) from = rw (next_front from) (go (from_front k) (eqb (most_next all n from) 64) refl)
    where
      i : ℕ
      i = most_next all n from

      go : ((from : ℕ) → most_from k (take n all) n from ≡ most_from k all n from) → (t : Bool) → eqb i 64 ≡ t
          → cond t [] (i ∷ most_from k (take n all) n (most_key (take n all) i + 1)) ≡ cond t [] (i ∷ most_from k all n (most_key all i + 1))
      go later true e = refl
      go later false e =
          let key = ap (λ (f : Figures). (4294967295 - f.ticks) * 64 + i) (same i (next_below all n from (eqb-false i 64 e))) in
          ap (λ (s : List ℕ). i ∷ s) (later (most_key (take n all) i + 1) ∙ ap (λ (x : ℕ). most_from k all n (x + 1)) key)

  most_front : most (take n all) n ≡ most all n
  unfolding most
  most_front = from_front n 0

  size : n ≤ length all → length (take n all) ≡ n
  size h = length-take-le n all h

  pub head_front : (logs : ℕ) → n ≤ length all → head_text logs (length (take n all)) (take n all) ≡ head_text logs n all
  unfolding head_text
  head_front logs h = rw (size h, rows_front n (omega arith))

  pub foot_front : (half nine left : ℕ) → n ≤ length all → foot_text half nine (length (take n all)) (take n all) left ≡ foot_text half nine n all left
  unfolding foot_text most_text
  foot_front half nine left h = rw (size h, most_front)
