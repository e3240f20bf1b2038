-- The row with one more wait of those that a scan ended.
use Prim.Native.Nat.{ℕ, zero, suc, ◌+◌, ◌-◌, ◌*◌, ◌%◌, min}
use mathlib.Core.Path.{◌≡◌, refl, ap, ◌∙◌}
use mathlib.Core.List.{List, [], ◌∷◌, ◌++◌}
use mathlib.Core.Bool.{Bool, true, false, cond}
use lib.Dec.{eqb}
use lib.ListN.{length, get_or, set}
use Rattle.objects.proofs.Laws.Below.{sum_ext}
use Rattle.report.specs.declared.Figures.{Figures}
use Rattle.report.specs.Items.{commit, after, figures_at, entered, waits_booked, waits_in, places_of, put_wait, written}
use Rattle.report.proofs.Laws.Writing.{waits_append, written_append}
use Rattle.tally.specs.declared.Noted.{Noted}
use Rattle.tally.specs.Listed.{listed_wait, listed_waits, noted_commit, listed_items}

-- a row with no place stays
pub no_place : (row : List ℕ) (i : ℕ) (waits : List ℕ) → eqb (places_of row) 0 ≡ true → written row i waits ≡ row
unfolding written
no_place row i [] e = refl
no_place row i (ticks ∷ more) e =
    ap (λ (r : List ℕ). written r (i + 1) more) (ap (λ (b : Bool). cond b row (set row (i % places_of row) ticks)) e) ∙ no_place row (i + 1) more e

length_more : (xs : List ℕ) (x : ℕ) → length (xs ++ (x ∷ [])) ≡ suc (length xs)
length_more [] x = refl
length_more (y ∷ xs) x = ap suc (length_more xs x)

module _ (list : List ℕ) (tick : ℕ) where
  abbrev ticks : ℕ → ℕ
  ticks k = tick - get_or list (k * 4 + 3) 0

  abbrev waits : ℕ → List ℕ
  waits k = waits_in (listed_waits list tick k)

  more_waits : (k : ℕ) → waits (suc k) ≡ waits k ++ (ticks k ∷ [])
  unfolding listed_waits waits_in
  more_waits k = waits_append (listed_waits list tick k) (listed_wait list tick k ∷ [])

  all_waits : (k : ℕ) → length (waits k) ≡ k
  unfolding listed_waits waits_in
  all_waits zero = refl
  all_waits (suc k) = ap (λ (xs : List ℕ). length xs) (more_waits k) ∙ length_more (waits k) (ticks k) ∙ ap suc (all_waits k)

  pub no_wait : (row : List ℕ) (i : ℕ) → written row i (waits 0) ≡ row
  unfolding listed_waits waits_in written
  no_wait row i = refl

  pub one_more_wait : (row : List ℕ) (i k : ℕ) → written row i (waits (suc k)) ≡ put_wait (written row i (waits k)) (i + k) (ticks k)
  unfolding written
  one_more_wait row i k =
      ap (λ (ws : List ℕ). written row i ws) (more_waits k) ∙ written_append row i (waits k) (ticks k ∷ [])
      ∙ ap (λ (n : ℕ). put_wait (written row i (waits k)) (i + n) (ticks k)) (all_waits k)

-- ---- the waits among what an event books

-- a commit is no wait
commit_waits : (b : Bool) (i : ℕ) (waited : Bool) → waits_in (cond b (commit i waited ∷ []) []) ≡ []
unfolding waits_in
commit_waits true i waited = refl
commit_waits false i waited = refl

pub listed_waits_lem : (n : Noted) (list : List ℕ) → waits_in (listed_items n list) ≡ waits_in (listed_waits list n.tick (min n.admitted 16))
unfolding listed_items
listed_waits_lem n list =
    waits_append (noted_commit n) (listed_waits list n.tick (min n.admitted 16))
    ∙ ap (λ (xs : List ℕ). xs ++ waits_in (listed_waits list n.tick (min n.admitted 16))) (commit_waits n.commits (n.task % 64) n.waited)

-- nor does one change how many waits are booked
same_waits : (all : List Figures) (i j : ℕ) (f : Figures) → f.waits ≡ (figures_at all i).waits
    → (figures_at (set all i f) j).waits ≡ (figures_at all j).waits
same_waits [] i j f e = refl
same_waits (g ∷ all) zero zero f e = e
same_waits (g ∷ all) zero (suc j) f e = refl
same_waits (g ∷ all) (suc i) zero f e = refl
same_waits (g ∷ all) (suc i) (suc j) f e = same_waits all i j f e

pub commit_keeps : (all left : List Figures) (n : Noted) → left ≡ entered all (noted_commit n) → waits_booked left ≡ waits_booked all
unfolding waits_booked entered
commit_keeps all left n is = ap waits_booked is ∙ go n.commits
  where
    i : ℕ
    i = n.task % 64

    go : (b : Bool) → waits_booked (entered all (cond b (commit i n.waited ∷ []) [])) ≡ waits_booked all
    go true = sum_ext 64 _ _ (λ j l. same_waits all i j (after (figures_at all i) (commit i n.waited)) refl)
    go false = refl
