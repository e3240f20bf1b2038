-- The highest ranked of the tasks of a word, as the walk over them keeps it: the first, and then of two the one that ranks higher.
use Prim.Native.Nat.{ℕ, zero, suc, ◌+◌, ◌%◌, ◌≤◌, ◌<◌}
use mathlib.Core.Path.{◌≡◌, refl, sym, ap, ap₂, ◌∙◌}
use mathlib.Core.List.{List, [], ◌∷◌, ◌++◌}
use mathlib.Core.Bool.{Bool, true, false, cond, ◌&&◌, ◌||◌}
use native.Mathlib.Nat.{le_refl, mod-eq_of_lt}
use native.Mathlib.Numerals.{add-one}
use native.Mathlib.Omega.{arith}
use lib.Dec.{eqb}
use borrow.Author.Tests.{eq-eqb, ne_eqb}
use denote.Param.Members.{Mut, Called}
use Rattle.std.specs.Prelude.{Option, Some, None, MatchOption, unwrap_or}
use Rattle.std.specs.Iterator.{Drains, ReducesItems}
use Rattle.std.specs.List.{fold, reduce}
use Rattle.std.proofs.lemmas.Fn.{fold_same}
use Rattle.std.proofs.lemmas.Iterator.{YieldsList, items_from_drains}
use Rattle.std.proofs.lemmas.List.{append-nil, map-id}
use Rattle.std.proofs.lemmas.List.Sums.{fold-append}
use Rattle.objects.specs.Objects.{bit}
use Rattle.machine.specs.Places.{above_of}
use Rattle.seek.specs.Foremost.{foremost}
use Rattle.seek.specs.Tasks.{those_below, tasks_in}
use Rattle.seek.proofs.Laws.Highest.{foremost_none, foremost_more, foremost_stays}

-- ---- what `reduce` gives

-- the items that came are the list
listed : {S : Type 0} {steps : S → Option ℕ → S → Type 0} {s : S} {all : List ℕ} (xs : List ℕ) → Drains steps s xs → YieldsList steps (λ x. x) s all → xs ≡ all
listed xs d chain = sym (map-id xs) ∙ items_from_drains xs (d.1.0, d.1.1, λ _. (d.0, d.1.2)) chain

-- the items are those of the list, and each call gives h of the two
pub reduced : {S F : Type 0} {steps : S → Option ℕ → S → Type 0} {s : S} {all : List ℕ} (g : Mut F (ℕ × (ℕ × Unit {0})) ℕ) (h : ℕ → ℕ → ℕ) {f : F} (r : Option ℕ)
    → ReducesItems steps g s f r → YieldsList steps (λ x. x) s all → ((a x b : ℕ) (q : F) → Called g f (a, (x, tt)) b q → (q ≡ f) × (b ≡ h a x)) → r ≡ reduce h all
reduced g h None d chain calls = ap (reduce h) (listed [] d chain)
reduced {F = F} g h {f} (Some y) (x, xs, q, d, turns) chain calls =
    ap Some (fold_same g (λ (xs : List ℕ) (b : ℕ). b ≡ fold h x xs) f turn xs x y q refl turns) ∙ ap (reduce h) (listed (x ∷ xs) d chain)
  where
    turn : (xs : List ℕ) (a z b : ℕ) (q : F) → a ≡ fold h x xs → Called g f (a, (z, tt)) b q → (b ≡ fold h x (xs ++ (z ∷ []))) × (q ≡ f)
    turn xs a z b q e k =
        let after = calls a z b q k in
        (after.1 ∙ ap (λ (a : ℕ). h a z) e ∙ sym (fold-append h x xs (z ∷ [])), after.0)

-- ---- of two tasks the one that ranks higher

module _ (w : List ℕ) where
  -- the best so far and another
  abbrev pub higher : ℕ → ℕ → ℕ
  higher best other = cond (bit (above_of w (best % 64)) (other % 64)) other best

  next : Option ℕ → ℕ → ℕ
  next None k = k
  next (Some b) k = higher b k

  reduce_push : (xs : List ℕ) (k : ℕ) → reduce higher (xs ++ (k ∷ [])) ≡ Some (next (reduce higher xs) k)
  unfolding next
  reduce_push [] k = refl
  reduce_push (x ∷ xs) k = ap Some (fold-append higher x xs (k ∷ []))

  -- what is kept, after the tasks below k
  abbrev Kept : Option ℕ → ℕ → ℕ → Type 0
  Kept r best k = MatchOption r (best ≡ 64) (λ b. (b ≡ best) × (b < k))

  kept_on : (r : Option ℕ) (best k : ℕ) → Kept r best k → Kept r best (suc k)
  kept_on None best k p = p
  kept_on (Some b) best k p = (p.0, omega arith)

  module _ (f : ℕ → Bool) where
    kept_more : (k : ℕ) (r : Option ℕ) → k < 64 → f k ≡ true → Kept r (foremost w f k) k → Kept (Some (next r k)) (foremost w f (k + 1)) (k + 1)
    unfolding next
    kept_more k None l e p =
        let best = foremost w f k in
        (sym (foremost_more w f k ∙ ap₂ (λ (a b : Bool). cond (a && (b || bit (above_of w best) k)) k best) e (eq-eqb best 64 p)), omega arith)
    kept_more k (Some b) l e p =
        let best = foremost w f k in
        let less : b < 64 = omega arith in
        let other : eqb best 64 ≡ false = ne_eqb best 64 (λ q. absurd (omega arith)) in
        let is : higher b k ≡ foremost w f (k + 1) = rw (mod-eq_of_lt less, mod-eq_of_lt l, p.0) (sym (foremost_more w f k ∙ rw (e, other))) in
        (is, one_of (bit (above_of w (b % 64)) (k % 64)) k b (omega arith) (omega arith))
      where
        one_of : (t : Bool) (x y : ℕ) → x < k + 1 → y < k + 1 → cond t x y < k + 1
        one_of true x y l m = l
        one_of false x y l m = m

    kept : (k : ℕ) → k ≤ 64 → Kept (reduce higher (those_below k f)) (foremost w f k) k
    unfolding those_below
    kept zero l = foremost_none w f
    kept (suc k) l = go (f k) refl (kept k (omega arith))
      where
        xs : List ℕ
        xs = those_below k f

        go : (b : Bool) → f k ≡ b → Kept (reduce higher xs) (foremost w f k) k → Kept (reduce higher (xs ++ cond b (k ∷ []) [])) (foremost w f (suc k)) (suc k)
        go true e p = rw (reduce_push xs k) (rw (← add-one k) (kept_more k (reduce higher xs) (omega arith) e p))
        go false e p =
            let same : foremost w f (suc k) ≡ foremost w f k = sym (ap (foremost w f) (add-one k)) ∙ foremost_stays w f k e in
            rw (append-nil xs, same) (kept_on (reduce higher xs) (foremost w f k) k p)

  -- it is the foremost, and 64 where there is none
  pub foremost_reduced : (x : ℕ) → unwrap_or (reduce higher (tasks_in x)) 64 ≡ foremost w (bit x) 64
  unfolding tasks_in
  foremost_reduced x = of_kept (reduce higher (those_below 64 (bit x))) (kept (bit x) 64 (le_refl 64))
    where
      of_kept : (r : Option ℕ) → Kept r (foremost w (bit x) 64) 64 → unwrap_or r 64 ≡ foremost w (bit x) 64
      of_kept None p = sym p
      of_kept (Some b) p = p.0
