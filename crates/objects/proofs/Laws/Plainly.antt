-- The least and the count of a test are the lowest that has it, and how many have it, said plainly. So of a set of objects.
use Prim.Native.Nat.{ℕ, zero, suc, ◌+◌, ◌<◌}
use mathlib.Core.Path.{◌≡◌, refl, ap, ◌∙◌}
use mathlib.Core.Logic.{inl, inr}
use mathlib.Core.List.Memᴰ
use mathlib.Core.List.{List, [], ◌∷◌, Memᴰ}
use mathlib.Core.Bool.{Bool, true, false, cond}
use native.Mathlib.Nat.{not-suc-le-zero, le_step}
use native.Mathlib.Omega.{arith}
use lib.ListN.{length}
use Rattle.objects.specs.Below.{any, one, sum, count, least, Lowest, empty, more, Members, SoMany}
use Rattle.objects.specs.Objects.{Groups, has, lowest_object, how_many}
use Rattle.objects.specs.Laws.{ObjectOf, LowestPlain, HowManyPlain}
use Rattle.objects.proofs.Laws.Below.{below_suc, not_both, not_true_false, any_at, any_none, least_has, least_before, least_found}
use Rattle.objects.proofs.Laws.Clash.{has_plain, plain_has}

-- ---- a test

-- number b is below k and has f
abbrev pub Passes : ℕ → (ℕ → Bool) → ℕ → Type 0
Passes k f b = (b < k) × (f b ≡ true)

pub least_lowest : (k : ℕ) (f : ℕ → Bool) → any k f ≡ true → Lowest (Passes k f) (least k f)
least_lowest k f e =
    let found = least_found k f e in
    record { has = (found, least_has k f found); none = λ c l p. not_both (f c) p.1 (least_before k f c l) }

-- those below k that have f, the highest first
members : ℕ → (ℕ → Bool) → List ℕ
members zero f = []
members (suc k) f = cond (f k) (k ∷ members k f) (members k f)

members_are : (k : ℕ) (f : ℕ → Bool) → Members (Passes k f) (members k f)
unfolding members
members_are zero f = record { each = λ b m. absurd (Memᴰ.not-nil m); all = λ b p. absurd (not-suc-le-zero p.0); once = empty }
members_are (suc k) f = go (members_are k f) (f k) refl
  where
    list : List ℕ
    list = members k f

    go : Members (Passes k f) list → (t : Bool) → f k ≡ t → Members (Passes (suc k) f) (cond t (k ∷ list) list)
    go rest true e = record {
      each = λ b m. elim (Memᴰ.cases_cons m) [
        | inl q ↦ (lt_of_eq b q, ap f q ∙ e)
        | inr m' ↦ let p = rest.each b m' in (le_step p.0, p.1)
      ];
      all = λ b p. elim (below_suc b k p.0) [ inl q ↦ Memᴰ.head q | inr l ↦ Memᴰ.tail (rest.all b (l, p.1)) ];
      once = more (λ (m : Memᴰ k list). omega (arith, (rest.each k m).0)) rest.once;
    }
      where
        lt_of_eq : (b : ℕ) → b ≡ k → b < suc k
        lt_of_eq b q = omega arith
    go rest false e = record {
      each = λ b m. let p = rest.each b m in (le_step p.0, p.1);
      all = λ b p. elim (below_suc b k p.0) [ inl q ↦ absurd (not_both (f b) p.1 (ap f q ∙ e)) | inr l ↦ rest.all b (l, p.1) ];
      once = rest.once;
    }

members_length : (k : ℕ) (f : ℕ → Bool) → length (members k f) ≡ count k f
unfolding members count
members_length zero f = refl
members_length (suc k) f = go (members_length k f) (f k)
  where
    go : length (members k f) ≡ sum k (λ j. one (f j)) → (t : Bool) → length (cond t (k ∷ members k f) (members k f)) ≡ sum k (λ j. one (f j)) + one t
    go ih true = omega arith
    go ih false = omega arith

pub count_many : (k : ℕ) (f : ℕ → Bool) → SoMany (Passes k f) (count k f)
count_many k f = (members k f, members_are k f, members_length k f)

-- ---- the same of what is said in other words

module _ (P Q : ℕ → Type 0) (there : (b : ℕ) → P b → Q b) (back : (b : ℕ) → Q b → P b) where
  pub lowest_same : (b : ℕ) → Lowest P b → Lowest Q b
  lowest_same b p = record { has = there b p.has; none = λ c l q. p.none c l (back c q) }

  pub many_same : (k : ℕ) → SoMany P k → SoMany Q k
  many_same k p = (
    p.0,
    record { each = λ b m. there b (p.1.each b m); all = λ b q. p.1.all b (back b q); once = p.1.once },
    p.2,
  )

-- ---- a set of objects

module _ (set : Groups) where
  there : (b : ℕ) → Passes 256 (has set) b → ObjectOf set b
  there b p = (p.0, has_plain set b p.1)

  back : (b : ℕ) → ObjectOf set b → Passes 256 (has set) b
  back b p = (p.0, plain_has set b p.1)

pub lowest_plain : LowestPlain
unfolding lowest_object
lowest_plain set = (
  λ b p.
      let q = back set b p in
      let some : any 256 (has set) ≡ true = any_at 256 (has set) b q.0 q.1 in
      rw some (lowest_same (Passes 256 (has set)) (ObjectOf set) (there set) (back set) (least 256 (has set)) (least_lowest 256 (has set) some)),
  λ without. rw (any_none 256 (has set) (λ b l. not_true_false (has set b) (λ e. without b (there set b (l, e))))),
)

pub how_many_plain : HowManyPlain
unfolding how_many
how_many_plain set =
    many_same (Passes 256 (has set)) (ObjectOf set) (there set) (back set) (count 256 (has set)) (count_many 256 (has set))
