-- A set of objects looked through group by group: how many objects the groups passed have, and the lowest of them.
use Prim.Native.Nat.{ℕ, zero, suc, ◌+◌, ◌*◌, ◌^◌, ◌≤◌, ◌<◌, zero-le}
use mathlib.Core.Path.{◌≡◌, refl, sym, ap, ◌∙◌}
use mathlib.Core.Logic.{◌≢◌}
use mathlib.Core.Bool.{Bool, true, false, cond}
use native.Mathlib.Nat.{add-zero}
use native.Mathlib.Omega.{arith}
use lib.Dec.{eqb}
use borrow.Author.Tests.{eqb-true, ne_eqb}
use Rattle.objects.specs.Below.{sum}
use Rattle.objects.specs.Objects.{Groups, bit, lowest_object, how_many}
use Rattle.objects.proofs.Laws.Below.{any_none, sum_empty, sum_more, sum_term, count_le, count_none, count_zero}
use Rattle.objects.proofs.Laws.Bits.{bit_zero, none_zero}
use Rattle.objects.proofs.Laws.Sets.{lowest_at, lowest_none, how_many_groups}
use Rattle.machine.specs.Bits.{ones, lowest}

-- ---- one group

-- a word has at most 64 objects
pub ones_few : (x : ℕ) → ones x ≤ 64
unfolding ones
ones_few x = count_le 64 (bit x)

-- it has none where it is 0, and only there
ones_zero : ones 0 ≡ 0
unfolding ones
ones_zero = count_none 64 (bit 0) (λ j l. bit_zero j)

ones_none : (x : ℕ) → x < 2 ^ 64 → ones x ≡ 0 → x ≡ 0
unfolding ones
ones_none x l e = none_zero 64 x l (any_none 64 (bit x) (count_zero 64 (bit x) e))

both_none : (x y : ℕ) → x + y ≡ 0 → (x ≡ 0) × (y ≡ 0)
both_none x y e = (omega arith, omega arith)

-- ---- the four

module _ (set : Groups) (fits : (g : ℕ) → g < 4 → set g < 2 ^ 64) where
  -- how many objects the groups below g have
  abbrev many_below : ℕ → ℕ
  many_below g = sum g (λ k. ones (set k))

  -- after the groups below g: how many objects they have, and the lowest object, which is 0 until one is found
  pub record Passed (g object many : ℕ) : Type 0 where
    pub few : g ≤ 4
    pub counted : many ≡ many_below g
    pub found : object ≡ cond (eqb many 0) 0 (lowest_object set)

  -- at first no group is passed
  pub passed_none : Passed 0 0 0
  passed_none = record { few = zero-le; counted = sym (sum_empty (λ k. ones (set k))); found = refl }

  -- at most 64 objects a group
  many_few : (g : ℕ) → many_below g ≤ g * 64
  unfolding sum
  many_few zero = zero-le
  many_few (suc g) = omega (arith, many_few g, ones_few (set g))

  pub passed_few : {g object many : ℕ} → Passed g object many → many ≤ g * 64
  passed_few {g} p = rw p.counted (many_few g)

  -- where there is no object yet, each group passed is empty
  all_empty : {g object many : ℕ} → Passed g object many → many ≡ 0 → (k : ℕ) → k < g → set k ≡ 0
  all_empty {g} p none k l =
      ones_none (set k) (fits k (omega (arith, p.few)))
      (let term : ones (set k) ≤ many_below g = sum_term g (λ k. ones (set k)) k l in
      let sum_none : many_below g ≡ 0 = sym p.counted ∙ none in
      omega arith)

  -- one group more, with its word, the lowest object that is found with it and how many objects it has
  module _ {g object many : ℕ} (p : Passed g object many) (l : g < 4) (word new count : ℕ) (is : word ≡ set g) (counts : count ≡ ones word) where
    abbrev after : Type 0
    after = Passed (g + 1) new (many + count)

    passed_with : new ≡ cond (eqb (many + count) 0) 0 (lowest_object set) → after
    passed_with e = record {
      few = omega arith;
      counted = rw (counts, is, p.counted) (sym (sum_more g (λ k. ones (set k))));
      found = e;
    }

    -- some object is found: the lowest of all
    passed_some : new ≡ lowest_object set → many + count ≢ 0 → after
    passed_some e some = passed_with (e ∙ ap (λ (b : Bool). cond b 0 (lowest_object set)) (sym (ne_eqb (many + count) 0 some)))

    -- it is the first group that is not empty, and the lowest object is its lowest
    pub passed_first : many ≡ 0 → word ≢ 0 → (low : ℕ) → low ≡ lowest word → new ≡ g * 64 + low → after
    unfolding lowest
    passed_first none full low e found =
        passed_some
        (found ∙ rw (e, is) (lowest_at set g l (fits g l) (λ q. full (is ∙ q)) (all_empty p none)))
        (λ q. full (ones_none word (rw is (fits g l)) (sym counts ∙ (both_none many count q).1)))

    -- an object was found before it
    pub passed_later : many ≢ 0 → new ≡ object → after
    passed_later some same =
        passed_some (same ∙ p.found ∙ ap (λ (b : Bool). cond b 0 (lowest_object set)) (ne_eqb many 0 some)) (λ q. some (both_none many count q).0)

    -- it is empty
    pub passed_empty : word ≡ 0 → new ≡ object → after
    passed_empty none same =
        let nothing : count ≡ 0 = counts ∙ ap ones none ∙ ones_zero in
        passed_with (same ∙ p.found ∙ ap (λ (x : ℕ). cond (eqb x 0) 0 (lowest_object set)) (sym (ap (λ (x : ℕ). many + x) nothing ∙ add-zero many)))

  -- all four are passed: it is the lowest object of the set, and as many as it has
  module _ {g object many : ℕ} (p : Passed g object many) (all : g ≡ 4) where
    pub passed_lowest : object ≡ lowest_object set
    passed_lowest = go (eqb many 0) refl
      where
        go : (b : Bool) → eqb many 0 ≡ b → object ≡ lowest_object set
        go true e =
            p.found ∙ ap (λ (b : Bool). cond b 0 (lowest_object set)) e
            ∙ sym (lowest_none set (λ k l. all_empty p (eqb-true many 0 e) k (omega (arith, l, all))))
        go false e = p.found ∙ ap (λ (b : Bool). cond b 0 (lowest_object set)) e

    pub passed_many : many ≡ how_many set
    unfolding ones
    passed_many = p.counted ∙ ap many_below all ∙ how_many_groups set
