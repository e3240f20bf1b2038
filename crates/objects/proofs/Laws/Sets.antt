-- The laws of a set of objects in four groups. Object g * 64 + i is bit i of group g, so a question about 256 objects is one about four words: some object,
-- the lowest object and how many objects there are.
use Prim.Native.Nat.{ℕ, ◌+◌, ◌*◌, ◌/◌, ◌%◌, ◌^◌, ◌<◌}
use mathlib.Core.Path.{◌≡◌, refl, sym, ap, ap₂, ◌∙◌, fun_ext}
use mathlib.Core.Logic.{◌≢◌, ◌⊎◌, inl, inr}
use mathlib.Core.Bool.{Bool, true, false, cond, not}
use mathlib.Core.List.{List}
use native.Mathlib.Nat.{zero-add, eq-or-lt_of_le}
use native.Mathlib.Omega.{arith}
use lib.ListN.{get_or}
use lib.Arith.{digits_div, digits_mod}
use lib.Count.{count_trailing_zeros}
use borrow.Author.Tests.{ne_eqb}
use Rattle.objects.specs.Below.{any, sum, count, least}
use Rattle.objects.specs.Objects.{Groups, groups_at, bit, has, lowest_object, how_many}
use Rattle.objects.proofs.Laws.Below.{any_none, any_at, any_ext, any_blocks, sum_ext, count_ext, count_blocks, least_found, least_has, least_before, least_unique}
use Rattle.objects.proofs.Laws.Bits.{bit_zero, any_bit, trailing_least}

-- the groups at the start of a row of words are its words
pub groups_at_start : (words : List ℕ) → groups_at words 0 ≡ (λ g. get_or words g 0)
groups_at_start words = fun_ext (λ g. ap (λ (i : ℕ). get_or words i 0) (zero-add g))

-- object g * 64 + i is bit i of group g
pub has_split : (set : Groups) (g i : ℕ) → i < 64 → has set (g * 64 + i) ≡ bit (set g) i
unfolding has
has_split set g i l = ap₂ (λ (x y : ℕ). bit (set x) y) (digits_div g l) (digits_mod g l)

pub has_group : (set : Groups) (b g : ℕ) → b / 64 ≡ g → has set b ≡ bit (set g) (b % 64)
unfolding has
has_group set b g e = ap (λ (x : ℕ). bit (set x) (b % 64)) e

-- an object of an empty group is not in the set
pub has_empty : (set : Groups) (b : ℕ) → set (b / 64) ≡ 0 → has set b ≡ false
unfolding has
has_empty set b e = ap (λ (w : ℕ). bit w (b % 64)) e ∙ bit_zero (b % 64)

-- no object where the four groups are empty
pub has_none : (set : Groups) → ((g : ℕ) → g < 4 → set g ≡ 0) → (b : ℕ) → b < 256 → has set b ≡ false
has_none set h b l = has_empty set b (h (b / 64) (omega arith))

-- some object, group by group
pub any_object : (set : Groups) → any 256 (has set) ≡ any 4 (λ g. any 64 (bit (set g)))
any_object set =
    any_blocks 4 64 (has set)
    ∙ any_ext 4 (λ g. any 64 (λ i. has set (g * 64 + i))) (λ g. any 64 (bit (set g)))
    (λ g l. any_ext 64 (λ i. has set (g * 64 + i)) (bit (set g)) (has_split set g))

pub lowest_some : (set : Groups) → any 256 (has set) ≡ true → lowest_object set ≡ least 256 (has set)
unfolding lowest_object
lowest_some set e = ap (λ (b : Bool). cond b (least 256 (has set)) 0) e

pub lowest_none : (set : Groups) → ((g : ℕ) → g < 4 → set g ≡ 0) → lowest_object set ≡ 0
unfolding lowest_object
lowest_none set h = ap (λ (b : Bool). cond b (least 256 (has set)) 0) (any_none 256 (has set) (has_none set h))

-- an object below object g * 64 + i is in an earlier group, or a lower bit of the same
earlier : (b g i : ℕ) → i < 64 → b < g * 64 + i → ((b / 64 ≡ g) × (b % 64 < i)) ⊎ (b / 64 < g)
earlier b g i l m = go (eq-or-lt_of_le {n = b / 64} {m = g} (omega arith))
  where
    go : (b / 64 ≡ g) ⊎ (b / 64 < g) → ((b / 64 ≡ g) × (b % 64 < i)) ⊎ (b / 64 < g)
    go (inl p) = inl (p, omega arith)
    go (inr q) = inr q

object_below : (g i : ℕ) → g < 4 → i < 64 → g * 64 + i < 256
object_below g i l m = omega arith

-- a word that is not 0 has a lowest bit
low_found : (w : ℕ) → w < 2 ^ 64 → w ≢ 0 → least 64 (bit w) < 64
low_found w fits full = least_found 64 (bit w) (any_bit 64 w fits ∙ ap not (ne_eqb w 0 full))

-- the number of a group's lowest object
pub lowest_below : (w g : ℕ) → g < 4 → w < 2 ^ 64 → w ≢ 0 → g * 64 + count_trailing_zeros 64 w < 256
lowest_below w g l fits full = rw trailing_least (object_below g (least 64 (bit w)) l (low_found w fits full))

-- the lowest object is that of the first group that has one
pub lowest_at : (set : Groups) (g : ℕ) → g < 4 → set g < 2 ^ 64 → set g ≢ 0 → ((j : ℕ) → j < g → set j ≡ 0)
    → g * 64 + least 64 (bit (set g)) ≡ lowest_object set
lowest_at set g l fits full before =
    sym (lowest_some set (any_at 256 (has set) object below held) ∙ least_unique 256 (has set) object below held lower)
  where
    low : ℕ
    low = least 64 (bit (set g))

    found : low < 64
    found = low_found (set g) fits full

    object : ℕ
    object = g * 64 + low

    below : object < 256
    below = object_below g low l found

    held : has set object ≡ true
    held = has_split set g low found ∙ least_has 64 (bit (set g)) found

    lower : (b : ℕ) → b < object → has set b ≡ false
    lower b m = go (earlier b g low found m)
      where
        go : ((b / 64 ≡ g) × (b % 64 < low)) ⊎ (b / 64 < g) → has set b ≡ false
        go (inl p) = has_group set b g p.0 ∙ least_before 64 (bit (set g)) (b % 64) p.1
        go (inr q) = has_empty set b (before (b / 64) q)

-- an object's number is below 256, and so is 0
pub lowest_lt : (set : Groups) → lowest_object set < 256
unfolding lowest_object
lowest_lt set = go (any 256 (has set)) refl
  where
    go : (b : Bool) → any 256 (has set) ≡ b → cond b (least 256 (has set)) 0 < 256
    go true e = least_found 256 (has set) e
    go false e = omega arith

-- how many objects, group by group
pub how_many_groups : (set : Groups) → sum 4 (λ g. count 64 (bit (set g))) ≡ how_many set
unfolding how_many
how_many_groups set =
    sym (count_blocks 4 64 (has set)
    ∙ sum_ext 4 (λ g. count 64 (λ i. has set (g * 64 + i))) (λ g. count 64 (bit (set g)))
    (λ g l. count_ext 64 (λ i. has set (g * 64 + i)) (bit (set g)) (has_split set g)))
