-- The laws of the clash: it is what the plain sentence says, it is the same both ways round, and it is decided group by group, by the machine's operations on
-- four words.
use Prim.Native.Nat.{ℕ, ◌+◌, ◌*◌, ◌/◌, ◌%◌, ◌^◌, ◌<◌}
use mathlib.Core.Path.{◌≡◌, refl, sym, ap, ap₂, ◌∙◌}
use mathlib.Core.Logic.{◌⊎◌, inl, inr}
use mathlib.Core.Bool.{Bool, true, false, not, ◌&&◌, ◌||◌, and_comm, or_comm}
use lib.Dec.{eqb}
use lib.Bits.{bit_and, bit_or, and_lt, or_lt}
use Rattle.objects.specs.Below.{any}
use Rattle.objects.specs.Objects.{Groups, Sets, bit, has, contended, clash_on, clash, Has, ClashOn, nothing, contested_word, group_contested}
use Rattle.objects.specs.Laws.{ClashOnPlain, ClashPlain, ClashSymmetric, ReadersAgree, EmptyAgrees, NothingAgrees}
use Rattle.objects.proofs.Laws.Below.{or_cases, or_left, or_right, and_left, and_right, and_both, any_ext, any_none, any_at, any_witness, any_blocks}
use Rattle.objects.proofs.Laws.Bits.{bit_and_lem, bit_or_lem, bit_word, word_lt, word_eq, any_bit, zero_none, none_zero, bit_set, set_bit}
use Rattle.objects.proofs.Laws.Sets.{has_split, has_none}

-- ---- one object

-- what the machine computes of one object
pub contended_machine : (r w r' w' : Bool) → ((w && (r' || w')) || (r && w')) ≡ contended r w r' w'
contended_machine true true true w' = refl
contended_machine true true false true = refl
contended_machine true true false false = refl
contended_machine true false true true = refl
contended_machine true false true false = refl
contended_machine true false false true = refl
contended_machine true false false false = refl
contended_machine false true true w' = refl
contended_machine false true false true = refl
contended_machine false true false false = refl
contended_machine false false r' w' = refl

pub contended_sym : (r w r' w' : Bool) → contended r w r' w' ≡ contended r' w' r w
contended_sym r w r' w' = ap₂ (λ (a b : Bool). a && b) (and_comm (r || w) (r' || w')) (or_comm w w')

pub contended_readers : (r r' : Bool) → contended r false r' false ≡ false
contended_readers true true = refl
contended_readers true false = refl
contended_readers false r' = refl

-- ---- one group

-- bit i of the contested word is set where object i of the group is contended
pub contested_bit : (r w r' w' i : ℕ) → i < 64 → bit (contested_word r w r' w') i ≡ contended (bit r i) (bit w i) (bit r' i) (bit w' i)
unfolding contested_word
contested_bit r w r' w' i l = bit_word 64 (λ b. contended (bit r b) (bit w b) (bit r' b) (bit w' b)) i l

pub contested_lt : (r w r' w' : ℕ) → contested_word r w r' w' < 2 ^ 64
unfolding contested_word
contested_lt r w r' w' = word_lt 64 (λ b. contended (bit r b) (bit w b) (bit r' b) (bit w' b))

-- the machine's four operations give the contested word
pub contested_machine : (r w r' w' : ℕ) → r < 2 ^ 64 → w < 2 ^ 64 → r' < 2 ^ 64 → w' < 2 ^ 64
    → bit_or (bit_and w (bit_or r' w')) (bit_and r w') ≡ contested_word r w r' w'
contested_machine r w r' w' hr hw hr' hw' =
    word_eq 64 (bit_or (bit_and w (bit_or r' w')) (bit_and r w')) (contested_word r w r' w')
    (or_lt 64 (bit_and w (bit_or r' w')) (bit_and r w') (and_lt 64 w (bit_or r' w') hw (or_lt 64 r' w' hr' hw')) (and_lt 64 r w' hr hw'))
    (contested_lt r w r' w')
    (λ i l. bit_or_lem (bit_and w (bit_or r' w')) (bit_and r w') i
    ∙ ap₂ (λ (a b : Bool). a || b) (bit_and_lem w (bit_or r' w') i ∙ ap (λ (a : Bool). bit w i && a) (bit_or_lem r' w' i)) (bit_and_lem r w' i)
    ∙ contended_machine (bit r i) (bit w i) (bit r' i) (bit w' i) ∙ sym (contested_bit r w r' w' i l))

-- some bit of the contested word, where the group is contested
pub group_contested_bits : (r w r' w' : ℕ) → group_contested r w r' w' ≡ any 64 (bit (contested_word r w r' w'))
unfolding group_contested
group_contested_bits r w r' w' =
    any_ext 64 (λ b. contended (bit r b) (bit w b) (bit r' b) (bit w' b)) (bit (contested_word r w r' w'))
    (λ i l. sym (contested_bit r w r' w' i l))

-- a group is contested where its contested word is not 0
pub group_contested_word : (r w r' w' : ℕ) → group_contested r w r' w' ≡ not (eqb (contested_word r w r' w') 0)
group_contested_word r w r' w' = group_contested_bits r w r' w' ∙ any_bit 64 (contested_word r w r' w') (contested_lt r w r' w')

pub uncontested_zero : (r w r' w' : ℕ) → group_contested r w r' w' ≡ false → contested_word r w r' w' ≡ 0
uncontested_zero r w r' w' e =
    none_zero 64 (contested_word r w r' w') (contested_lt r w r' w') (sym (group_contested_bits r w r' w') ∙ e)

pub zero_uncontested : (r w r' w' : ℕ) → contested_word r w r' w' ≡ 0 → group_contested r w r' w' ≡ false
zero_uncontested r w r' w' e = group_contested_bits r w r' w' ∙ ap (λ (v : ℕ). any 64 (bit v)) e ∙ zero_none 64

-- ---- the clash, group by group

-- object g * 64 + i is clashed on where bit i of group g is contended
pub clash_on_split : (x y : Sets) (g i : ℕ) → i < 64
    → clash_on x y (g * 64 + i) ≡ contended (bit (x.reads g) i) (bit (x.writes g) i) (bit (y.reads g) i) (bit (y.writes g) i)
unfolding clash_on
clash_on_split x y g i l =
    ap₂ (λ (a b : Bool). a && b)
    (ap₂ (λ (a b : Bool). a && b)
    (ap₂ (λ (a b : Bool). a || b) (has_split x.reads g i l) (has_split x.writes g i l))
    (ap₂ (λ (a b : Bool). a || b) (has_split y.reads g i l) (has_split y.writes g i l)))
    (ap₂ (λ (a b : Bool). a || b) (has_split x.writes g i l) (has_split y.writes g i l))

-- some object of group g is clashed on where the group is contested
pub clash_on_group : (x y : Sets) (g : ℕ)
    → any 64 (λ i. clash_on x y (g * 64 + i)) ≡ group_contested (x.reads g) (x.writes g) (y.reads g) (y.writes g)
unfolding group_contested
clash_on_group x y g =
    any_ext 64 (λ i. clash_on x y (g * 64 + i))
    (λ i. contended (bit (x.reads g) i) (bit (x.writes g) i) (bit (y.reads g) i) (bit (y.writes g) i)) (clash_on_split x y g)

-- the definition of the clash
clash_is : (x y : Sets) → clash x y ≡ any 256 (clash_on x y)
unfolding clash
clash_is x y = refl

pub clash_groups : (x y : Sets) → clash x y ≡ any 4 (λ g. group_contested (x.reads g) (x.writes g) (y.reads g) (y.writes g))
clash_groups x y =
    clash_is x y ∙ any_blocks 4 64 (clash_on x y)
    ∙ any_ext 4 (λ g. any 64 (λ i. clash_on x y (g * 64 + i))) (λ g. group_contested (x.reads g) (x.writes g) (y.reads g) (y.writes g))
    (λ g l. clash_on_group x y g)

-- ---- what a reader believes

pub has_plain : (set : Groups) (b : ℕ) → has set b ≡ true → Has set b
unfolding has
has_plain set b = bit_set (set (b / 64)) (b % 64)

pub plain_has : (set : Groups) (b : ℕ) → Has set b → has set b ≡ true
unfolding has
plain_has set b = set_bit (set (b / 64)) (b % 64)

-- in either of two sets
either_plain : (s t : Groups) (b : ℕ) → (has s b || has t b) ≡ true → Has s b ⊎ Has t b
either_plain s t b e = elim (or_cases (has s b) (has t b) e) [ inl p ↦ inl (has_plain s b p) | inr q ↦ inr (has_plain t b q) ]

plain_either : (s t : Groups) (b : ℕ) → Has s b ⊎ Has t b → (has s b || has t b) ≡ true
plain_either s t b (inl p) = or_left (has s b) (has t b) (plain_has s b p)
plain_either s t b (inr q) = or_right (has s b) (has t b) (plain_has t b q)

on_plain : (x y : Sets) (b : ℕ) → b < 256 → clash_on x y b ≡ true → ClashOn x y b
unfolding clash_on
on_plain x y b l e =
    let first = has x.reads b || has x.writes b in
    let second = has y.reads b || has y.writes b in
    let writes = has x.writes b || has y.writes b in
    let both : (first && second) ≡ true = and_left (first && second) writes e in
    record {
      object = l;
      in_first = either_plain x.reads x.writes b (and_left first second both);
      in_second = either_plain y.reads y.writes b (and_right first second both);
      written = either_plain x.writes y.writes b (and_right (first && second) writes e);
    }

plain_on : (x y : Sets) (b : ℕ) → ClashOn x y b → clash_on x y b ≡ true
unfolding clash_on
plain_on x y b c =
    let first = has x.reads b || has x.writes b in
    let second = has y.reads b || has y.writes b in
    and_both (first && second) (has x.writes b || has y.writes b)
    (and_both first second (plain_either x.reads x.writes b c.in_first) (plain_either y.reads y.writes b c.in_second))
    (plain_either x.writes y.writes b c.written)

pub clash_on_plain : ClashOnPlain
clash_on_plain x y b l = (on_plain x y b l, plain_on x y b)

pub clash_plain : ClashPlain
clash_plain x y = (
  λ e. let w = any_witness 256 (clash_on x y) (sym (clash_is x y) ∙ e) in (w.0, on_plain x y w.0 w.1 w.2),
  λ c. clash_is x y ∙ any_at 256 (clash_on x y) c.0 c.1.object (plain_on x y c.0 c.1),
)

-- two that clash on the same objects clash alike
clash_ext : (x y z v : Sets) → ((b : ℕ) → b < 256 → clash_on x y b ≡ clash_on z v b) → clash x y ≡ clash z v
clash_ext x y z v h = clash_is x y ∙ any_ext 256 (clash_on x y) (clash_on z v) h ∙ sym (clash_is z v)

clash_none : (x y : Sets) → ((b : ℕ) → b < 256 → clash_on x y b ≡ false) → clash x y ≡ false
clash_none x y h = clash_is x y ∙ any_none 256 (clash_on x y) h

on_symmetric : (x y : Sets) (b : ℕ) → clash_on x y b ≡ clash_on y x b
unfolding clash_on
on_symmetric x y b = contended_sym (has x.reads b) (has x.writes b) (has y.reads b) (has y.writes b)

pub clash_sym : ClashSymmetric
clash_sym x y = clash_ext x y y x (λ b l. on_symmetric x y b)

on_readers : (x y : Sets) (b : ℕ) → has x.writes b ≡ false → has y.writes b ≡ false → clash_on x y b ≡ false
unfolding clash_on
on_readers x y b p q =
    ap₂ (λ (w w' : Bool). contended (has x.reads b) w (has y.reads b) w') p q ∙ contended_readers (has x.reads b) (has y.reads b)

pub readers_agree : ReadersAgree
readers_agree x y p q = clash_none x y (λ b l. on_readers x y b (has_none x.writes p b l) (has_none y.writes q b l))

on_empty : (x y : Sets) (b : ℕ) → has x.reads b ≡ false → has x.writes b ≡ false → clash_on x y b ≡ false
unfolding clash_on
on_empty x y b p q = ap₂ (λ (r w : Bool). contended r w (has y.reads b) (has y.writes b)) p q

pub empty_agrees : EmptyAgrees
empty_agrees x y p q = clash_none x y (λ b l. on_empty x y b (has_none x.reads p b l) (has_none x.writes q b l))

pub nothing_agrees : NothingAgrees
unfolding nothing
nothing_agrees y = empty_agrees nothing y (λ g l. refl) (λ g l. refl)
