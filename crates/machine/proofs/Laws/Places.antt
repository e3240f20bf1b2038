-- What a number put into the words leaves at the places: its own place has it, every other is as it was. And the same of the sets of a task.
use Prim.Native.Nat.{ℕ, ◌+◌, ◌*◌, ◌<◌}
use mathlib.Core.Path.{◌≡◌, sym, ◌∙◌}
use mathlib.Core.Logic.{◌≢◌}
use mathlib.Core.List.{List}
use mathlib.Core.Bool.{true, false}
use native.Mathlib.Omega.{arith}
use lib.Dec.{eqb, ltb, leb}
use lib.ListN.{length, get_or, set, length-set}
use lib.Seq.{get_or-set_same, get_or-set_other}
use borrow.Author.Tests.{eqb-false, ltb-true, leb-true, lt-ltb, ne_eqb}
use Rattle.rules.specs.Demand3.{SameSets}
use Rattle.rules.proofs.Laws.Rows.{four_length, four_kept, four_put_lem}
use Rattle.machine.specs.Places.{set_place, sets_in, four_put, sets_put}

-- ---- one number

-- every other place is as it was
pub kept : (w : List ℕ) (p q v : ℕ) → p ≢ q → get_or (set w p v) q 0 ≡ get_or w q 0
kept w p q v d = get_or-set_other w p q v 0 (λ e. d (sym e))

-- its own place has it
pub put : (w : List ℕ) (p v : ℕ) → p < length w → get_or (set w p v) p 0 ≡ v
put w p v l = get_or-set_same w p v 0 l

-- the words stay as many
pub sized : (w : List ℕ) (p v : ℕ) → length w ≡ 1280 → length (set w p v) ≡ 1280
sized w p v size = length-set w p v ∙ size

-- ---- the sets of a task

module _ (w : List ℕ) (i : ℕ) (reads writes : List ℕ) where
  -- after the read set
  abbrev reads_in : List ℕ
  reads_in = four_put w (set_place i 0) reads

  -- the words stay as many
  pub sets_length : length (sets_put w i reads writes) ≡ length w
  unfolding sets_put
  sets_length = four_length reads_in (set_place i 4) writes ∙ four_length w (set_place i 0) reads

  -- a place that is none of the task's eight
  pub sets_kept : (q : ℕ) → ((g : ℕ) → g < 8 → set_place i g ≢ q) → get_or (sets_put w i reads writes) q 0 ≡ get_or w q 0
  unfolding sets_put
  sets_kept q apart =
      four_kept reads_in (set_place i 4) writes q (λ g l e. apart (4 + g) (omega arith) (omega arith))
      ∙ four_kept w (set_place i 0) reads q (λ g l e. apart g (omega arith) (omega arith))

  -- every place before the sets
  pub sets_before : (q : ℕ) → q < 648 → get_or (sets_put w i reads writes) q 0 ≡ get_or w q 0
  sets_before q l = sets_kept q (λ g m. omega arith)

  -- the task has the new sets
  pub sets_own : length w ≡ 1280 → i < 64
      → SameSets (sets_in (sets_put w i reads writes) i) (record { reads = λ g. get_or reads g 0; writes = λ g. get_or writes g 0 })
  unfolding sets_put
  sets_own size li g l = (
    four_kept reads_in (set_place i 4) writes (set_place i 0 + g) (λ h m. omega arith) ∙ four_put_lem w (set_place i 0) reads g (omega arith) l,
    four_put_lem reads_in (set_place i 4) writes g (omega (arith, four_length w (set_place i 0) reads)) l,
  )

  -- every other task has its own
  pub sets_other : (j : ℕ) → i ≢ j → SameSets (sets_in (sets_put w i reads writes) j) (sets_in w j)
  sets_other j d g l = (sets_kept (set_place j 0 + g) (λ h m. omega arith), sets_kept (set_place j 4 + g) (λ h m. omega arith))

-- ---- any chain of these, for simp: each condition is a test, which computes at numerals, and at the places of a task is one of the laws below

-- another place
pub passes : (w : List ℕ) (p q v : ℕ) → eqb p q ≡ false → get_or (set w p v) q 0 ≡ get_or w q 0
passes w p q v e = kept w p q v (eqb-false p q e)

-- its own
pub stands : (w : List ℕ) (p v : ℕ) → ltb p (length w) ≡ true → get_or (set w p v) p 0 ≡ v
stands w p v l = put w p v (ltb-true p (length w) l)

-- a place before the sets
pub sets_passes : (w : List ℕ) (i : ℕ) (reads writes : List ℕ) (q : ℕ) → ltb q 648 ≡ true → get_or (sets_put w i reads writes) q 0 ≡ get_or w q 0
sets_passes w i reads writes q l = sets_before w i reads writes q (ltb-true q 648 l)

-- and one behind them
pub sets_behind : (w : List ℕ) (i : ℕ) (reads writes : List ℕ) (k : ℕ) → ltb i 64 ≡ true
    → get_or (sets_put w i reads writes) (1160 + k) 0 ≡ get_or w (1160 + k) 0
sets_behind w i reads writes k l = sets_kept w i reads writes (1160 + k) (λ g m. omega (arith, ltb-true))

-- a place before another
pub row_behind : (k q : ℕ) → ltb q 8 ≡ true → eqb (8 + k) q ≡ false
row_behind k q l = ne_eqb (8 + k) q (omega (arith, ltb-true))

pub before_row : (k q : ℕ) → ltb q 8 ≡ true → eqb q (8 + k) ≡ false
before_row k q l = ne_eqb q (8 + k) (omega (arith, ltb-true))

pub above_behind : (i q : ℕ) → ltb q 72 ≡ true → eqb (72 + i) q ≡ false
above_behind i q l = ne_eqb (72 + i) q (omega (arith, ltb-true))

pub before_above : (i q : ℕ) → ltb q 72 ≡ true → eqb q (72 + i) ≡ false
before_above i q l = ne_eqb q (72 + i) (omega (arith, ltb-true))

pub number_behind : (i f q : ℕ) → ltb q 136 ≡ true → eqb (136 + i * 8 + f) q ≡ false
number_behind i f q l = ne_eqb (136 + i * 8 + f) q (omega (arith, ltb-true))

pub before_number : (i f q : ℕ) → ltb q 136 ≡ true → eqb q (136 + i * 8 + f) ≡ false
before_number i f q l = ne_eqb q (136 + i * 8 + f) (omega (arith, ltb-true))

pub set_behind : (i g q : ℕ) → ltb q 648 ≡ true → eqb (648 + i * 8 + g) q ≡ false
set_behind i g q l = ne_eqb (648 + i * 8 + g) q (omega (arith, ltb-true))

pub before_set : (i g q : ℕ) → ltb q 648 ≡ true → eqb q (648 + i * 8 + g) ≡ false
before_set i g q l = ne_eqb q (648 + i * 8 + g) (omega (arith, ltb-true))

pub rank_behind : (i q : ℕ) → ltb q 1160 ≡ true → eqb (1160 + i) q ≡ false
rank_behind i q l = ne_eqb (1160 + i) q (omega (arith, ltb-true))

pub before_rank : (i q : ℕ) → ltb q 1160 ≡ true → eqb q (1160 + i) ≡ false
before_rank i q l = ne_eqb q (1160 + i) (omega (arith, ltb-true))

-- two places of one kind
pub rows_differ : (j k : ℕ) → eqb j k ≡ false → eqb (8 + j) (8 + k) ≡ false
rows_differ j k e = let d : j ≢ k = eqb-false j k e in ne_eqb (8 + j) (8 + k) (omega arith)

pub aboves_differ : (i j : ℕ) → eqb i j ≡ false → eqb (72 + i) (72 + j) ≡ false
aboves_differ i j e = let d : i ≢ j = eqb-false i j e in ne_eqb (72 + i) (72 + j) (omega arith)

pub fields_differ : (i f g : ℕ) → eqb f g ≡ false → eqb (136 + i * 8 + f) (136 + i * 8 + g) ≡ false
fields_differ i f g e = let d : f ≢ g = eqb-false f g e in ne_eqb (136 + i * 8 + f) (136 + i * 8 + g) (omega arith)

pub numbers_differ : (i j f g : ℕ) → eqb i j ≡ false → ltb f 8 ≡ true → ltb g 8 ≡ true → eqb (136 + i * 8 + f) (136 + j * 8 + g) ≡ false
numbers_differ i j f g e l m =
    let d : i ≢ j = eqb-false i j e in
    ne_eqb (136 + i * 8 + f) (136 + j * 8 + g) (omega (arith, ltb-true))

pub ranks_differ : (i j : ℕ) → eqb i j ≡ false → eqb (1160 + i) (1160 + j) ≡ false
ranks_differ i j e = let d : i ≢ j = eqb-false i j e in ne_eqb (1160 + i) (1160 + j) (omega arith)

-- how far a place lies
pub row_below : (k n : ℕ) → ltb k 64 ≡ true → leb 72 n ≡ true → ltb (8 + k) n ≡ true
row_below k n l m = lt-ltb (8 + k) n (omega (arith, ltb-true, leb-true))

pub above_below : (i n : ℕ) → ltb i 64 ≡ true → leb 136 n ≡ true → ltb (72 + i) n ≡ true
above_below i n l m = lt-ltb (72 + i) n (omega (arith, ltb-true, leb-true))

pub number_below : (i f n : ℕ) → ltb i 64 ≡ true → ltb f 8 ≡ true → leb 648 n ≡ true → ltb (136 + i * 8 + f) n ≡ true
number_below i f n l lf m = lt-ltb (136 + i * 8 + f) n (omega (arith, ltb-true, leb-true))

pub set_below : (i g n : ℕ) → ltb i 64 ≡ true → ltb g 8 ≡ true → leb 1160 n ≡ true → ltb (648 + i * 8 + g) n ≡ true
set_below i g n l lg m = lt-ltb (648 + i * 8 + g) n (omega (arith, ltb-true, leb-true))

pub rank_below : (i n : ℕ) → ltb i 64 ≡ true → leb 1224 n ≡ true → ltb (1160 + i) n ≡ true
rank_below i n l m = lt-ltb (1160 + i) n (omega (arith, ltb-true, leb-true))

-- `simp (chain, size)`, with size : length w ≡ 1280 and, where a task's place is asked for, i < 64 as a test
pub ruleset chain = (passes, stands, length-set, sets_passes, sets_behind, sets_length, row_behind, before_row, above_behind, before_above, number_behind, before_number, set_behind, before_set, rank_behind, before_rank, rows_differ, aboves_differ, fields_differ, numbers_differ, ranks_differ, row_below, above_below, number_below, set_below, rank_below)
