-- The counts raised place by place, as the loop that does it goes.
use Prim.Native.Nat.{ℕ, ◌+◌, ◌≤◌}
use mathlib.Core.Path.{◌≡◌, refl}
use mathlib.Core.List.{List}
use mathlib.Core.Bool.{cond}
use native.Mathlib.Numerals.{add-one}
use lib.Dec.{ltb}
use Rattle.objects.specs.Below.{count}
use Rattle.objects.specs.Objects.{bit}
use Rattle.objects.proofs.Laws.Below.{count_le}
use Rattle.machine.specs.Bits.{ones}
use Rattle.machine.specs.Places.{m_of, row_task}
use Rattle.machine.specs.Asked.{clash_in}
use Rattle.machine.specs.Events.{counts_raised, raised_in}

ones_is : (x : ℕ) → ones x ≡ count 64 (bit x)
unfolding ones
ones_is x = refl

-- a word has at most 64 bits set
pub ones_few : (x : ℕ) → ones x ≤ 64
ones_few x = rw (ones_is x) (count_le 64 (bit x))

module _ (w : List ℕ) (i busy : ℕ) where
  -- before the first place
  pub raised_none : raised_in w i busy 0 ≡ w
  unfolding raised_in
  raised_none = refl

  -- one place more, by whether the task that stands there clashes
  pub raised_more : (p : ℕ) → let v = raised_in w i busy p in
      raised_in w i busy (p + 1)
      ≡ cond (clash_in v i (row_task v p)) (counts_raised v (row_task v p) (ltb (busy + p) (m_of v))) v
  unfolding raised_in
  raised_more p = rw (add-one p)
