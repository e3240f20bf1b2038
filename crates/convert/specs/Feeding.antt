-- What copying a window leads to. 01 has no sentence of it: the program goes on in the window behind what was used.
use Rattle.std.specs.Prelude.{ℕ, ◌≤◌}
use Rattle.convert.specs.declared.Fed.{Fed}
use Rattle.convert.specs.declared.Fed.TheVariants.{More, Ended}

-- no more bytes are used than there are
abbrev pub UsesAtMost : ℕ → Fed → Type 0
UsesAtMost size (More reading used) = used ≤ size
UsesAtMost size (Ended verdict) = Unit {0}
