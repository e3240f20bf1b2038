-- The bytes of a window from a place up to an end. An end past the window's length means its length, and a place past the end an empty part.
use Rattle.std.specs.Prelude.{ℕ, List, take, drop}

abbrev pub part : ℕ → ℕ → List ℕ → List ℕ
part from end window = drop from (take end window)
