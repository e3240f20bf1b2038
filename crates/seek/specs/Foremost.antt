-- The highest ranked of some tasks.
use Rattle.std.specs.Prelude.{ℕ, zero, suc, List, Bool, cond, ◌&&◌, ◌||◌, eqb}
use Rattle.objects.specs.Objects.{bit}
use Rattle.machine.specs.Places.{above_of}

-- the highest ranked, by who ranks above whom, of the tasks below k that have f; 64 where there is none
unfoldable pub foremost : List ℕ → (ℕ → Bool) → ℕ → ℕ
unfolding bit
foremost w f zero = 64
foremost w f (suc k) =
    let best = foremost w f k in
    cond (f k && (eqb best 64 || bit (above_of w best) k)) k best
