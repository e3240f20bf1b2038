-- Calls of the system: which are worth another try, and what is written out.
use Rattle.std.specs.Prelude.{ℕ, ◌≤◌, min, ◌≡◌, List, Bool, false, ◌||◌, eqb, ℤ, pos, negsuc, length, set, Result, Ok, Err, is_ok}
use Rattle.outside.specs.declared.Log.{Log}
use Rattle.outside.specs.declared.Unsent.{Unsent}
use Rattle.outside.specs.declared.source.Source.{Source}
use Rattle.outside.specs.declared.source.Source.TheVariants.{Input, Opened}

-- a call that was interrupted (4), or that would have had to wait (11), is tried again
abbrev pub passing : ℤ → Bool
passing (pos error) = eqb error 4 || eqb error 11
passing (negsuc error) = false

-- how many of some bytes were taken
abbrev pub taken_of : List ℕ → Result (Unit {0}) Unsent → ℕ
taken_of bytes (Ok done) = length bytes
taken_of bytes (Err unsent) = unsent.taken

-- what was written of some bytes is no more than they are, and is said to be all exactly where it is; which bytes the system took is the system's to say
pub record Written (bytes : List ℕ) (sent : Result (Unit {0}) Unsent) : Type 0 where
  pub within : taken_of bytes sent ≤ length bytes
  pub whole : is_ok sent ≡ eqb (taken_of bytes sent) (length bytes)

-- the bytes come from standard input
abbrev pub IsInput : Source → Type 0
IsInput (Input stream) = Unit {0}
IsInput (Opened file) = ⊥

-- standard input, which can be read as far as a call can say; its name, `-`, stands at the front of the bytes that were lent for it, if there are any, and the others stay
pub record StandardInput (before after : List ℕ) (log : Log) : Type 0 where
  pub descriptor : IsInput log.source
  pub size : log.size ≡ min 1 (length before)
  pub name : after ≡ set before 0 45
