-- Parts of a booking, as the functions that make them say them.
use Rattle.std.specs.Prelude.{ℕ, ◌+◌, ◌≤◌, ◌<◌, ◌≡◌, Option, Some, None, Result, Ok, Err, List, Bool, true, cond, get_or, ⊤}
use Rattle.rules.specs.declared.Refusal.{Refusal}
use Rattle.rules.specs.declared.Refusal.TheVariants.{TotalPasses}
use Rattle.rules.specs.declared.State.{State}
use Rattle.rules.specs.declared.State.TheVariants.{Absent, Plain, Waiting, Executing}
use Rattle.rules.specs.declared.Task.{Task}
use Rattle.rules.specs.declared.Said.{Said}
use Rattle.rules.specs.declared.Admission.{Admission}
use Rattle.rules.specs.declared.Admissions.{Admissions}
use Rattle.rules.specs.Scan.{no_admission}
use Rattle.report.specs.declared.Figures.{Figures}
use Rattle.report.specs.declared.Tally.{Tally}
use Rattle.report.specs.declared.OpenSession.{OpenSession}
use Rattle.report.specs.declared.WithBooked.{WithBooked}
use Rattle.report.specs.Items.{Item, within, after, fits, entered, enterable}
use Rattle.report.specs.Booking.{wait_item}
use Rattle.tally.specs.Listed.{listed_wait}

-- so much more, where it fits
abbrev pub added : ℕ → ℕ → Option ℕ
added total more = cond (within (total + more)) (Some (total + more)) None

-- one item more, where it fits
abbrev pub counted_by : Bool → Figures → Item → Option Figures
counted_by b f x = cond b (Some (after f x)) None

abbrev pub counted : Figures → Item → Option Figures
counted f x = counted_by (fits f x) f x

-- what entering items into the figures of all tasks says, and what it leaves: where a total passes, that is not said
abbrev pub verdict : Bool → Result ⊤ Refusal
verdict fit = cond fit (Ok tt) (Err TotalPasses)

pub record Enters (all : List Figures) (new : List Item) (result : Result ⊤ Refusal) (left : List Figures) : Type 0 where
  pub fits : result ≡ verdict (enterable all new)
  pub figures : enterable all new ≡ true → left ≡ entered all new

-- what is listed lies within the tables
abbrev pub Inside : Admissions → Type 0
Inside a = (a.count ≤ 16) × ((k : ℕ) → k < a.count → (get_or a.list k no_admission).task < 64)

-- the tick that a wait of a task in this state counts from; of one that does not wait, now
abbrev pub since_of : State → ℕ → ℕ
since_of Absent tick = tick
since_of Plain tick = tick
since_of (Waiting w) tick = w.release
since_of Executing tick = tick

-- a list of numbers has the waits of the first admissions
abbrev pub Lists : List Task → ℕ → List Admission → ℕ → List ℕ → Type 0
Lists tasks tick admitted count list = (k : ℕ) → k < count → listed_wait list tick k ≡ wait_item tasks tick (get_or admitted k no_admission)

-- a tally, and the answer to an event
abbrev pub answered : Tally → ℕ → Said → Admissions → OpenSession → WithBooked
answered t k said admitted after = record { tally = t; booked = record { number = k; said = said; admitted = admitted; after = after } }
