-- What an accepted event books, by the list of its admissions: four numbers of each, its task, its clash count, its retry count and the tick of its release.
use Rattle.std.specs.Prelude.{ℕ, zero, suc, ◌+◌, ◌-◌, ◌*◌, ◌%◌, min, List, [], ◌∷◌, ◌++◌, cond, get_or, Result, Ok, Err}
use Rattle.rules.specs.declared.Refusal.{Refusal}
use Rattle.rules.specs.declared.Refusal.TheVariants.{TotalPasses}
use Rattle.rules.specs.Refusals.{result_number}
use Rattle.report.specs.declared.Tally.{Tally}
use Rattle.report.specs.Items.{Item, commit, wait, entered, enterable, waits_booked, waits_in, written}
use Rattle.report.specs.Booking.{with_figures}
use Rattle.tally.specs.declared.Noted.{Noted}

-- the wait that the admission at place k ends: from its release to now, and 0 ticks where it would begin later. A task's number counts mod 64.
abbrev pub listed_wait : List ℕ → ℕ → ℕ → Item
listed_wait list tick k = wait (get_or list (k * 4) 0 % 64) (tick - get_or list (k * 4 + 3) 0) (get_or list (k * 4 + 1) 0) (get_or list (k * 4 + 2) 0)

-- the first k of them
unfoldable pub listed_waits : List ℕ → ℕ → ℕ → List Item
listed_waits list tick zero = []
listed_waits list tick (suc k) = listed_waits list tick k ++ (listed_wait list tick k ∷ [])

-- the event's own commit, if it is one
abbrev pub noted_commit : Noted → List Item
noted_commit n = cond n.commits (commit (n.task % 64) n.waited ∷ []) []

-- its commit, and then the waits that its scan ended: there are no more than 16 to list
unfoldable pub listed_items : Noted → List ℕ → List Item
unfolding listed_waits
listed_items n list = noted_commit n ++ listed_waits list n.tick (min n.admitted 16)

-- what items make of a tally: all of them are entered, or with 41 none
unfoldable pub entering : Tally → List Item → Result Tally Refusal
unfolding entered enterable
entering t new = cond (enterable t.figures new) (Ok (with_figures t (entered t.figures new))) (Err TotalPasses)

-- the number that it answers, and the tally after it
abbrev pub entering_number : Tally → List Item → ℕ
entering_number t new = result_number (entering t new)

abbrev pub tally_after : Tally → Result Tally Refusal → Tally
tally_after t (Ok after) = after
tally_after t (Err refusal) = t

abbrev pub entering_tally : Tally → List Item → Tally
entering_tally t new = tally_after t (entering t new)

-- the row lent beside it
unfoldable pub row_entering : Tally → List Item → List ℕ → List ℕ
unfolding enterable waits_booked waits_in written
row_entering t new row = cond (enterable t.figures new) (written row (waits_booked t.figures) (waits_in new)) row
