-- Worked cases: the figures over all tasks, of a few waits; and document 01's session, booked twice.
use Rattle.std.specs.Prelude.{ℕ, ◌≡◌, List, [], ◌∷◌, true, false, replicate}
use Rattle.rules.specs.declared.Setup.{Setup}
use Rattle.rules.specs.declared.Event.{Event}
use Rattle.rules.specs.Cases.{whole_setup, whole_events}
use Rattle.report.specs.declared.Figures.{Figures}
use Rattle.report.specs.declared.Tally.{Tally}
use Rattle.report.specs.declared.OpenSession.{OpenSession}
use Rattle.report.specs.Items.{Item, commit, wait, no_figures}
use Rattle.report.specs.Booking.{no_setup, empty_tally, opening, booking, row_after}
use Rattle.report.specs.Ledger.{figures_of, fitting}
use Rattle.report.specs.Left.{left_after}
use Rattle.report.specs.Sheet.{middle_of, nine_tenths_of, most}

-- ---- the wait at the middle and at nine tenths

-- a wait of task 0, with no clash and no retry
abbrev pub waits : ℕ → Item
waits ticks = wait 0 ticks 0 0

-- 'numbers ⌈k/2⌉ and ⌈9k/10⌉ counted from 1': what they are of waits booked in this order, with a row of so many places
abbrev pub MiddleAndNine : ℕ → List Item → ℕ → ℕ → Type 0
MiddleAndNine places booked half nine = (middle_of places booked ≡ half) × (nine_tenths_of places booked ≡ nine)

-- 'and 0 where k is 0': no wait, and no place
abbrev pub OfNone : Type 0
OfNone = MiddleAndNine 4096 (commit 0 false ∷ []) 0 0 × MiddleAndNine 0 (waits 7 ∷ []) 0 0

-- Three waits: 10, 20, 30 in rising order. ⌈3/2⌉ = 2, and ⌈27/10⌉ = 3. Rounded down they were numbers 1 and 2: 10 and 20; one place on, 3 and 4: 30 and none.
abbrev pub OfThree : Type 0
OfThree = MiddleAndNine 4096 (waits 30 ∷ waits 10 ∷ commit 0 true ∷ waits 20 ∷ []) 20 30

-- Eleven waits: 10, 20, .., 110 in rising order. ⌈11/2⌉ = 6, and ⌈99/10⌉ = 10. Rounded down they were numbers 5 and 9: 50 and 90; one place on, 7 and 11: 70 and 110.
abbrev pub eleven : List Item
eleven =
    waits 70 ∷ waits 20 ∷ waits 110 ∷ waits 50 ∷ waits 90 ∷ waits 10 ∷ waits 60 ∷ waits 100 ∷ waits 30 ∷ waits 80 ∷ waits 40 ∷ []

abbrev pub OfEleven : Type 0
OfEleven = MiddleAndNine 4096 eleven 60 100

-- The same with a row of three places: k is 3, and the last three are 30, 80, 40.
abbrev pub OfTheLastThree : Type 0
OfTheLastThree = MiddleAndNine 3 eleven 40 80

-- ---- the tasks that waited

-- Task 0 waited for 0 ticks, task 1 not at all, task 2 for 5 and for 3, and task 3 for 8: 2 and 3 have the most, 8 each, and 2 has the lower number; then 0, which has a wait
-- booked; and not 1.
abbrev pub four_waits : List Item
four_waits = commit 1 false ∷ wait 3 8 1 0 ∷ wait 2 5 2 2 ∷ wait 0 0 0 0 ∷ wait 2 3 1 1 ∷ []

abbrev pub MostOfFour : Type 0
MostOfFour = most (figures_of 0 four_waits ∷ figures_of 1 four_waits ∷ figures_of 2 four_waits ∷ figures_of 3 four_waits ∷ []) 4 ≡ 2 ∷ 3 ∷ 0 ∷ []

-- ---- 41

-- '41, a total would pass 4,294,967,295': ticks, clashes and retries of a task that are 4,294,967,295 in all do not, and one more does; nor do those of two tasks together
abbrev pub LargestFits : Type 0
LargestFits =
    (fitting (wait 0 4294967294 4294967294 4294967294 ∷ wait 0 1 1 1 ∷ wait 1 4294967295 0 0 ∷ []) ≡ true)
    × (fitting (wait 0 4294967294 0 0 ∷ wait 0 2 0 0 ∷ []) ≡ false)
    × (fitting (wait 0 0 4294967294 0 ∷ wait 0 0 2 0 ∷ []) ≡ false)
    × (fitting (wait 0 0 0 4294967294 ∷ wait 0 0 0 2 ∷ []) ≡ false)

-- ---- document 01's session, booked twice

-- a tally with its row, and how many events were left out
pub record Lent : Type 0 where
  pub tally : Tally
  pub row : List ℕ
  pub left : ℕ

-- after events of an open session, booked one after another
unfoldable pub after_events : Lent → OpenSession → List Event → Lent
unfolding booking row_after
after_events x o [] = x
after_events x o (e ∷ more) =
    let y = booking x.tally o e in
    let after : Lent = record { tally = y.tally; row = row_after x.tally o e x.row; left = left_after x.left y.booked.number } in
    after_events after y.booked.after more

-- after a session more
unfoldable pub after_session : Lent → Setup → List Event → Lent
unfolding opening after_events
after_session x u events =
    let y = opening x.tally u in
    after_events (record { tally = y.tally; row = x.row; left = x.left }) y.opened.after events

-- from an empty tally, with a row of three places
abbrev pub session_twice : Lent
session_twice =
    after_session (after_session (record { tally = empty_tally no_setup; row = 0 ∷ 0 ∷ 0 ∷ []; left = 0 }) whole_setup whole_events) whole_setup whole_events

-- Tasks 0 and 2 commit one transaction in each session, and never wait. Task 1 commits one in each, which had waited from tick 3 to tick 7, with two clashes and no retry:
-- 'Task 1 waited 4 ticks', '`7 admit 1 2 0`'.
abbrev pub never : Figures
never = record { committed = 2; waited = 0; clashes = 0; retries = 0; longest = 0; ticks = 0; waits = 0 }

abbrev pub waited : Figures
waited = record { committed = 2; waited = 2; clashes = 4; retries = 0; longest = 4; ticks = 8; waits = 2 }

abbrev pub twice : Lent
twice = record {
  tally = record { taken = true; setup = whole_setup; figures = never ∷ waited ∷ never ∷ replicate 61 no_figures };
  row = 4 ∷ 4 ∷ 0 ∷ [];
  left = 0;
}

abbrev pub Twice : Type 0
Twice = session_twice ≡ twice
