-- How many events are left out with 41: over the list of sessions, and as the bookings go.
use Rattle.std.specs.Prelude.{ℕ, ◌+◌, min, ◌≡◌, List, [], ◌∷◌, ◌++◌, cond, not, ◌&&◌, eqb}
use Rattle.objects.specs.Below.{one}
use Rattle.rules.specs.declared.Setup.{Setup}
use Rattle.rules.specs.declared.Event.{Event}
use Rattle.rules.specs.History.{Call, accepted}
use Rattle.report.specs.declared.Tally.{Tally}
use Rattle.report.specs.declared.OpenSession.{OpenSession}
use Rattle.report.specs.Items.{Item}
use Rattle.report.specs.Booking.{booking}
use Rattle.report.specs.Ledger.{books_of, fitting, booked_by, Sitting, ledger}
use Rattle.report.specs.Report.{Reported, begun, opens, books, called, InEveryReport}

-- ---- over the list of sessions

-- 'what an event refused with 41 would have booked': how many of a session's events are accepted, and with what they book some total of some task would pass
unfoldable pub left_by : Setup → List Item → List Call → ℕ
unfolding books_of fitting booked_by
left_by u booked [] = 0
left_by u booked (c ∷ before) =
    left_by u booked before + one (accepted c && not (fitting (booked_by u booked before ++ books_of u c before)))

unfoldable pub left_of : List Sitting → ℕ
unfolding left_by ledger
left_of [] = 0
left_of (s ∷ earlier) = left_of earlier + left_by s.setup (ledger earlier) s.calls

-- what the events of a list of sessions book, each of them
unfoldable pub all_by : Setup → List Call → List Item
unfolding books_of
all_by u [] = []
all_by u (c ∷ before) = all_by u before ++ books_of u c before

unfoldable pub all_of : List Sitting → List Item
unfolding all_by
all_of [] = []
all_of (s ∷ earlier) = all_of earlier ++ all_by s.setup s.calls

-- where no event is left out, the figures are over all of it
abbrev pub NoneLeft : Type 0
NoneLeft = InEveryReport (λ start t row o sessions. left_of sessions ≡ 0 → ledger sessions ≡ all_of sessions)

-- ---- as the bookings go

-- how many events were answered 41
unfoldable pub forty_ones : {u : Setup} {start : List ℕ} {t : Tally} {row : List ℕ} {o : OpenSession} {sessions : List Sitting}
    → Reported u start t row o sessions → ℕ
unfolding booking
forty_ones begun = 0
forty_ones (opens r v z) = forty_ones r
forty_ones (books {t = t} {o = o} r e) = forty_ones r + one (eqb (booking t o e).booked.number 41)

-- the same in 64 bits: one more at each 41, up to the largest number that is held
abbrev pub left_after : ℕ → ℕ → ℕ
left_after left number = cond (eqb number 41) (min (left + 1) 18446744073709551615) left

-- ---- they agree

-- as many events are answered 41 as the list of sessions has that are left out
abbrev pub LeftCounted : Type 0
LeftCounted =
    (u : Setup) (start : List ℕ) (t : Tally) (row : List ℕ) (o : OpenSession) (sessions : List Sitting) (r : Reported u start t row o sessions)
    → forty_ones r ≡ left_of sessions

-- left is how many events of the list of sessions are left out, or the largest number that is held
abbrev pub LeftIs : ℕ → List Sitting → Type 0
LeftIs left sessions = left ≡ min (left_of sessions) 18446744073709551615

-- so it is at the start, after an opening, and after an event: what a program that counts as it books goes by
abbrev pub LeftBegins : Type 0
LeftBegins = LeftIs 0 []

abbrev pub LeftOpens : Type 0
LeftOpens = (left : ℕ) (v : Setup) (sessions : List Sitting) → LeftIs left sessions → LeftIs left (record { setup = v; calls = [] } ∷ sessions)

abbrev pub LeftBooks : Type 0
LeftBooks =
    (u : Setup) (start : List ℕ) (t : Tally) (row : List ℕ) (o : OpenSession) (s : Sitting) (earlier : List Sitting)
    → Reported u start t row o (s ∷ earlier) → (left : ℕ) (e : Event) → LeftIs left (s ∷ earlier)
    → LeftIs (left_after left (booking t o e).booked.number) (called s e (booking t o e).booked ∷ earlier)
