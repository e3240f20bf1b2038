-- The theorem: after any list of sessions booked one after another from an empty tally, each figure and each place of the row is its definition over the list.
use Rattle.std.specs.Prelude.{ℕ, ◌<◌, ◌≡◌, List, [], ◌∷◌, ◌++◌, true, cond, eqb, length}
use Rattle.rules.specs.declared.Setup.{Setup}
use Rattle.rules.specs.declared.Event.{Event}
use Rattle.rules.specs.Answers.{number}
use Rattle.rules.specs.Setup.{no_session}
use Rattle.rules.specs.Lines.{admissions}
use Rattle.rules.specs.History.{Call, tasks_of}
use Rattle.report.specs.declared.Tally.{Tally}
use Rattle.report.specs.declared.OpenSession.{OpenSession}
use Rattle.report.specs.declared.Booked.{Booked}
use Rattle.report.specs.Items.{figures_at, waits_in, written}
use Rattle.report.specs.Booking.{empty_tally, opened, open_number, opening, booking, row_after}
use Rattle.report.specs.Ledger.{books_of, figures_of, fitting, Sitting, ledger, all_same}
use Rattle.report.specs.Sheet.{middle, nine_tenths, middle_of, nine_tenths_of}

-- the call of an event that was answered so
abbrev pub heard_by : Event → Booked → Call
heard_by e b = record { event = e; said = b.said; admitted = tasks_of (admissions b.admitted) }

-- the session with one more call
abbrev pub called : Sitting → Event → Booked → Sitting
called s e b = record { setup = s.setup; calls = heard_by e b ∷ s.calls }

-- sessions booked one after another, from an empty tally and any row: the tally, the row and the open session that they lead to, with the calls of each session. A
-- refused opening makes no session. An event that is refused, by the manager or with 41, is a call as any other.
pub data Reported (u : Setup) (start : List ℕ) : Tally → List ℕ → OpenSession → List Sitting → Type 0 where
  begun : Reported u start (empty_tally u) start (opened no_session) []
  opens : {t : Tally} {row : List ℕ} {o : OpenSession} {sessions : List Sitting} → Reported u start t row o sessions → (v : Setup)
      → open_number t v ≡ 0 → Reported u start (opening t v).tally row (opening t v).opened.after (record { setup = v; calls = [] } ∷ sessions)
  books : {t : Tally} {row : List ℕ} {o : OpenSession} {s : Sitting} {earlier : List Sitting} → Reported u start t row o (s ∷ earlier) → (e : Event)
      → Reported u start (booking t o e).tally (row_after t o e row) (booking t o e).booked.after (called s e (booking t o e).booked ∷ earlier)

abbrev pub InEveryReport : (List ℕ → Tally → List ℕ → OpenSession → List Sitting → Type 0) → Type 0
InEveryReport Holds =
    (u : Setup) (start : List ℕ) (t : Tally) (row : List ℕ) (o : OpenSession) (sessions : List Sitting) → Reported u start t row o sessions
    → Holds start t row o sessions

-- 'Every figure equals its definition over the list of events'
abbrev pub FiguresAre : Type 0
FiguresAre = InEveryReport (λ start t row o sessions. (i : ℕ) → i < 64 → figures_at t.figures i ≡ figures_of i (ledger sessions))

-- 'wait i, from 0, goes to place i mod the lesser of 4,096 and its places': the row is what it was with the waits of all tasks written, in order of admission
abbrev pub RowIs : Type 0
RowIs = InEveryReport (λ start t row o sessions. row ≡ written start 0 (waits_in (ledger sessions)))

-- the next event's number: the manager's own; else 41 exactly if with what it books some total of some task would pass
abbrev pub LeftOut : Type 0
LeftOut =
    (u : Setup) (start : List ℕ) (t : Tally) (row : List ℕ) (o : OpenSession) (s : Sitting) (earlier : List Sitting)
    → Reported u start t row o (s ∷ earlier) → (e : Event)
    → let b = (booking t o e).booked in
    let new = books_of s.setup (heard_by e b) s.calls in
    b.number ≡ cond (eqb (number b.said) 0) (cond (fitting (ledger (s ∷ earlier) ++ new)) 0 41) (number b.said)

-- 'the wait at the middle and at nine tenths over the last k waits of all tasks in order of admission'
abbrev pub MiddleIs : Type 0
MiddleIs = InEveryReport (λ start t row o sessions. middle t row ≡ middle_of (length start) (ledger sessions))

abbrev pub NineTenthsIs : Type 0
NineTenthsIs = InEveryReport (λ start t row o sessions. nine_tenths t row ≡ nine_tenths_of (length start) (ledger sessions))

-- 'The setup must be the same in all sessions, m too': and so they are, the same as the one in the tally
abbrev pub OneSetup : Type 0
OneSetup = InEveryReport (λ start t row o sessions. all_same t.setup sessions ≡ true)
