-- How many events are left out. The theorem says which: an event that the manager accepts, and with which some total would pass. The manager's own numbers end at 7, so that 41
-- is none of them.
use Prim.Native.Nat.{ℕ, ◌+◌, ◌≤◌, min}
use mathlib.Core.Path.{◌≡◌, refl, sym, ap, ap₂, ◌∙◌}
use mathlib.Core.List.{List, [], ◌∷◌, ◌++◌, append-nil, append_assoc}
use mathlib.Core.Bool.{Bool, true, false, cond, not, ◌&&◌}
use native.Mathlib.Nat.{add-zero}
use native.Mathlib.Omega.{arith}
use lib.Dec.{eqb, leb, ltb}
use borrow.Author.Tests.{ne_eqb}
use Rattle.objects.specs.Below.{one}
use Rattle.rules.specs.declared.Setup.{Setup}
use Rattle.rules.specs.declared.Session.{Session}
use Rattle.rules.specs.declared.Event.{Event}
use Rattle.rules.specs.declared.Answer.{Answer}
use Rattle.rules.specs.Answers.{number}
use Rattle.rules.specs.Ranking.{Ranking, by_rank}
use Rattle.rules.specs.Tasks.{is_absent, is_plain, is_executing, task_at, state_at, known, sets_of}
use Rattle.rules.specs.Room.{room}
use Rattle.rules.specs.Contest.{blocked}
use Rattle.rules.specs.Events.{trying, early, arrive_number, release_number, commit_number, finish_number, refused, arrive, release_accepted, release, commit, finish, step}
use Rattle.rules.specs.History.{heard}
use Rattle.rules.proofs.Laws.Steps.{step_cases}
use Rattle.report.specs.declared.Tally.{Tally}
use Rattle.report.specs.declared.OpenSession.{OpenSession}
use Rattle.report.specs.Items.{Item}
use Rattle.report.specs.Booking.{booking}
use Rattle.report.specs.Ledger.{books_of, fitting, booked_with, booked_by, Sitting, ledger}
use Rattle.report.specs.Report.{Reported, begun, opens, books, heard_by, called}
use Rattle.report.specs.Left.{left_by, left_of, all_by, all_of, NoneLeft, forty_ones, LeftCounted, LeftBegins, LeftOpens, LeftBooks}
use Rattle.report.proofs.Report.{session, left_out}
use Rattle.report.proofs.Laws.Events.{books as booksEvent}

-- ---- 'Events try 1 to 7'

either : (b : Bool) (x y : ℕ) → x ≤ 7 → y ≤ 7 → cond b x y ≤ 7
either true x y h l = h
either false x y h l = l

tried : (s : Session) (tick i rest : ℕ) → rest ≤ 7 → trying s tick i rest ≤ 7
tried s tick i rest h =
    either (known s i) (cond (ltb tick s.tick) 2 (cond (leb 1000000 s.accepted) 3 rest)) 1
    (either (ltb tick s.tick) 2 (cond (leb 1000000 s.accepted) 3 rest) (omega arith) (either (leb 1000000 s.accepted) 3 rest (omega arith) h))
    (omega arith)

-- an answer that is accepted, or refused with such a number
numbered : (k : ℕ) (s : Session) (accepts : Answer) → number accepts.said ≡ 0 → k ≤ 7 → number (cond (eqb k 0) accepts (refused s k)).said ≤ 7
numbered k s accepts z h = go (eqb k 0)
  where
    go : (b : Bool) → number (cond b accepts (refused s k)).said ≤ 7
    go true = omega arith
    go false = h

-- a release that is accepted, whether it waits or runs
released : (rank : Ranking) (s : Session) (tick i : ℕ) (reads writes : List ℕ) → number (release_accepted rank s tick i reads writes).said ≡ 0
unfolding release_accepted
released rank s tick i reads writes = go (blocked s (sets_of reads writes)) _ _ refl refl
  where
    go : (b : Bool) (x y : Answer) → number x.said ≡ 0 → number y.said ≡ 0 → number (cond b x y).said ≡ 0
    go true x y p q = p
    go false x y p q = q

pub numbers_end : (rank : Ranking) (s : Session) (e : Event) → number (step rank s e).said ≤ 7
unfolding arrive release commit finish arrive_number release_number commit_number finish_number
numbers_end rank s e =
    step_cases rank s e (λ (a : Answer). number a.said ≤ 7)
    (λ kind. numbered (arrive_number s tick i) s _ refl
    (tried s tick i _ (either (is_absent (state_at s i)) _ 4 (either (early (task_at s i).arrival (task_at s i).terms.period tick) 5 0 (omega arith) (omega arith)) (omega arith))))
    (λ kind. numbered (release_number rank s tick i) s _ (released rank s tick i e.reads e.writes)
    (tried s tick i _
    (either (is_plain (state_at s i)) _ 4
    (either (room rank s i) _ 6 (either (ltb (task_at s i).releases (task_at s i).terms.transactions) 0 7 (omega arith) (omega arith)) (omega arith)) (omega arith))))
    (λ kind. numbered (commit_number s tick i) s _ refl (tried s tick i _ (either (is_executing (state_at s i)) 0 4 (omega arith) (omega arith))))
    (λ kind. numbered (finish_number rank s tick i) s _ refl
    (tried s tick i _ (either (is_plain (state_at s i)) _ 4 (either (room rank s i) 0 6 (omega arith) (omega arith)) (omega arith))))
  where
    tick : ℕ
    tick = e.tick

    i : ℕ
    i = e.task

-- ---- one event more

module _ {u : Setup} {start : List ℕ} {t : Tally} {row : List ℕ} {o : OpenSession} {s : Sitting} {earlier : List Sitting}
    (r : Reported u start t row o (s ∷ earlier)) (e : Event) where
  -- it has 41 exactly if it is accepted and some total would pass
  is_left : eqb (booking t o e).booked.number 41
      ≡ (eqb (number (booking t o e).booked.said) 0
      && not (fitting (ledger (s ∷ earlier) ++ books_of s.setup (heard_by e (booking t o e).booked) s.calls)))
  unfolding booking
  is_left =
      ap (λ (k : ℕ). eqb k 41) (left_out u start t row o s earlier r e)
      ∙ go (eqb n 0) (fitting (ledger (s ∷ earlier) ++ books_of s.setup (heard_by e (booking t o e).booked) s.calls))
    where
      n : ℕ
      n = number (step by_rank o.session e).said

      go : (accepts fits : Bool) → eqb (cond accepts (cond fits 0 41) n) 41 ≡ (accepts && not fits)
      go true true = refl
      go true false = refl
      go false fits = ne_eqb n 41 (λ q. omega (arith, numbers_end by_rank o.session e))

  one_more : left_of (called s e (booking t o e).booked ∷ earlier) ≡ left_of (s ∷ earlier) + one (eqb (booking t o e).booked.number 41)
  unfolding left_of left_by ledger
  one_more = omega (arith, ap one is_left)

-- a session that is opened has no event yet
none_more : (v : Setup) (sessions : List Sitting) → left_of (record { setup = v; calls = [] } ∷ sessions) ≡ left_of sessions
unfolding left_of left_by
none_more v sessions = add-zero (left_of sessions)

-- ---- all of them

counted : {u : Setup} {start : List ℕ} {t : Tally} {row : List ℕ} {o : OpenSession} {sessions : List Sitting} (r : Reported u start t row o sessions)
    → forty_ones r ≡ left_of sessions
unfolding forty_ones left_of
counted begun = refl
counted (opens {sessions = sessions} r v z) = counted r ∙ sym (none_more v sessions)
counted (books {t = t} {o = o} r e) = ap (λ (k : ℕ). k + one (eqb (booking t o e).booked.number 41)) (counted r) ∙ sym (one_more r e)

pub left_counted : LeftCounted
left_counted u start t row o sessions r = counted r

-- ---- none of them

-- an event that is not left out is booked with all that it books; where it is refused, that is nothing
whole : (accepts : Bool) (booked new : List Item) → (accepts ≡ false → new ≡ []) → one (accepts && not (fitting (booked ++ new))) ≡ 0
    → booked_with booked new ≡ booked ++ new
unfolding booked_with
whole accepts booked new idle z = go accepts refl (fitting (booked ++ new)) refl
  where
    go : (a : Bool) → accepts ≡ a → (f : Bool) → fitting (booked ++ new) ≡ f → cond f (booked ++ new) booked ≡ booked ++ new
    go a p true q = refl
    go true p false q = absurd (omega (arith, z, ap₂ (λ (x y : Bool). one (x && not y)) p q))
    go false p false q = sym (append-nil booked) ∙ ap (λ (l : List Item). booked ++ l) (sym (idle p))

none_left_in : {u : Setup} {start : List ℕ} {t : Tally} {row : List ℕ} {o : OpenSession} {sessions : List Sitting} → Reported u start t row o sessions
    → left_of sessions ≡ 0 → ledger sessions ≡ all_of sessions
unfolding ledger booked_by all_of all_by left_of left_by booking
none_left_in begun z = refl
none_left_in (opens {sessions = sessions} r v q) z = none_left_in r (omega arith) ∙ sym (append-nil (all_of sessions))
none_left_in (books {o = o} {s = s} {earlier = earlier} r e) z =
    let a = step by_rank o.session e in
    let new = books_of s.setup (heard e a) s.calls in
    whole (eqb (number a.said) 0) (ledger (s ∷ earlier)) new (booksEvent s.setup o s.calls (session r) e).idle (omega arith)
    ∙ ap (λ (l : List Item). l ++ new) (none_left_in r (omega arith))
    ∙ append_assoc (all_of earlier) (all_by s.setup s.calls) new

pub none_left : NoneLeft
none_left u start t row o sessions r = none_left_in r

-- ---- in 64 bits

pub left_begins : LeftBegins
unfolding left_of
left_begins = refl

pub left_opens : LeftOpens
left_opens left v sessions h = omega (arith, none_more v sessions)

pub left_books : LeftBooks
left_books u start t row o s earlier r left e h = go (eqb (booking t o e).booked.number 41) refl
  where
    go : (b : Bool) → eqb (booking t o e).booked.number 41 ≡ b
        → cond b (min (left + 1) 18446744073709551615) left ≡ min (left_of (called s e (booking t o e).booked ∷ earlier)) 18446744073709551615
    go true q = omega (arith, one_more r e, ap one q)
    go false q = omega (arith, one_more r e, ap one q)
