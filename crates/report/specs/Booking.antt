-- The two calls: what opening a session and booking an event make of a tally, and what they answer. For any tally, any row and any session, one put together by
-- anyone too.
use Rattle.std.specs.Prelude.{ℕ, zero, suc, ◌-◌, List, [], ◌∷◌, ◌++◌, Bool, true, false, cond, not, ◌&&◌, eqb, get_or, set, replicate, Ok, Err}
use Rattle.rules.specs.declared.Setup.{Setup}
use Rattle.rules.specs.declared.State.{State}
use Rattle.rules.specs.declared.State.TheVariants.{Absent, Plain, Waiting, Executing}
use Rattle.rules.specs.declared.Task.{Task}
use Rattle.rules.specs.declared.Session.{Session}
use Rattle.rules.specs.declared.Event.{Event}
use Rattle.rules.specs.declared.Said.{Said}
use Rattle.rules.specs.declared.Admission.{Admission}
use Rattle.rules.specs.declared.Admissions.{Admissions}
use Rattle.rules.specs.declared.Answer.{Answer}
use Rattle.rules.specs.Answers.{is_wait, number}
use Rattle.rules.specs.Refusals.{refusal_of}
use Rattle.rules.specs.Ranking.{by_rank}
use Rattle.rules.specs.Tasks.{no_terms, no_task}
use Rattle.rules.specs.Setup.{setup_number, same_setup, fresh, no_session}
use Rattle.rules.specs.Scan.{no_admission}
use Rattle.rules.specs.Events.{step}
use Rattle.rules.specs.History.{is_release, is_commit}
use Rattle.report.specs.declared.Figures.{Figures}
use Rattle.report.specs.declared.Tally.{Tally}
use Rattle.report.specs.declared.OpenSession.{OpenSession}
use Rattle.report.specs.declared.WithOpened.{WithOpened}
use Rattle.report.specs.declared.WithBooked.{WithBooked}
use Rattle.report.specs.Items.{Item, commit, wait, no_figures, entered, enterable, waits_booked, waits_in, written}

-- a setup that names nothing
abbrev pub no_setup : Setup
no_setup = record { m = 0; n = 0; mode = 0; terms = replicate 64 no_terms }

-- a tally into which nothing has been booked; the setup in it is not looked at
unfoldable pub empty_tally : Setup → Tally
empty_tally u = record { taken = false; setup = u; figures = replicate 64 no_figures }

-- ---- opening a session

-- 10 to 14 as for any setup; then '40, setups differ, tried before any event'
unfoldable pub open_number : Tally → Setup → ℕ
unfolding setup_number same_setup
open_number t u = cond (eqb (setup_number u) 0) (cond (t.taken && not (same_setup t.setup u)) 40 0) (setup_number u)

-- a session of which no task has released yet
abbrev pub opened : Session → OpenSession
opened s = record { session = s; waited = replicate 64 false }

-- a refused opening leaves the tally as it was, and gives what stands in the place of a session
unfoldable pub opening : Tally → Setup → WithOpened
unfolding refusal_of open_number fresh no_session
opening t u =
    let opens : WithOpened = record {
      tally = record { taken = true; setup = u; figures = t.figures };
      opened = record { verdict = Ok tt; after = opened (fresh u) };
    } in
    let refuses : WithOpened = record { tally = t; opened = record { verdict = Err (refusal_of (open_number t u)); after = opened no_session } } in
    cond (eqb (open_number t u) 0) opens refuses

-- ---- booking an event

-- the ticks of a wait that ends now; 0 of a task that does not wait, and where the wait would begin later than now
abbrev pub ticks_of : State → ℕ → ℕ
ticks_of Absent tick = 0
ticks_of Plain tick = 0
ticks_of (Waiting w) tick = tick - w.release
ticks_of Executing tick = 0

-- an admission books the wait of the task, as the session before the event has it, and the clash count and the retry count that it lists
abbrev pub wait_item : List Task → ℕ → Admission → Item
wait_item tasks tick a = wait a.task (ticks_of (get_or tasks a.task no_task).state tick) a.clashes a.retries

-- the first k admissions of a list
unfoldable pub wait_items : List Task → ℕ → List Admission → ℕ → List Item
wait_items tasks tick list zero = []
wait_items tasks tick list (suc k) = wait_items tasks tick list k ++ (wait_item tasks tick (get_or list k no_admission) ∷ [])

-- a commit, if it is accepted
abbrev pub commit_items : List Bool → Event → Said → List Item
commit_items waited e said = cond (eqb (number said) 0 && is_commit e.kind) (commit e.task (get_or waited e.task false) ∷ []) []

-- what an event books that was answered so: its commit, and then the waits that its scan ended
abbrev pub items_in : List Bool → List Task → Event → Said → Admissions → List Item
items_in waited tasks e said admitted = commit_items waited e said ++ wait_items tasks e.tick admitted.list admitted.count

unfoldable pub items : OpenSession → Event → Answer → List Item
unfolding wait_items
items o e a = items_in o.waited o.session.tasks e a.said a.admitted

-- whether the transaction that each task released last had to wait, after an event with this answer
abbrev pub waited_after : List Bool → Event → Said → List Bool
waited_after waited e said = cond (eqb (number said) 0 && is_release e.kind) (set waited e.task (is_wait said)) waited

-- the manager's own refusal; then '41, a total would pass 4,294,967,295, tried last'
abbrev pub entry_number : List Figures → ℕ → List Item → ℕ
entry_number all refusal new = cond (eqb refusal 0) (cond (enterable all new) 0 41) refusal

unfoldable pub book_number : Tally → OpenSession → Event → ℕ
unfolding step by_rank items enterable
book_number t o e =
    let a = step by_rank o.session e in
    entry_number t.figures (number a.said) (items o e a)

abbrev pub with_figures : Tally → List Figures → Tally
with_figures t figures = record { taken = t.taken; setup = t.setup; figures = figures }

-- 'a refused event books nothing'; 'on both the tally and the row are unchanged'. The manager's session goes on after a 41.
unfoldable pub booking : Tally → OpenSession → Event → WithBooked
unfolding step by_rank book_number items entered
booking t o e =
    let a = step by_rank o.session e in
    record {
      tally = cond (eqb (book_number t o e) 0) (with_figures t (entered t.figures (items o e a))) t;
      booked = record {
        number = book_number t o e;
        said = a.said;
        admitted = a.admitted;
        after = record { session = a.session; waited = waited_after o.waited e a.said };
      };
    }

-- the row lent beside it
unfoldable pub row_after : Tally → OpenSession → Event → List ℕ → List ℕ
unfolding step by_rank book_number items waits_booked waits_in written
row_after t o e row =
    let a = step by_rank o.session e in
    cond (eqb (book_number t o e) 0) (written row (waits_booked t.figures) (waits_in (items o e a))) row
