-- The report over the list of sessions: what their events book, and the figures over it. All of it is history's: a call holds the event and its answer, and no
-- session, no count and no figure; and whether a task ran is told by the calls and the setup of their session. Lists of calls and of sessions have the latest
-- first; what is booked stands in its order.
use Rattle.std.specs.Prelude.{ℕ, ◌+◌, ◌-◌, max, List, [], ◌∷◌, ◌++◌, Bool, true, false, cond, ◌&&◌, eqb, length, drop}
use Rattle.objects.specs.Below.{one, all}
use Rattle.rules.specs.declared.Setup.{Setup}
use Rattle.rules.specs.Ranking.{by_rank}
use Rattle.rules.specs.Setup.{same_setup, fresh}
use Rattle.rules.specs.Answers.{is_wait}
use Rattle.rules.specs.History.{Call, accepted, is_commit, releases, began, lasted, wait_length, passed, retried}
use Rattle.report.specs.declared.Figures.{Figures}
use Rattle.report.specs.Items.{Item, commit, wait, within}

-- ---- what one event books

-- the transaction that task i released last had to wait
unfoldable pub had_waited : ℕ → List Call → Bool
had_waited i [] = false
had_waited i (c ∷ before) = cond (releases c i) (is_wait c.said) (had_waited i before)

-- 'transactions committed, how many of them had waited'
unfoldable pub commits_of : Call → List Call → List Item
unfolding had_waited
commits_of c before =
    let i = c.event.task in
    cond (accepted c && is_commit c.event.kind) (commit i (had_waited i before) ∷ []) []

-- the wait of task i that the last call ends, in a session from this setup: its ticks, its clash count and its retry count
abbrev pub wait_by : Setup → ℕ → List Call → Item
wait_by u i calls = wait i (wait_length i calls) (passed i calls) (retried by_rank (fresh u) i calls)

-- 'A wait and its retries are booked when the task is admitted': of each task that the last call admits
unfoldable pub waits_of : Setup → List ℕ → List Call → List Item
unfolding began lasted passed retried by_rank fresh
waits_of u [] calls = []
waits_of u (i ∷ more) calls = wait_by u i calls ∷ waits_of u more calls

unfoldable pub books_of : Setup → Call → List Call → List Item
unfolding commits_of waits_of
books_of u c before = commits_of c before ++ waits_of u c.admitted (c ∷ before)

-- ---- the figures of a task, over what is booked

unfoldable pub total : (Item → ℕ) → List Item → ℕ
total f [] = 0
total f (x ∷ more) = f x + total f more

unfoldable pub greatest : (Item → ℕ) → List Item → ℕ
greatest f [] = 0
greatest f (x ∷ more) = max (f x) (greatest f more)

abbrev pub commit_is : ℕ → Item → ℕ
commit_is i (commit j waited) = one (eqb j i)
commit_is i (wait j ticks clashes retries) = 0

abbrev pub waited_is : ℕ → Item → ℕ
waited_is i (commit j waited) = one (eqb j i && waited)
waited_is i (wait j ticks clashes retries) = 0

abbrev pub clashes_in : ℕ → Item → ℕ
clashes_in i (commit j waited) = 0
clashes_in i (wait j ticks clashes retries) = cond (eqb j i) clashes 0

abbrev pub retries_in : ℕ → Item → ℕ
retries_in i (commit j waited) = 0
retries_in i (wait j ticks clashes retries) = cond (eqb j i) retries 0

abbrev pub ticks_in : ℕ → Item → ℕ
ticks_in i (commit j waited) = 0
ticks_in i (wait j ticks clashes retries) = cond (eqb j i) ticks 0

abbrev pub wait_is : ℕ → Item → ℕ
wait_is i (commit j waited) = 0
wait_is i (wait j ticks clashes retries) = one (eqb j i)

-- 'per task: transactions committed, how many of them had waited, total retries, longest wait in ticks, and mean wait as two whole numbers, ticks and waits'.
-- Request 2: 'CR 1's total splits in two': all clashes, and all retries.
unfoldable pub figures_of : ℕ → List Item → Figures
unfolding total greatest
figures_of i booked = record {
  committed = total (commit_is i) booked;
  waited = total (waited_is i) booked;
  clashes = total (clashes_in i) booked;
  retries = total (retries_in i) booked;
  longest = greatest (ticks_in i) booked;
  ticks = total (ticks_in i) booked;
  waits = total (wait_is i) booked;
}

-- ---- what is booked

-- '41, a total would pass 4,294,967,295': of any task
abbrev pub totals_fit : Figures → Bool
totals_fit f =
    within f.committed && within f.waited && within f.clashes && within f.retries && within f.ticks && within f.waits

unfoldable pub fitting : List Item → Bool
unfolding all figures_of
fitting booked = all 64 (λ i. totals_fit (figures_of i booked))

-- 'what an event refused with 41 would have booked stays out of it'
unfoldable pub booked_with : List Item → List Item → List Item
unfolding fitting
booked_with booked new = cond (fitting (booked ++ new)) (booked ++ new) booked

-- the calls of a session from this setup, upon what was booked before it. 'one still open when its session ends is not booked': a session starts with no call
-- before it.
unfoldable pub booked_by : Setup → List Item → List Call → List Item
unfolding booked_with books_of
booked_by u booked [] = booked
booked_by u booked (c ∷ before) = booked_with (booked_by u booked before) (books_of u c before)

-- a session: its setup, and its events with their answers
pub record Sitting : Type 0 where
  pub setup : Setup
  pub calls : List Call

-- 'a report that takes sessions one after another'
unfoldable pub ledger : List Sitting → List Item
unfolding booked_by
ledger [] = []
ledger (s ∷ earlier) = booked_by s.setup (ledger earlier) s.calls

-- 'The setup must be the same in all sessions, m too'
unfoldable pub all_same : Setup → List Sitting → Bool
unfolding same_setup
all_same u [] = true
all_same u (s ∷ earlier) = same_setup u s.setup && all_same u earlier

-- the last k of a list
abbrev pub last_of : ℕ → List ℕ → List ℕ
last_of k xs = drop (length xs - k) xs
