-- An event books what history says of it. Its commit is told by what is kept of each task's last release. Each admission is of a task that waited in the session that the
-- scan looked at, and there history has its wait's beginning, its last tick, its clashes and its retries; the event itself changes no wait's ticks.
use Prim.Native.Nat.{ℕ, zero, suc, ◌-◌, ◌≤◌, ◌<◌}
use mathlib.Core.Path.{◌≡◌, refl, sym, ap, ap₂, subst, ◌∙◌}
use mathlib.Core.List.{List, [], ◌∷◌, ◌++◌}
use mathlib.Core.Bool.{Bool, true, false, cond, ◌&&◌, and-false, false≢true}
use native.Mathlib.Nat.{sub_self, le_trans, le_of_eq, lt_of_lt_of_le}
use native.Mathlib.Omega.{arith}
use lib.Dec.{eqb}
use lib.ListN.{length, take, get_or, set, length-set, length-replicate}
use lib.Seq.{take-suc, get_or-set_same, get_or-set_other}
use borrow.Author.Tests.{eq-eqb, ne_eqb}
use Rattle.objects.proofs.Laws.Below.{not_both}
use Rattle.rules.specs.declared.Setup.{Setup}
use Rattle.rules.specs.declared.State.{State}
use Rattle.rules.specs.declared.State.TheVariants.{Absent, Plain, Waiting, Executing}
use Rattle.rules.specs.declared.Task.{Task}
use Rattle.rules.specs.declared.Session.{Session}
use Rattle.rules.specs.declared.Event.{Event}
use Rattle.rules.specs.declared.Said.{Said}
use Rattle.rules.specs.declared.Admission.{Admission}
use Rattle.rules.specs.declared.Answer.{Answer}
use Rattle.rules.specs.Answers.{is_wait, number}
use Rattle.rules.specs.Ranking.{Ranking, by_rank, Strict, Stays}
use Rattle.rules.specs.Tasks.{is_waiting, task_at, state_at}
use Rattle.rules.specs.Setup.{fresh}
use Rattle.rules.specs.Room.{ran}
use Rattle.rules.specs.Events.{raised_state, raised_task, step}
use Rattle.rules.specs.Scan.{no_admission, admission, Scanned}
use Rattle.rules.specs.History.{Call, heard, tasks_of, is_commit, is_release, began, lasted, wait_length}
use Rattle.rules.specs.Demand3.{Start, Run, called, AdmissionsCount, Told}
use Rattle.rules.proofs.Ranking.{rank_strict_and_stays}
use Rattle.rules.proofs.Laws.Alike.{at_or_other}
use Rattle.rules.proofs.Laws.Looks.{scan_lasts}
use Rattle.rules.proofs.Laws.Listed.{Settled}
use Rattle.rules.proofs.Laws.Steps.{outcome}
use Rattle.rules.proofs.Accepted.{admitted_few}
use Rattle.rules.proofs.Moves.{Own, arrives, runs, waits, commits, finishes, passed_over, Moved, Taken, refuses, accepts, taken}
use Rattle.rules.proofs.Known.{Known, moved_known, run_known}
use Rattle.rules.proofs.Demand3.{admitted_counted}
use Rattle.report.specs.declared.OpenSession.{OpenSession}
use Rattle.report.specs.Items.{Item, commit}
use Rattle.report.specs.Booking.{ticks_of, wait_items, items, waited_after}
use Rattle.report.specs.Ledger.{had_waited, commits_of, wait_by, waits_of, books_of}
use Rattle.report.proofs.Laws.Entering.{Numbered, none, more, numbered_append}

-- ---- the list of admissions

-- it has 16 places, in every answer
list_size : (rank : Ranking) (s : Session) (e : Event) → length (step rank s e).admitted.list ≡ 16
list_size rank s e =
    outcome rank s e (λ (a : Answer). length a.admitted.list ≡ 16) (λ k h. length-replicate 16 no_admission) (λ said s' z st. length-replicate 16 no_admission)
    (λ said s' z st.
    scan_lasts rank (λ (x : Scanned). length x.admitted.list ≡ 16)
    (λ x i p l w a. length-set x.admitted.list x.admitted.count (admission i (state_at x.session i)) ∙ p) s'
    (length-replicate 16 no_admission))

waits_more : (u : Setup) (xs : List Admission) (a : Admission) (calls : List Call)
    → waits_of u (tasks_of (xs ++ (a ∷ []))) calls ≡ waits_of u (tasks_of xs) calls ++ (wait_by u a.task calls ∷ [])
unfolding waits_of tasks_of
waits_more u [] a calls = refl
waits_more u (x ∷ xs) a calls = ap (λ (more : List Item). wait_by u x.task calls ∷ more) (waits_more u xs a calls)

-- ---- ticks

raised_ticks : (hadRun : Bool) (t : Task) (b : Bool) (tick : ℕ) → ticks_of (cond b (raised_task hadRun t) t).state tick ≡ ticks_of t.state tick
raised_ticks hadRun t true tick = go t.state
  where
    go : (state : State) → ticks_of (raised_state hadRun state) tick ≡ ticks_of state tick
    go Absent = refl
    go Plain = refl
    go (Waiting w) = refl
    go Executing = refl
raised_ticks hadRun t false tick = refl

own_ticks : {mode : ℕ} {t u : Task} {e : Event} {said : Said} → Own mode t e said u → ticks_of u.state e.tick ≡ ticks_of t.state e.tick
own_ticks {e = e} (arrives kind was late) = ap (λ (x : State). ticks_of x e.tick) (sym was)
own_ticks {e = e} (runs kind was) = ap (λ (x : State). ticks_of x e.tick) (sym was)
own_ticks {e = e} (waits kind was b k h) = sub_self e.tick ∙ ap (λ (x : State). ticks_of x e.tick) (sym was)
own_ticks {e = e} (commits kind was) = ap (λ (x : State). ticks_of x e.tick) (sym was)
own_ticks {e = e} (finishes kind was) = ap (λ (x : State). ticks_of x e.tick) (sym was)

-- no event changes the ticks of a wait; one that begins with it has none
moved_ticks : (rank : Ranking) (s : Session) (e : Event) (said : Said) (s' : Session) → Moved rank s e said s' → (j : ℕ) → j < s.n
    → ticks_of (state_at s' j) e.tick ≡ ticks_of (state_at s j) e.tick
moved_ticks rank s e said s' moved =
    at_or_other e.task (λ (j : ℕ). j < s.n → ticks_of (state_at s' j) e.tick ≡ ticks_of (state_at s j) e.tick) (λ l. own_ticks moved.own)
    (λ j d l.
    ap (λ (t : Task). ticks_of t.state e.tick) (moved.other j l d) ∙ raised_ticks (ran rank s j) (task_at s j) (passed_over s e j) e.tick)

-- who waits has waited as long as history says
told_ticks : (start s : Session) (calls : List Call) (i : ℕ) → Told start s calls i → is_waiting (state_at s i) ≡ true
    → ticks_of (state_at s i) s.tick ≡ wait_length i calls
told_ticks start s calls i p = go (state_at s i) refl
  where
    go : (state : State) → state_at s i ≡ state → is_waiting state ≡ true → ticks_of state s.tick ≡ wait_length i calls
    go Absent q w = absurd (false≢true w)
    go Plain q w = absurd (false≢true w)
    go (Waiting v) q w = ap₂ (λ (x y : ℕ). x - y) (sym (p.length v q)) (p.release v q)
    go Executing q w = absurd (false≢true w)

-- ---- an accepted event

module _ (s : Session) (e : Event) (a : Answer) (s₁ : Session) (moved : Moved by_rank s e a.said s₁) (settled : Settled s₁ a.admitted a.session)
    (u : Setup) (calls : List Call) (known : Known by_rank (fresh u) s calls) (counts : AdmissionsCount by_rank (fresh u) e a calls)
    (fits : a.admitted.count ≤ length a.admitted.list) where
  abbrev c : Call
  c = heard e a

  abbrev at : ℕ → Admission
  at k = get_or a.admitted.list k no_admission

  below : (k : ℕ) → k < a.admitted.count → (at k).task < s.n
  below k l = lt_of_lt_of_le (settled.entries k l).0 (le_of_eq moved.n_same)

  ticks_at : (k : ℕ) → k < a.admitted.count → ticks_of (state_at s (at k).task) e.tick ≡ wait_length (at k).task (c ∷ calls)
  unfolding began lasted
  ticks_at k l =
      let i = (at k).task in
      let follows = moved_known by_rank rank_strict_and_stays.1 s e a s₁ moved settled (fresh u) calls known i (below k l) in
      sym (moved_ticks by_rank s e a.said s₁ moved i (below k l)) ∙ ap (ticks_of (state_at s₁ i)) (sym moved.tick_now)
      ∙ told_ticks (fresh u) s₁ _ i follows.told (settled.entries k l).1

  waits_listed : (k : ℕ) → k ≤ a.admitted.count
      → wait_items s.tasks e.tick a.admitted.list k ≡ waits_of u (tasks_of (take k a.admitted.list)) (c ∷ calls)
  unfolding wait_items waits_of tasks_of
  waits_listed zero l = refl
  waits_listed (suc k) l =
      rw (take-suc a.admitted.list k no_admission (le_trans l fits), waits_more u (take k a.admitted.list) (at k) (c ∷ calls))
      (ap₂ (λ (xs : List Item) (x : Item). xs ++ (x ∷ [])) (waits_listed k (omega arith))
      (rw (ticks_at k l, (counts k l).passes, (counts k l).reruns)))

  waits_numbered : (k : ℕ) → k ≤ a.admitted.count → Numbered (wait_items s.tasks e.tick a.admitted.list k)
  unfolding wait_items
  waits_numbered zero l = none
  waits_numbered (suc k) l =
      numbered_append (waits_numbered k (omega arith)) (more (lt_of_lt_of_le (below k l) known.sound.n_high) none)

-- ---- any event

-- an open session, with its setup and its calls: they are a run from it, and what is kept of each task's last release is what history says
pub record Underway (u : Setup) (o : OpenSession) (calls : List Call) : Type 0 where
  pub starts : Start by_rank (fresh u)
  pub run : Run by_rank (fresh u) o.session calls
  pub size : length o.waited ≡ 64
  pub waited : (i : ℕ) → i < 64 → get_or o.waited i false ≡ had_waited i calls

-- what an event with this answer books: as history says, of tasks that a tally has, and nothing if it is refused
pub record Books (u : Setup) (o : OpenSession) (calls : List Call) (e : Event) (a : Answer) : Type 0 where
  pub same : items o e a ≡ books_of u (heard e a) calls
  pub numbered : Numbered (books_of u (heard e a) calls)
  pub idle : eqb (number a.said) 0 ≡ false → books_of u (heard e a) calls ≡ []

module _ (u : Setup) (o : OpenSession) (calls : List Call) (p : Underway u o calls) (e : Event) where
  abbrev s : Session
  s = o.session

  abbrev answer : Answer
  answer = step by_rank s e

  pub books : Books u o calls e answer
  unfolding items books_of commits_of waits_of wait_items tasks_of
  books = go answer (taken by_rank strict stays s e known.sound) (admitted_counted by_rank strict stays (fresh u) s calls p.starts p.run e)
      (omega (arith, list_size by_rank s e, admitted_few by_rank s e, known.sound.m_high))
    where
      strict : Strict by_rank
      strict = rank_strict_and_stays.0

      stays : Stays by_rank
      stays = rank_strict_and_stays.1

      known : Known by_rank (fresh u) s calls
      known = run_known by_rank strict stays (fresh u) s calls p.starts p.run

      committing : (b : Bool) → e.task < 64 → Numbered (cond b (commit e.task (had_waited e.task calls) ∷ []) [])
      committing true l = more l none
      committing false l = none

      go : (a : Answer) → Taken by_rank s e a → AdmissionsCount by_rank (fresh u) e a calls → a.admitted.count ≤ length a.admitted.list
          → Books u o calls e a
      go a (refuses k given) counts fits = record {
        same = rw (ne_eqb k 0 given);
        numbered = rw (ne_eqb k 0 given) none;
        idle = λ q. rw (ne_eqb k 0 given);
      }
      go a (accepts _ s₁ moved settled) counts fits =
          let l : e.task < 64 = lt_of_lt_of_le moved.below known.sound.n_high in
          let listed = waits_listed s e a s₁ moved settled u calls known counts fits a.admitted.count (le_of_eq refl) in
          record {
            same =
                ap₂ (λ (w : Bool) (xs : List Item). cond (eqb (number a.said) 0 && is_commit e.kind) (commit e.task w ∷ []) [] ++ xs)
                (p.waited e.task l) listed;
            numbered =
                numbered_append (committing (eqb (number a.said) 0 && is_commit e.kind) l)
                (subst Numbered listed (waits_numbered s e a s₁ moved settled u calls known counts fits a.admitted.count (le_of_eq refl)));
            idle = λ q. absurd (not_both (eqb (number a.said) 0) (eq-eqb (number a.said) 0 moved.zero) q);
          }

  pub underway : Underway u (record { session = answer.session; waited = waited_after o.waited e answer.said }) (heard e answer ∷ calls)
  unfolding had_waited
  underway = record {
    starts = p.starts;
    run = called p.run e;
    size = sized (eqb (number answer.said) 0 && is_release e.kind);
    waited = kept (eqb (number answer.said) 0) (is_release e.kind);
  }
    where
      w : Bool
      w = is_wait answer.said

      sized : (b : Bool) → length (cond b (set o.waited e.task w) o.waited) ≡ 64
      sized true = length-set o.waited e.task w ∙ p.size
      sized false = p.size

      kept : (ok release : Bool) (i : ℕ) → i < 64
          → get_or (cond (ok && release) (set o.waited e.task w) o.waited) i false ≡ cond (ok && eqb e.task i && release) w (had_waited i calls)
      kept true true =
          at_or_other e.task (λ (i : ℕ). i < 64 → get_or (set o.waited e.task w) i false ≡ cond (eqb e.task i && true) w (had_waited i calls))
          (λ l. rw (eq-eqb e.task e.task refl) (get_or-set_same o.waited e.task w false (omega (arith, p.size))))
          (λ i d l. rw (ne_eqb e.task i (λ q. d (sym q))) (get_or-set_other o.waited e.task i w false d ∙ p.waited i l))
      kept true false = λ i l. rw (and-false (eqb e.task i)) (p.waited i l)
      kept false release = p.waited
