-- Where a wait that ended has ended: by induction over the calls. A call that admits the task sets both ticks, and any other call of one that does not wait leaves both.
use Prim.Native.Nat.{ℕ, ◌<◌}
use mathlib.Core.Path.{◌≡◌, refl, sym, ap, ◌∙◌}
use mathlib.Core.Logic.{inl, inr}
use mathlib.Core.List.{List, ◌∷◌}
use mathlib.Core.Bool.{Bool, true, false, cond, ◌&&◌, and-false, true≢false}
use native.Mathlib.Nat.{lt_of_lt_of_le, le_of_eq}
use borrow.Author.Tests.{eq-eqb, ne_eqb}
use Rattle.rules.specs.declared.State.{State}
use Rattle.rules.specs.declared.State.TheVariants.{Absent, Plain, Waiting, Executing}
use Rattle.rules.specs.declared.Task.{Task}
use Rattle.rules.specs.declared.Session.{Session}
use Rattle.rules.specs.declared.Event.{Event}
use Rattle.rules.specs.declared.Said.{Said}
use Rattle.rules.specs.declared.Answer.{Answer}
use Rattle.rules.specs.Answers.{is_wait, number}
use Rattle.rules.specs.Ranking.{Ranking, Stays}
use Rattle.rules.specs.Tasks.{is_waiting, task_at, state_at, waiting}
use Rattle.rules.specs.Room.{ran}
use Rattle.rules.specs.Events.{raised_state, raised_task, step}
use Rattle.rules.specs.History.{Call, heard, tasks_of, names, admits, releases, deferred, lasted, admitted_at}
use Rattle.rules.specs.Demand3.{begun, called, WaitsEnd}
use Rattle.rules.proofs.Laws.Alike.{at_or_other}
use Rattle.rules.proofs.Laws.Listed.{Settled, Each}
use Rattle.rules.proofs.Moves.{Own, arrives, runs, waits, commits, finishes, passed_over, Moved, Taken, refuses, accepts, taken}
use Rattle.rules.proofs.Ran.{in_wait_lem}
use Rattle.rules.proofs.Known.{Known, lasted_over, lasted_quiet, moved_known, run_known}
use Rattle.rules.proofs.Demand3.{waiting_is}

-- ---- who waits after an event, but for its scan

raised_waiting : (hadRun : Bool) (t : Task) (b : Bool) → is_waiting (cond b (raised_task hadRun t) t).state ≡ is_waiting t.state
raised_waiting hadRun t true = go t.state
  where
    go : (state : State) → is_waiting (raised_state hadRun state) ≡ is_waiting state
    go Absent = refl
    go Plain = refl
    go (Waiting w) = refl
    go Executing = refl
raised_waiting hadRun t false = refl

-- one whose own event leaves it not waiting did not wait before it, and is not answered with wait
own_over : {mode : ℕ} {t u : Task} {e : Event} {said : Said} → Own mode t e said u → is_waiting u.state ≡ false
    → (is_waiting t.state ≡ false) × (is_wait said ≡ false)
own_over (arrives kind was late) n = (ap is_waiting was, refl)
own_over (runs kind was) n = (ap is_waiting was, refl)
own_over (waits kind was b k h) n = absurd (true≢false n)
own_over (commits kind was) n = (ap is_waiting was, refl)
own_over (finishes kind was) n = (ap is_waiting was, refl)

module _ (rank : Ranking) (s : Session) (e : Event) (a : Answer) (s₁ : Session) (moved : Moved rank s e a.said s₁) where
  -- the call neither ends nor begins a wait of task i
  abbrev Over : ℕ → Type 0
  Over i = (waiting s i ≡ false) × (deferred (heard e a) i ≡ false)

  over : (i : ℕ) → i < s.n → waiting s₁ i ≡ false → Over i
  over =
      at_or_other e.task (λ (i : ℕ). i < s.n → waiting s₁ i ≡ false → Over i)
      (λ l n.
      let w = own_over moved.own n in
      (w.0, ap (λ (b : Bool). releases (heard e a) e.task && b) w.1 ∙ and-false (releases (heard e a) e.task)))
      (λ i d l n. (
        sym (raised_waiting (ran rank s i) (task_at s i) (passed_over s e i)) ∙ ap (λ (t : Task). is_waiting t.state) (sym (moved.other i l d)) ∙ n,
        rw (eq-eqb (number a.said) 0 moved.zero, ne_eqb e.task i (λ q. d (sym q))) refl,
      ))

-- ---- one more call

admitted_now : (c : Call) (calls : List Call) (i : ℕ) → admits c i ≡ true → admitted_at i (c ∷ calls) ≡ c.event.tick
unfolding admitted_at
admitted_now c calls i q = ap (λ (b : Bool). cond b c.event.tick (admitted_at i calls)) q

admitted_before : (c : Call) (calls : List Call) (i : ℕ) → admits c i ≡ false → admitted_at i (c ∷ calls) ≡ admitted_at i calls
unfolding admitted_at
admitted_before c calls i q = ap (λ (b : Bool). cond b c.event.tick (admitted_at i calls)) q

module _ (rank : Ranking) (stays : Stays rank) (start s : Session) (calls : List Call) (known : Known rank start s calls) (e : Event) (a : Answer) (s₁ : Session)
    (moved : Moved rank s e a.said s₁) (settled : Settled s₁ a.admitted a.session) (i : ℕ) (l : i < s.n) where
  abbrev c : Call
  c = heard e a

  -- one that it admits has waited to its tick
  ends_now : waiting s₁ i ≡ true → lasted i (c ∷ calls) ≡ e.tick
  unfolding lasted
  ends_now w =
      let is = waiting_is (state_at s₁ i) w in
      (moved_known rank stays s e a s₁ moved settled start calls known i l).told.length is.0 is.1 ∙ moved.tick_now

  goes_on : waiting s₁ i ≡ false → lasted i (c ∷ calls) ≡ lasted i calls
  goes_on n =
      let o = over rank s e a s₁ moved i l n in
      lasted_over c calls i o.1 (eq-eqb (number a.said) 0 moved.zero) (in_wait_lem start s calls i (known.follows i l).told ∙ o.0)

  call_ends : (waiting s i ≡ false → lasted i calls ≡ admitted_at i calls) → waiting a.session i ≡ false → lasted i (c ∷ calls) ≡ admitted_at i (c ∷ calls)
  call_ends before n = go (settled.each i)
    where
      go : Each s₁ a.session (admits c i) i → lasted i (c ∷ calls) ≡ admitted_at i (c ∷ calls)
      go (inl q) =
          let n₁ : waiting s₁ i ≡ false = ap (λ (t : Task). is_waiting t.state) (sym q.0) ∙ n in
          goes_on n₁ ∙ before (over rank s e a s₁ moved i l n₁).0 ∙ sym (admitted_before c calls i q.1)
      go (inr q) = ends_now q.0 ∙ sym (admitted_now c calls i q.2)

-- ---- a run

pub waits_end : WaitsEnd
unfolding lasted admitted_at names tasks_of
waits_end rank strict stays start s calls begins begun i l n = refl
waits_end rank strict stays start s calls begins (called {s = before} {calls = earlier} r e) i l n =
    let p = run_known rank strict stays start before earlier begins r in
    go p (λ lb nb. waits_end rank strict stays start before earlier begins r i lb nb) (step rank before e) (taken rank strict stays before e p.sound) l n
  where
    go : Known rank start before earlier → (i < before.n → waiting before i ≡ false → lasted i earlier ≡ admitted_at i earlier) → (a : Answer)
        → Taken rank before e a → i < a.session.n → waiting a.session i ≡ false → lasted i (heard e a ∷ earlier) ≡ admitted_at i (heard e a ∷ earlier)
    go p ih a (refuses k given) l n = lasted_quiet before e k given earlier i ∙ ih l n
    go p ih a (accepts _ s₁ moved settled) l n =
        let lb = lt_of_lt_of_le l (le_of_eq (settled.kept.n ∙ moved.n_same)) in
        call_ends rank stays start before earlier p e a s₁ moved settled i lb (ih lb) n
