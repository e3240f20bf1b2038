-- What an event does, task by task: it is refused and nothing moves, or its own task moves as its kind says, every other stays, but that a commit raises those that it
-- passes over, and then a scan settles who executes. Whoever wants to know what an event does goes by `taken`.
use Prim.Native.Nat.{ℕ, zero, suc, ◌≤◌, ◌<◌}
use mathlib.Core.Path.{◌≡◌, refl, sym, ap, ◌∙◌}
use mathlib.Core.Logic.{◌⊎◌, inl, inr, ◌≢◌}
use mathlib.Core.List.{List}
use mathlib.Core.Bool.{Bool, true, false, cond, ◌&&◌, false≢true}
use native.Mathlib.Nat.{le_trans, le_of_eq, ne_of_lt, ne_of_gt, not-suc-le-zero}
use native.Mathlib.Omega.{arith}
use lib.ListN.{length, get_or, set}
use lib.Seq.{get_or-set_same, get_or-set_other}
use Rattle.objects.specs.Objects.{Sets, clash}
use Rattle.objects.proofs.Laws.Below.{below_suc}
use Rattle.rules.specs.declared.State.{State}
use Rattle.rules.specs.declared.State.TheVariants.{Absent, Plain, Executing}
use Rattle.rules.specs.declared.Task.{Task}
use Rattle.rules.specs.declared.Session.{Session}
use Rattle.rules.specs.declared.Kind.{Kind}
use Rattle.rules.specs.declared.Kind.TheVariants.{Arrive, Release, Commit, Finish}
use Rattle.rules.specs.declared.Event.{Event}
use Rattle.rules.specs.declared.Said.{Said}
use Rattle.rules.specs.declared.Said.TheVariants.{Ok, Run, Wait}
use Rattle.rules.specs.declared.Answer.{Answer}
use Rattle.rules.specs.Answers.{number}
use Rattle.rules.specs.Ranking.{Ranking, Strict, Stays}
use Rattle.rules.specs.Tasks.{no_task, task_at, state_at, waiting, sets_at, sets_of, in_state, with_task, with_tasks, stamped}
use Rattle.rules.specs.Room.{ran}
use Rattle.rules.specs.Events.{early, arrive_number, release_number, commit_number, finish_number, refused, still, scanning, arrived, released, released_into, begins, wait_said, raised_task, raised, empty, committed, finished, step}
use Rattle.rules.specs.History.{is_release, is_commit}
use Rattle.rules.specs.Reachable.{Sound}
use Rattle.rules.proofs.Laws.Tasks.{task_replaced, task_other}
use Rattle.rules.proofs.Laws.Rows.{Agree}
use Rattle.rules.proofs.Laws.Alike.{up, raised_size}
use Rattle.rules.proofs.Laws.Steps.{arrive_cases, release_cases, commit_cases, finish_cases, step_cases}
use Rattle.rules.proofs.Laws.Change.{rows_same, rows_replaced}
use Rattle.rules.proofs.Laws.Listed.{Settled, none_settled, scan_settled}
use Rattle.rules.proofs.Events.{plain_is, arrive_timely, arrive_was, release_timely, release_plain, new_sets, commit_timely, commit_was, finish_timely, finish_was}

-- ---- whom a commit raises

-- those that wait and clash with it
abbrev pub raises : Session → Sets → ℕ → Bool
raises s x j = waiting s j && clash x (sets_at s j)

module _ (hadRun : ℕ → Bool) (s : Session) (x : Sets) where
  -- a task that the commit has not come to is as it was
  pub raised_past : (k j : ℕ) → k ≤ j → get_or (raised hadRun s x k) j no_task ≡ task_at s j
  unfolding raised
  raised_past zero j h = refl
  raised_past (suc k) j h = go (raised_past k j (omega arith)) (raises s x k)
    where
      row : List Task
      row = raised hadRun s x k

      go : get_or row j no_task ≡ task_at s j → (b : Bool) → get_or (cond b (set row k (up hadRun s k)) row) j no_task ≡ task_at s j
      go ih true = get_or-set_other row k j (up hadRun s k) no_task (ne_of_gt h) ∙ ih
      go ih false = ih

  pub raised_below : (k j : ℕ) → k ≤ length s.tasks → j < k → get_or (raised hadRun s x k) j no_task ≡ cond (raises s x j) (up hadRun s j) (task_at s j)
  unfolding raised
  raised_below zero j h l = absurd (not-suc-le-zero l)
  raised_below (suc k) j h l = go (below_suc j k l) (raised_below k j (omega arith)) (raises s x k) refl
    where
      row : List Task
      row = raised hadRun s x k

      go : (j ≡ k) ⊎ (j < k) → (j < k → get_or row j no_task ≡ cond (raises s x j) (up hadRun s j) (task_at s j)) → (b : Bool) → raises s x k ≡ b
          → get_or (cond b (set row k (up hadRun s k)) row) j no_task ≡ cond (raises s x j) (up hadRun s j) (task_at s j)
      go (inl p) ih true e = rw (p, e) (get_or-set_same row k (up hadRun s k) no_task (omega (arith, raised_size hadRun s x k)))
      go (inl p) ih false e = rw (p, e) (raised_past k k (le_of_eq refl))
      go (inr m) ih true e = get_or-set_other row k j (up hadRun s k) no_task (ne_of_lt m) ∙ ih m
      go (inr m) ih false e = ih m

-- ---- an accepted event, before its scan

-- how its own task moves, in this mode
pub data Own (mode : ℕ) (t : Task) (e : Event) : Said → Task → Type 0 where
  arrives : e.kind ≡ Arrive → t.state ≡ Absent → early t.arrival t.terms.period e.tick ≡ false → Own mode t e Ok (arrived mode t e.tick)
  runs : e.kind ≡ Release → t.state ≡ Plain → Own mode t e Run (released t Executing)
  waits : e.kind ≡ Release → t.state ≡ Plain → (b k h : ℕ) → Own mode t e (Wait b k h) (released t (begins e.tick))
  commits : e.kind ≡ Commit → t.state ≡ Executing → Own mode t e Ok (in_state t Plain)
  finishes : e.kind ≡ Finish → t.state ≡ Plain → Own mode t e Ok (finished t)

-- a commit passes over those that wait and clash with it
abbrev pub passed_over : Session → Event → ℕ → Bool
passed_over s e j = is_commit e.kind && raises s (sets_at s e.task) j

-- how another moves
abbrev pub beside : Ranking → Session → Event → ℕ → Task
beside rank s e j = cond (passed_over s e j) (raised_task (ran rank s j) (task_at s j)) (task_at s j)

pub record Moved (rank : Ranking) (s : Session) (e : Event) (said : Said) (s' : Session) : Type 0 where
  pub below : e.task < s.n
  pub tick : s.tick ≤ e.tick
  pub zero : number said ≡ 0
  pub m_same : s'.m ≡ s.m
  pub n_same : s'.n ≡ s.n
  pub mode_same : s'.mode ≡ s.mode
  pub tick_now : s'.tick ≡ e.tick
  pub own : Own s.mode (task_at s e.task) e said (task_at s' e.task)
  pub own_sets : is_release e.kind ≡ true → Agree (sets_at s' e.task) (sets_of e.reads e.writes)
  pub other : (j : ℕ) → j < s.n → j ≢ e.task → task_at s' j ≡ beside rank s e j
  pub other_sets : (j : ℕ) → j ≢ e.task → Agree (sets_at s' j) (sets_at s j)

-- the answer to an event
pub data Taken (rank : Ranking) (s : Session) (e : Event) : Answer → Type 0 where
  refuses : (k : ℕ) → k ≢ 0 → Taken rank s e (refused s k)
  accepts : (a : Answer) (s' : Session) → Moved rank s e a.said s' → Settled s' a.admitted a.session → Taken rank s e a

module _ (rank : Ranking) (strict : Strict rank) (stays : Stays rank) (s : Session) (e : Event) (sound : Sound rank s) where
  abbrev i : ℕ
  i = e.task

  abbrev t : Task
  t = task_at s i

  inside : i < s.n → i < length s.tasks
  inside l = omega (arith, sound.tasks, sound.n_high)

  -- where the sets stay, and where the task's own are replaced
  same_sets : (j : ℕ) → j ≢ i → Agree (sets_at s j) (sets_at s j)
  same_sets j d = (rows_same sound i).others j d

  still_taken : (said : Said) (s' : Session) → Moved rank s e said s' → Taken rank s e (still said s')
  still_taken said s' moved = accepts (still said s') s' moved (none_settled s')

  scan_taken : (said : Said) (s' : Session) → Moved rank s e said s' → Taken rank s e (scanning rank said s')
  scan_taken said s' moved =
      accepts (scanning rank said s') s' moved (scan_settled rank s' (le_trans (le_of_eq moved.m_same) sound.m_high))

  -- its kind is no commit, so the others stay
  others_stay : (k : Kind) → e.kind ≡ k → is_commit k ≡ false → (j : ℕ) → task_at s j ≡ beside rank s e j
  others_stay k p c j = rw (p, c)

  arrive_taken : e.kind ≡ Arrive → arrive_number s e.tick i ≡ 0 → Moved rank s e Ok (with_task (stamped s e.tick) i (arrived s.mode t e.tick))
  arrive_taken kind z =
      let ok = arrive_timely rank strict stays s sound e.tick i z in
      let was = arrive_was rank strict stays s sound e.tick i z in
      record {
        below = ok.below;
        tick = ok.tick;
        zero = refl;
        m_same = refl;
        n_same = refl;
        mode_same = refl;
        tick_now = refl;
        own = rw (task_replaced (stamped s e.tick) i (arrived s.mode t e.tick) (inside ok.below)) (arrives kind was.0 was.1);
        own_sets = λ r. absurd (false≢true (rw kind at r));
        other = λ j l d. task_other (stamped s e.tick) i j (arrived s.mode t e.tick) d ∙ others_stay Arrive kind refl j;
        other_sets = same_sets;
      }

  release_taken : e.kind ≡ Release → release_number rank s e.tick i ≡ 0 → (said : Said) (state : State) → number said ≡ 0
      → (state_at s i ≡ Plain → Own s.mode t e said (released t state)) → Moved rank s e said (released_into s e.tick i e.reads e.writes state)
  release_taken kind z said state good moves =
      let ok = release_timely rank strict stays s sound e.tick i z e.reads e.writes in
      let was = plain_is (state_at s i) (release_plain rank strict stays s sound e.tick i z e.reads e.writes).0 in
      record {
        below = ok.below;
        tick = ok.tick;
        zero = good;
        m_same = refl;
        n_same = refl;
        mode_same = refl;
        tick_now = refl;
        own = rw (task_replaced (stamped s e.tick) i (released t state) (inside ok.below)) (moves was);
        own_sets = λ r. new_sets rank strict stays s sound e.tick i z e.reads e.writes;
        other = λ j l d. task_other (stamped s e.tick) i j (released t state) d ∙ others_stay Release kind refl j;
        other_sets = (rows_replaced sound i e.reads e.writes).others;
      }

  commit_taken : e.kind ≡ Commit → commit_number s e.tick i ≡ 0 → Moved rank s e Ok (committed rank s e.tick i)
  commit_taken kind z =
      let ok = commit_timely rank strict stays s sound e.tick i z in
      let was = commit_was rank strict stays s sound e.tick i z in
      let table = raised (ran rank s) s (sets_at s i) s.n in
      let up = with_tasks (stamped s e.tick) table in
      let size : i < length table = omega (arith, inside ok.below, raised_size (ran rank s) s (sets_at s i) s.n) in
      record {
        below = ok.below;
        tick = ok.tick;
        zero = refl;
        m_same = refl;
        n_same = refl;
        mode_same = refl;
        tick_now = refl;
        own = rw (task_replaced up i (in_state t Plain) size) (commits kind was);
        own_sets = λ r. absurd (false≢true (rw kind at r));
        other = λ j l d.
            task_other up i j (in_state t Plain) d ∙ raised_below (ran rank s) s (sets_at s i) s.n j (omega (arith, sound.tasks, sound.n_high)) l
            ∙ ap (λ (k : Kind). cond (is_commit k && raises s (sets_at s i) j) (raised_task (ran rank s j) (task_at s j)) (task_at s j)) (sym kind);
        other_sets = (rows_replaced sound i empty empty).others;
      }

  finish_taken : e.kind ≡ Finish → finish_number rank s e.tick i ≡ 0 → Moved rank s e Ok (with_task (stamped s e.tick) i (finished t))
  finish_taken kind z =
      let ok = finish_timely rank strict stays s sound e.tick i z in
      record {
        below = ok.below;
        tick = ok.tick;
        zero = refl;
        m_same = refl;
        n_same = refl;
        mode_same = refl;
        tick_now = refl;
        own = rw (task_replaced (stamped s e.tick) i (finished t) (inside ok.below)) (finishes kind (finish_was rank strict stays s sound e.tick i z));
        own_sets = λ r. absurd (false≢true (rw kind at r));
        other = λ j l d. task_other (stamped s e.tick) i j (finished t) d ∙ others_stay Finish kind refl j;
        other_sets = same_sets;
      }

  pub taken : Taken rank s e (step rank s e)
  taken =
      step_cases rank s e (Taken rank s e)
      (λ kind. arrive_cases (Taken rank s e) s refuses e.tick i (λ z. still_taken Ok _ (arrive_taken kind z)))
      (λ kind. release_cases (Taken rank s e) s refuses e.tick i rank e.reads e.writes
      (λ z b.
      let said = wait_said rank s (sets_of e.reads e.writes) in
      scan_taken said _ (release_taken kind z said (begins e.tick) refl (λ was. waits kind was _ _ _)))
      (λ z b. still_taken Run _ (release_taken kind z Run Executing refl (runs kind))))
      (λ kind. commit_cases (Taken rank s e) s refuses e.tick i rank (λ z. scan_taken Ok _ (commit_taken kind z)))
      (λ kind. finish_cases (Taken rank s e) s refuses e.tick i rank (λ z. scan_taken Ok _ (finish_taken kind z)))
