-- A session before a scan has all that a sound one has, but that each waiting task is held; the scan makes it sound. Whatever a scan does to a task keeps the
-- rest: it is the same task, or one that waited and now executes.
use Prim.Native.Nat.{ℕ, ◌+◌, ◌*◌, ◌≤◌, ◌<◌, zero-le}
use mathlib.Core.Path.{◌≡◌, sym, ap, ◌∙◌}
use mathlib.Core.Logic.{inl, inr}
use mathlib.Core.List.{List}
use mathlib.Core.Bool.{true, false, false≢true, true≢false}
use native.Mathlib.Nat.{le_trans, le_of_eq, lt_of_lt_of_le, not-suc-le_self}
use lib.ListN.{length, get_or}
use Rattle.objects.specs.Below.{count}
use Rattle.rules.specs.declared.State.TheVariants.{Executing}
use Rattle.std.specs.Prelude.{Some}
use Rattle.rules.specs.declared.Task.{Task}
use Rattle.rules.specs.declared.Session.{Session}
use Rattle.rules.specs.Ranking.{Ranking, Strict, Stays}
use Rattle.rules.specs.Tasks.{is_absent, is_waiting, is_executing, wait_of, task_at, state_at, waiting, executing, in_state, no_task}
use Rattle.rules.specs.Setup.{terms_number}
use Rattle.rules.specs.Scan.{scan}
use Rattle.rules.specs.Reachable.{EmptyAt, Job, Sound}
use Rattle.rules.proofs.Laws.Kept.{Kept, Apart, Held}
use Rattle.rules.proofs.Laws.Tasks.{waiting_not_absent}
use Rattle.rules.proofs.Laws.Keeping.{EachKept}
use Rattle.rules.proofs.Laws.Scan.{scan_kept, scan_apart, scan_fits, scan_held}

pub record Almost (s : Session) : Type 0 where
  pub tasks : length s.tasks ≡ 64
  pub reads : length s.reads ≡ 256
  pub writes : length s.writes ≡ 256
  pub m_low : 1 ≤ s.m
  pub m_high : s.m ≤ 16
  pub n_low : 1 ≤ s.n
  pub n_high : s.n ≤ 64
  pub terms : (i : ℕ) → i < s.n → terms_number (task_at s i).terms ≡ 0
  pub apart : Apart s
  pub fit : count s.n (executing s) ≤ s.m
  pub releases : (i : ℕ) → i < s.n → (task_at s i).releases ≤ (task_at s i).terms.transactions
  pub clashes : (i : ℕ) → i < s.n → (wait_of (state_at s i)).clashes ≤ s.accepted
  pub arrivals : (i a : ℕ) → i < s.n → (task_at s i).arrival ≡ Some a → a ≤ s.tick
  pub accepted : s.accepted ≤ 1000000
  pub present : (i : ℕ) → i < s.n → is_absent (state_at s i) ≡ false → Job s.mode (task_at s i)
  pub emptied : (i g : ℕ) → i < 64 → g < 4 → waiting s i ≡ false → executing s i ≡ false → EmptyAt s i g
  pub gone : (i : ℕ) → i < s.n → is_absent (state_at s i) ≡ true → ((task_at s i).releases ≡ 0) × ((task_at s i).rank ≡ 0)
  pub past : (i : ℕ) → s.n ≤ i → i < 64 → task_at s i ≡ no_task

pub almost_sound : (rank : Ranking) (s : Session) → Almost s → Held rank s → Sound rank s
almost_sound rank s a held = record {
  tasks = a.tasks;
  reads = a.reads;
  writes = a.writes;
  m_low = a.m_low;
  m_high = a.m_high;
  n_low = a.n_low;
  n_high = a.n_high;
  terms = a.terms;
  apart = a.apart;
  fit = a.fit;
  held = held;
  releases = a.releases;
  clashes = a.clashes;
  arrivals = a.arrivals;
  accepted = a.accepted;
  present = a.present;
  emptied = a.emptied;
  gone = a.gone;
  past = a.past;
}

-- ---- the scan

-- what a scan makes of a task, as Kept has it: a law of the task holds after it where it held before and holds of the same one executing
module _ (s s' : Session) (kept : Kept s s') where
  each_kept : (P : Task → Type 0) (i : ℕ) → P (task_at s i) → ((i < s.n) → waiting s i ≡ true → P (in_state (task_at s i) Executing)) → P (task_at s' i)
  each_kept P i same runs = go (kept.each i)
    where
      go : EachKept s s' i → P (task_at s' i)
      go (inl e) = rw e same
      go (inr c) = rw c.2 (runs c.0 c.1)

  below_kept : (i : ℕ) → i < s'.n → i < s.n
  below_kept i l = lt_of_lt_of_le l (le_of_eq kept.n)

  pub kept_almost : Almost s → Apart s' → count s.n (executing s') ≤ s.m → Almost s'
  kept_almost a apart fit = record {
    tasks = kept.size ∙ a.tasks;
    reads = ap length kept.reads ∙ a.reads;
    writes = ap length kept.writes ∙ a.writes;
    m_low = rw kept.m a.m_low;
    m_high = rw kept.m a.m_high;
    n_low = rw kept.n a.n_low;
    n_high = rw kept.n a.n_high;
    terms = λ i l. each_kept (λ (t : Task). terms_number t.terms ≡ 0) i (a.terms i (below_kept i l)) (λ b w. a.terms i b);
    apart = apart;
    fit = rw (kept.n, kept.m) fit;
    releases = λ i l. each_kept (λ (t : Task). t.releases ≤ t.terms.transactions) i (a.releases i (below_kept i l)) (λ b w. a.releases i b);
    clashes = λ i l.
        le_trans (each_kept (λ (t : Task). (wait_of t.state).clashes ≤ s.accepted) i (a.clashes i (below_kept i l)) (λ b w. zero-le))
        (le_of_eq (sym kept.accepted));
    arrivals = λ i x l e.
        le_trans (each_kept (λ (t : Task). t.arrival ≡ Some x → x ≤ s.tick) i (a.arrivals i x (below_kept i l)) (λ b w. a.arrivals i x b) e)
        (le_of_eq (sym kept.tick));
    accepted = le_trans (le_of_eq kept.accepted) a.accepted;
    present = λ i l.
        rw kept.mode
        (each_kept (λ (t : Task). is_absent t.state ≡ false → Job s.mode t) i (a.present i (below_kept i l)) (λ b w e. a.present i b (waiting_not_absent (state_at s i) w)));
    emptied = λ i g li lg w x.
        let p =
        each_kept (λ (t : Task). is_waiting t.state ≡ false → is_executing t.state ≡ false → EmptyAt s i g) i (a.emptied i g li lg)
        (λ b y u v. absurd (true≢false v)) w x
        in
        (ap (λ (r : List ℕ). get_or r (i * 4 + g) 0) kept.reads ∙ p.0, ap (λ (r : List ℕ). get_or r (i * 4 + g) 0) kept.writes ∙ p.1);
    gone = λ i l.
        each_kept (λ (t : Task). is_absent t.state ≡ true → (t.releases ≡ 0) × (t.rank ≡ 0)) i (a.gone i (below_kept i l)) (λ b w e. absurd (false≢true e));
    past = λ i h l.
        each_kept (λ (t : Task). t ≡ no_task) i (a.past i (le_trans (le_of_eq (sym kept.n)) h) l)
        (λ b w. absurd (not-suc-le_self i (lt_of_lt_of_le b (le_trans (le_of_eq (sym kept.n)) h))));
  }

pub scanning_sound : (rank : Ranking) → Strict rank → Stays rank → (s : Session) → Almost s → Sound rank (scan rank s).session
scanning_sound rank strict stays s a =
    almost_sound rank (scan rank s).session
    (kept_almost s (scan rank s).session (scan_kept rank s) a (scan_apart rank s a.apart) (scan_fits rank s a.fit))
    (scan_held rank strict stays s a.n_high)
