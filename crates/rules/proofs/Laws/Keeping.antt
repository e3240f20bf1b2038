-- Kept holds of a session and itself, goes on from one session to a next, and holds of an admission. Where it holds, a plain task stays plain, an executing
-- one stays executing, and one that still waits is as it was.
use Prim.Native.Nat.{ℕ, ◌+◌, ◌*◌, ◌<◌}
use mathlib.Core.Path.{◌≡◌, refl, sym, ap, ap₂, ◌∙◌}
use mathlib.Core.Logic.{◌⊎◌, inl, inr, ◌≢◌}
use mathlib.Core.Bool.{Bool, true, false}
use mathlib.Core.List.{List}
use native.Mathlib.Nat.{lt_of_lt_of_le, le_of_eq}
use native.Mathlib.Omega.{arith}
use lib.Dec.{eqb}
use lib.ListN.{length-set}
use borrow.Author.Tests.{eqb-true, eqb-false}
use Rattle.objects.proofs.Laws.Below.{not_both, count_change}
use Rattle.objects.specs.Below.{one, count}
use Rattle.objects.specs.Objects.{groups_at}
use Rattle.rules.specs.declared.State.TheVariants.{Executing}
use Rattle.rules.specs.declared.Task.{Task}
use Rattle.rules.specs.declared.Session.{Session}
use Rattle.rules.specs.Tasks.{is_plain, is_waiting, is_executing, task_at, state_at, plain, waiting, executing, sets_at, in_state, with_task}
use Rattle.rules.proofs.Laws.Kept.{Kept}
use Rattle.rules.proofs.Laws.Tasks.{waiting_not_plain, waiting_not_executing, waiting_inside, task_replaced, task_other}

-- what Kept says of task i
abbrev pub EachKept : Session → Session → ℕ → Type 0
EachKept s s' i = (task_at s' i ≡ task_at s i) ⊎ ((i < s.n) × (waiting s i ≡ true) × (task_at s' i ≡ in_state (task_at s i) Executing))

-- ---- where it holds

module _ (s s' : Session) (kept : Kept s s') where
  pub kept_waiting : (i : ℕ) → waiting s' i ≡ true → task_at s' i ≡ task_at s i
  kept_waiting i w = go (kept.each i)
    where
      go : EachKept s s' i → task_at s' i ≡ task_at s i
      go (inl e) = e
      go (inr c) = absurd (not_both (waiting s' i) w (ap (λ (t : Task). is_waiting t.state) c.2))

  pub kept_plain : (i : ℕ) → plain s' i ≡ plain s i
  kept_plain i = go (kept.each i)
    where
      go : EachKept s s' i → plain s' i ≡ plain s i
      go (inl e) = ap (λ (t : Task). is_plain t.state) e
      go (inr c) = ap (λ (t : Task). is_plain t.state) c.2 ∙ sym (waiting_not_plain (state_at s i) c.1)

  pub kept_executing : (i : ℕ) → executing s i ≡ true → executing s' i ≡ true
  kept_executing i w = go (kept.each i)
    where
      go : EachKept s s' i → executing s' i ≡ true
      go (inl e) = ap (λ (t : Task). is_executing t.state) e ∙ w
      go (inr c) = ap (λ (t : Task). is_executing t.state) c.2

  pub kept_sets : (i : ℕ) → sets_at s' i ≡ sets_at s i
  kept_sets i =
      ap₂
      (λ (reads writes : List ℕ). record { reads = groups_at reads (i * 4); writes = groups_at writes (i * 4) })
      kept.reads
      kept.writes

-- ---- how it comes about

pub kept_refl : (s : Session) → Kept s s
kept_refl s = record {
  m = refl;
  n = refl;
  mode = refl;
  tick = refl;
  accepted = refl;
  reads = refl;
  writes = refl;
  size = refl;
  each = λ i. inl refl;
}

pub kept_trans : (s s' s'' : Session) → Kept s s' → Kept s' s'' → Kept s s''
kept_trans s s' s'' p q = record {
  m = q.m ∙ p.m;
  n = q.n ∙ p.n;
  mode = q.mode ∙ p.mode;
  tick = q.tick ∙ p.tick;
  accepted = q.accepted ∙ p.accepted;
  reads = q.reads ∙ p.reads;
  writes = q.writes ∙ p.writes;
  size = q.size ∙ p.size;
  each = λ i. go i (p.each i) (q.each i);
}
  where
    go : (i : ℕ) → EachKept s s' i → EachKept s' s'' i → EachKept s s'' i
    go i (inl e) (inl e') = inl (e' ∙ e)
    go i (inr c) (inl e') = inr (c.0, c.1, e' ∙ c.2)
    go i (inl e) (inr c') =
        inr (
          lt_of_lt_of_le c'.0 (le_of_eq p.n),
          ap (λ (t : Task). is_waiting t.state) (sym e) ∙ c'.1,
          c'.2 ∙ ap (λ (t : Task). in_state t Executing) e,
        )
    go i (inr c) (inr c') = absurd (not_both (waiting s' i) c'.1 (ap (λ (t : Task). is_waiting t.state) c.2))

-- the session with task i executing
abbrev pub admitted : Session → ℕ → Session
admitted s i = with_task s i (in_state (task_at s i) Executing)

module _ (s : Session) (i : ℕ) (below : i < s.n) (waits : waiting s i ≡ true) where
  pub admitted_kept : Kept s (admitted s i)
  admitted_kept = record {
    m = refl;
    n = refl;
    mode = refl;
    tick = refl;
    accepted = refl;
    reads = refl;
    writes = refl;
    size = length-set s.tasks i (in_state (task_at s i) Executing);
    each = λ j. go j (eqb j i) refl;
  }
    where
      go : (j : ℕ) (b : Bool) → eqb j i ≡ b → EachKept s (admitted s i) j
      go j true e = rw (eqb-true j i e) (inr (below, waits, task_replaced s i (in_state (task_at s i) Executing) (waiting_inside s i waits)))
      go j false e = inl (task_other s i j (in_state (task_at s i) Executing) (eqb-false j i e))

  -- now it executes
  pub admitted_executes : executing (admitted s i) i ≡ true
  admitted_executes =
      ap (λ (t : Task). is_executing t.state) (task_replaced s i (in_state (task_at s i) Executing) (waiting_inside s i waits))

  -- and no other does that did not
  pub admitted_other : (j : ℕ) → j ≢ i → executing (admitted s i) j ≡ executing s j
  admitted_other j d = ap (λ (t : Task). is_executing t.state) (task_other s i j (in_state (task_at s i) Executing) d)

  pub admitted_counts : count s.n (executing (admitted s i)) ≡ count s.n (executing s) + 1
  admitted_counts =
      omega (
        arith,
        count_change s.n (executing (admitted s i)) (executing s) i below (λ j l. admitted_other j),
        ap one admitted_executes,
        ap one (waiting_not_executing (state_at s i) waits),
      )
