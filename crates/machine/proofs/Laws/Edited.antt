-- How an event makes its change of one task: it puts numbers at the places of the session's numbers and states and at those of the task, sets and takes out bits, and replaces
-- the task and its sets in the session.
use Prim.Native.Nat.{ℕ, ◌+◌, ◌*◌, ◌≤◌, ◌<◌}
use mathlib.Core.Path.{◌≡◌, refl, sym, ap, ◌∙◌}
use mathlib.Core.Logic.{◌≢◌, ◌⊎◌, inl, inr}
use mathlib.Core.List.{List}
use mathlib.Core.Bool.{Bool, true, false, cond, not, ◌&&◌, ◌||◌, and-true, and-false, or-true, or-false}
use native.Mathlib.Nat.{zero-add}
use native.Mathlib.Omega.{arith}
use lib.Dec.{eqb}
use lib.ListN.{length, get_or, set, length-set}
use lib.Seq.{get_or-set_same, get_or-set_other}
use borrow.Author.Tests.{eqb-true}
use Rattle.objects.specs.Objects.{bit}
use Rattle.rules.specs.declared.Task.{Task}
use Rattle.rules.specs.declared.Session.{Session}
use Rattle.rules.specs.Ranking.{Ranking}
use Rattle.rules.specs.Tasks.{no_task, task_at, sets_at, sets_of, with_groups, with_task, with_sets, stamped}
use Rattle.rules.specs.Demand3.{SameSets}
use Rattle.rules.proofs.Laws.Rows.{groups_length, groups_other, groups_same}
use Rattle.machine.specs.Bits.{with_bit, without_bit}
use Rattle.machine.specs.Places.{accepted_of, rank_place, number_place, set_place, sets_in, sets_put}
use Rattle.machine.specs.Events.{stamped_in}
use Rattle.machine.specs.Holds.{Tabled}
use Rattle.machine.proofs.Laws.Bits.{with_bit_lem, without_bit_lem}
use Rattle.machine.proofs.Laws.Places.{kept, sets_kept, sets_own}
use Rattle.machine.proofs.Laws.Changed.{numbers_stay, sets_stay, sets_meet, sets_back, ranks_stay, Leaves, Moved}

-- ---- what an edit leaves

-- a number of the session, or the word of a state
pub leaves_head : (i : ℕ) (w v : List ℕ) (p x : ℕ) → 2 ≤ p → p < 7 → Leaves i w v → Leaves i w (set v p x)
leaves_head i w v p x low high before q o = kept v p q x (apart o.head) ∙ before q o
  where
    apart : (q < 2) ⊎ (7 ≤ q) → p ≢ q
    apart (inl l) = omega arith
    apart (inr l) = omega arith

-- the tick and the count of events
pub leaves_stamped : (i : ℕ) (w : List ℕ) (tick : ℕ) → Leaves i w (stamped_in w tick)
leaves_stamped i w tick =
    leaves_head i w (set w 2 tick) 3 (accepted_of w + 1) (omega arith) (omega arith)
    (leaves_head i w w 2 tick (omega arith) (omega arith) (λ q o. refl))

-- a number of the task
pub leaves_number : (i : ℕ) (w v : List ℕ) (f x : ℕ) → f < 8 → Leaves i w v → Leaves i w (set v (number_place i f) x)
leaves_number i w v f x l before q o = kept v (number_place i f) q x (o.numbers f l) ∙ before q o

-- its rank
pub leaves_rank : (i : ℕ) (w v : List ℕ) (x : ℕ) → Leaves i w v → Leaves i w (set v (rank_place i) x)
leaves_rank i w v x before q o = kept v (rank_place i) q x o.rank ∙ before q o

-- its sets
pub leaves_sets : (i : ℕ) (w v reads writes : List ℕ) → Leaves i w v → Leaves i w (sets_put v i reads writes)
leaves_sets i w v reads writes before q o = sets_kept v i reads writes q o.sets ∙ before q o

-- ---- the bits of the states

-- one more
pub bit_more : (x i j : ℕ) → j < 64 → bit (with_bit x i) j ≡ cond (eqb j i) true (bit x j)
bit_more x i j l = with_bit_lem x i j l ∙ go (bit x j) (eqb j i)
  where
    go : (a b : Bool) → (a || b) ≡ cond b true a
    go a true = or-true a
    go a false = or-false a

-- one fewer
pub bit_less : (x i j : ℕ) → j < 64 → bit (without_bit x i) j ≡ cond (eqb j i) false (bit x j)
bit_less x i j l = without_bit_lem x i j l ∙ go (bit x j) (eqb j i)
  where
    go : (a b : Bool) → (a && not b) ≡ cond b false a
    go a true = and-false a
    go a false = and-true a

-- as it was
pub bit_same : (x i : ℕ) (b : Bool) → bit x i ≡ b → (j : ℕ) → bit x j ≡ cond (eqb j i) b (bit x j)
bit_same x i b is j = go (eqb j i) refl
  where
    go : (t : Bool) → eqb j i ≡ t → bit x j ≡ cond t b (bit x j)
    go true e = ap (bit x) (eqb-true j i e) ∙ is
    go false e = refl

-- ---- the session

module _ (rank : Ranking) (w : List ℕ) (s : Session) (table : Tabled rank w s) (tick i : ℕ) (t : Task) (small : i < 64) where
  -- another task, at this tick and with so many events, and its sets as they were
  pub moved_task : (accepted : ℕ)
      → Moved s i t
      (record { m = s.m; n = s.n; mode = s.mode; tick = tick; accepted = accepted; tasks = set s.tasks i t; reads = s.reads; writes = s.writes })
  moved_task accepted = record {
    tasks = length-set s.tasks i t ∙ table.tasks;
    reads = table.reads;
    writes = table.writes;
    m = refl;
    n = refl;
    mode = refl;
    here = get_or-set_same s.tasks i t no_task (omega (arith, table.tasks));
    others = λ j d. get_or-set_other s.tasks i j t no_task d;
    sets = λ j d g l. (refl, refl);
  }

  -- another task with other sets
  pub moved_sets : (reads writes : List ℕ) → Moved s i t (with_sets (with_task (stamped s tick) i t) i reads writes)
  moved_sets reads writes = record {
    tasks = length-set s.tasks i t ∙ table.tasks;
    reads = groups_length s.reads i reads ∙ table.reads;
    writes = groups_length s.writes i writes ∙ table.writes;
    m = refl;
    n = refl;
    mode = refl;
    here = get_or-set_same s.tasks i t no_task (omega (arith, table.tasks));
    others = λ j d. get_or-set_other s.tasks i j t no_task d;
    sets = λ j d g l. (groups_other s.reads i reads j g d l, groups_other s.writes i writes j g d l);
  }

  -- which are the sets of task i
  pub moved_own : (reads writes : List ℕ) → SameSets (sets_at (with_sets (with_task (stamped s tick) i t) i reads writes) i) (sets_of reads writes)
  moved_own reads writes g l = (own s.reads reads table.reads, own s.writes writes table.writes)
    where
      own : (row words : List ℕ) → length row ≡ 256 → get_or (with_groups row i words) (i * 4 + g) 0 ≡ get_or words (0 + g) 0
      own row words size = groups_same row i words g size small l ∙ ap (λ (k : ℕ). get_or words k 0) (sym (zero-add g))

  -- put into words they are the task's there too
  pub moved_put : (v reads writes : List ℕ) → length v ≡ 1280
      → SameSets (sets_in (sets_put v i reads writes) i) (sets_at (with_sets (with_task (stamped s tick) i t) i reads writes) i)
  moved_put v reads writes size =
      sets_meet (sets_in (sets_put v i reads writes) i) _ (sets_at session i) (sets_own v i reads writes size small)
      (sets_meet _ (sets_of reads writes) (sets_at session i) brought (sets_back (sets_at session i) (sets_of reads writes) (moved_own reads writes)))
    where
      session : Session
      session = with_sets (with_task (stamped s tick) i t) i reads writes

      -- as they are put there they are as an event brings them
      brought : SameSets (record { reads = λ g. get_or reads g 0; writes = λ g. get_or writes g 0 }) (sets_of reads writes)
      brought g l = (ap (λ (k : ℕ). get_or reads k 0) (sym (zero-add g)), ap (λ (k : ℕ). get_or writes k 0) (sym (zero-add g)))

-- another task once more
pub moved_again : (s : Session) (tick i : ℕ) (t u : Task) (reads writes : List ℕ) → Moved s i t (with_sets (with_task (stamped s tick) i t) i reads writes)
    → i < length s.tasks → Moved (with_sets (with_task (stamped s tick) i t) i reads writes) i u (with_sets (with_task (stamped s tick) i u) i reads writes)
moved_again s tick i t u reads writes moved inside = record {
  tasks = length-set s.tasks i u ∙ sym (length-set s.tasks i t) ∙ moved.tasks;
  reads = moved.reads;
  writes = moved.writes;
  m = refl;
  n = refl;
  mode = refl;
  here = get_or-set_same s.tasks i u no_task inside;
  others = λ j d. get_or-set_other s.tasks i j u no_task d ∙ sym (get_or-set_other s.tasks i j t no_task d);
  sets = λ j d g l. (refl, refl);
}

-- ---- the row

-- the row is no part of the table
pub table_stays : (rank : Ranking) (w w' : List ℕ) (s : Session) → length w' ≡ 1280 → ((q : ℕ) → (q < 7) ⊎ (72 ≤ q) → get_or w' q 0 ≡ get_or w q 0)
    → Tabled rank w s → Tabled rank w' s
table_stays rank w w' s size same table = record {
  size = size;
  tasks = table.tasks;
  reads = table.reads;
  writes = table.writes;
  few = table.few;
  m = same 0 (inl (omega arith)) ∙ table.m;
  n = same 1 (inl (omega arith)) ∙ table.n;
  mode = same 1224 (inr (omega arith)) ∙ table.mode;
  tick = same 2 (inl (omega arith)) ∙ table.tick;
  accepted = same 3 (inl (omega arith)) ∙ table.accepted;
  plains = λ j l. ap (λ (x : ℕ). bit x j) (same 4 (inl (omega arith))) ∙ table.plains j l;
  waits = λ j l. ap (λ (x : ℕ). bit x j) (same 5 (inl (omega arith))) ∙ table.waits j l;
  executes = λ j l. ap (λ (x : ℕ). bit x j) (same 6 (inl (omega arith))) ∙ table.executes j l;
  above = ranks_stay rank w w' s s table.few refl (λ j l. same (72 + j) (inr (omega arith))) (λ j here. (here, refl)) table.above;
  numbers = λ i l.
      numbers_stay w w' i (task_at s i) (λ f m. same (number_place i f) (inr (omega arith))) (same (rank_place i) (inr (omega arith))) (table.numbers i l);
  sets = λ i l.
      sets_meet (sets_in w' i) (sets_in w i) (sets_at s i) (sets_stay w w' i (λ f m. same (set_place i f) (inr (omega arith)))) (table.sets i l);
  periods = table.periods;
}
