-- What a scan lists, plainly. Before each look the tasks listed so far stand in rank order, all before the rank from which it looks, and execute.
use Prim.Native.Nat.{ℕ, zero, suc, ◌+◌, ◌≤◌, ◌<◌}
use mathlib.Core.Path.{◌≡◌, refl, sym, ap, ◌∙◌}
use mathlib.Core.Logic.{◌⊎◌, inl, inr}
use mathlib.Core.List.{List, [], ◌∷◌}
use mathlib.Core.Bool.{Bool, true, false, cond, false≢true}
use native.Mathlib.Nat.{ne_of_lt}
use native.Mathlib.Omega.{arith}
use lib.Dec.{eqb}
use lib.ListN.{take, get_or}
use lib.Seq.{get_or-set_same, get_or-set_other}
use borrow.Author.Tests.{eqb-true}
use Rattle.objects.proofs.Laws.Below.{below_suc, not_both, or_cases}
use Rattle.rules.specs.declared.Task.{Task}
use Rattle.rules.specs.declared.Session.{Session}
use Rattle.rules.specs.declared.Admission.{Admission}
use Rattle.rules.specs.Ranking.{Ranking}
use Rattle.rules.specs.Tasks.{is_executing, state_at, executing}
use Rattle.rules.specs.Room.{rank_at}
use Rattle.rules.specs.Scan.{admissible, Scanned, no_admission, none, admission, admit, tried, scan}
use Rattle.rules.specs.Listed.{admission_at, ScanLists}
use Rattle.rules.specs.History.{tasks_of, names}
use Rattle.rules.proofs.Laws.Foremost.{Found}
use Rattle.rules.proofs.Laws.Keeping.{kept_waiting, kept_executing, admitted, admitted_kept, admitted_executes}
use Rattle.rules.proofs.Laws.Looks.{look_ends}
use Rattle.rules.proofs.Laws.Scan.{scan_few}
use Rattle.rules.proofs.Laws.Listed.{Each, Listing, none_listing, listing_fits, admit_listing}

-- a task that a list names stands at a place of it
named_place : (list : List Admission) (c i : ℕ) → names (tasks_of (take c list)) i ≡ true → (k : ℕ) × (k < c) × ((get_or list k no_admission).task ≡ i)
unfolding names tasks_of
named_place list zero i e = absurd (false≢true e)
named_place [] (suc c) i e = absurd (false≢true e)
named_place (a ∷ list) (suc c) i e = go (named_place list c i) (or_cases (eqb a.task i) (names (tasks_of (take c list)) i) e)
  where
    go : (names (tasks_of (take c list)) i ≡ true → (k : ℕ) × (k < c) × ((get_or list k no_admission).task ≡ i))
        → (eqb a.task i ≡ true) ⊎ (names (tasks_of (take c list)) i ≡ true) → (k : ℕ) × (k < suc c) × ((get_or (a ∷ list) k no_admission).task ≡ i)
    go rest (inl p) = (0, omega arith, eqb-true a.task i p)
    go rest (inr p) = let w = rest p in (suc w.0, omega (arith, w.1), w.2)

module _ (rank : Ranking) (s : Session) (few : s.m ≤ 16) where
  abbrev task_at_place : Scanned → ℕ → ℕ
  task_at_place x k = (admission_at x.admitted k).task

  record Ordered (from : ℕ) (x : Scanned) : Type 0 where
    listing : Listing s x
    executes : (k : ℕ) → k < x.admitted.count → executing x.session (task_at_place x k) ≡ true
    passed : (k : ℕ) → k < x.admitted.count → rank_at rank s (task_at_place x k) < from
    ranked : (j k : ℕ) → j < k → k < x.admitted.count → rank_at rank s (task_at_place x j) < rank_at rank s (task_at_place x k)

  module _ (from : ℕ) (x : Scanned) (p : Ordered from x) (i : ℕ) (found : Found rank x.session from i) where
    abbrev now : Session
    now = x.session

    abbrev count : ℕ
    count = x.admitted.count

    -- it still waits, so its rank is the one that it had
    rank_was : rank_at rank now i ≡ rank_at rank s i
    rank_was = ap (λ (t : Task). rank t i) (kept_waiting s now p.listing.counted.kept i found.waits)

    module _ (free : admissible rank now i ≡ true) where
      -- it stands at the end of the list, and the places before it stay
      at_end : task_at_place (admit x i) count ≡ i
      at_end =
          ap (λ (a : Admission). a.task)
          (get_or-set_same x.admitted.list count (admission i (state_at now i)) no_admission (listing_fits rank s few x i p.listing free))

      before_end : (k : ℕ) → k < count → task_at_place (admit x i) k ≡ task_at_place x k
      before_end k l =
          ap (λ (a : Admission). a.task) (get_or-set_other x.admitted.list count k (admission i (state_at now i)) no_admission (ne_of_lt l))

      -- a law at every place of the longer list
      at_each : (P : ℕ → ℕ → Type 0) → P count i → ((k : ℕ) → k < count → P k (task_at_place x k)) → (k : ℕ) → k < count + 1
          → P k (task_at_place (admit x i) k)
      at_each P last others k l = go (below_suc k count (omega arith))
        where
          go : (k ≡ count) ⊎ (k < count) → P k (task_at_place (admit x i) k)
          go (inl e) = rw (e, at_end) last
          go (inr m) = rw (before_end k m) (others k m)

      admit_ordered : Ordered (rank_at rank now i + 1) (admit x i)
      admit_ordered = record {
        listing = admit_listing rank s few x i p.listing found.below found.waits free;
        executes =
            at_each (λ (k j : ℕ). executing (admitted now i) j ≡ true) (admitted_executes now i found.below found.waits)
            (λ k l. kept_executing now (admitted now i) (admitted_kept now i found.below found.waits) (task_at_place x k) (p.executes k l));
        passed =
            at_each (λ (k j : ℕ). rank_at rank s j < rank_at rank now i + 1) (omega (arith, rank_was))
            (λ k l. omega (arith, p.passed k l, found.ranked));
        ranked = λ j k l lk.
            at_each (λ (k t : ℕ). j < k → rank_at rank s (task_at_place (admit x i) j) < rank_at rank s t)
            (λ m. rw (before_end j m) (omega (arith, p.passed j m, found.ranked, rank_was)))
            (λ k lk m. rw (before_end j (omega arith)) (p.ranked j k m lk)) k lk l;
      }

    tried_ordered : Ordered (rank_at rank now i + 1) (tried rank x i)
    tried_ordered = go (admissible rank now i) refl
      where
        go : (b : Bool) → admissible rank now i ≡ b → Ordered (rank_at rank now i + 1) (cond b (admit x i) x)
        go true e = admit_ordered e
        go false e = record {
          listing = p.listing;
          executes = p.executes;
          passed = λ k l. omega (arith, p.passed k l, found.ranked);
          ranked = p.ranked;
        }

  scan_ordered : (from : ℕ) × Ordered from (scan rank s)
  unfolding scan
  scan_ordered =
      look_ends rank (λ k from. Ordered from) (λ x. (from : ℕ) × Ordered from x) (λ from x p. (from, p)) (λ k from x p e. (from, p))
      (λ k from x p i e found. tried_ordered from x p i found) s.n 0 (record { admitted = none; session = s })
      (record {
        listing = none_listing s;
        executes = λ k l. absurd (omega arith);
        passed = λ k l. absurd (omega arith);
        ranked = λ j k m l. absurd (omega arith);
      })

  -- one that executes now and did not is named
  now_named : (i : ℕ) → executing s i ≡ false → executing (scan rank s).session i ≡ true → names (tasks_of (take (scan rank s).admitted.count (scan rank s).admitted.list)) i ≡ true
  now_named i was is = go (scan_ordered.1.listing.settled.each i)
    where
      go : {named : Bool} → Each s (scan rank s).session named i → named ≡ true
      go (inl q) = absurd (not_both (executing s i) (ap (λ (t : Task). is_executing t.state) (sym q.0) ∙ is) was)
      go (inr q) = q.2

pub scan_lists : ScanLists
scan_lists rank s few =
    let p = (scan_ordered rank s few).1 in
    let entries = p.listing.settled.entries in
    record {
      few = scan_few rank s;
      below = λ k l. (entries k l).0;
      waited = λ k l. (entries k l).1;
      executes = p.executes;
      clashes = λ k l. ap (λ (a : Admission). a.clashes) (entries k l).2;
      retries = λ k l. ap (λ (a : Admission). a.retries) (entries k l).2;
      ranked = p.ranked;
      once = λ j k m l q. omega (arith, p.ranked j k m l, ap (rank_at rank s) q);
      all = λ i was is. named_place (scan rank s).admitted.list (scan rank s).admitted.count i (now_named rank s few i was is);
    }
