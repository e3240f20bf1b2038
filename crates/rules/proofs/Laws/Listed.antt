-- What a scan lists is what it does: a task is named exactly if it waited before and executes now, and it is listed with the counts that it had.
use Prim.Native.Nat.{ℕ, ◌+◌, ◌≤◌, ◌<◌}
use mathlib.Core.Path.{◌≡◌, refl, sym, ap, subst, ◌∙◌}
use mathlib.Core.Logic.{◌⊎◌, inl, inr, ◌≢◌}
use mathlib.Core.Bool.{Bool, true, false, ◌||◌}
use mathlib.Core.List.{List, [], ◌∷◌, ◌++◌}
use native.Mathlib.Nat.{lt_of_lt_of_le, le_of_eq, ne_of_lt}
use native.Mathlib.Numerals.{add-one}
use native.Mathlib.Omega.{arith}
use lib.Dec.{eqb}
use lib.ListN.{length, take, get_or, set, length-set, length-replicate}
use lib.Seq.{take-suc-set, get_or-set_same, get_or-set_other}
use borrow.Author.Tests.{eq-eqb, eqb-true, eqb-false}
use Rattle.objects.proofs.Laws.Below.{below_suc, or_right}
use Rattle.rules.specs.declared.State.TheVariants.{Executing}
use Rattle.rules.specs.declared.Task.{Task}
use Rattle.rules.specs.declared.Session.{Session}
use Rattle.rules.specs.declared.Admission.{Admission}
use Rattle.rules.specs.declared.Admissions.{Admissions}
use Rattle.rules.specs.Ranking.{Ranking}
use Rattle.rules.specs.Tasks.{is_waiting, task_at, state_at, waiting, in_state}
use Rattle.rules.specs.Scan.{admissible, Scanned, no_admission, none, admission, listed, admit, scan}
use Rattle.rules.specs.Lines.{admissions}
use Rattle.rules.specs.History.{tasks_of, names}
use Rattle.rules.proofs.Laws.Kept.{Kept}
use Rattle.rules.proofs.Laws.Tasks.{waiting_inside, task_replaced, task_other}
use Rattle.rules.proofs.Laws.Keeping.{kept_refl, kept_waiting, admitted}
use Rattle.rules.proofs.Laws.Room.{room_fewer}
use Rattle.rules.proofs.Laws.Looks.{Lasts, admissible_room, scan_lasts}
use Rattle.rules.proofs.Laws.Scan.{Counted, admit_counted}

-- ---- one more name

-- the tasks of a list with one admission more
pub tasks_more : (xs : List Admission) (a : Admission) → tasks_of (xs ++ (a ∷ [])) ≡ tasks_of xs ++ (a.task ∷ [])
unfolding tasks_of
tasks_more [] a = refl
tasks_more (x ∷ xs) a = ap (λ (more : List ℕ). x.task ∷ more) (tasks_more xs a)

or_nothing : (b : Bool) → (b || false) ≡ b
or_nothing true = refl
or_nothing false = refl

names_more : (xs : List ℕ) (j i : ℕ) → names (xs ++ (j ∷ [])) i ≡ (names xs i || eqb j i)
unfolding names
names_more [] j i = or_nothing (eqb j i)
names_more (x ∷ xs) j i = ap (λ (b : Bool). eqb x i || b) (names_more xs j i) ∙ go (eqb x i) (names xs i) (eqb j i)
  where
    go : (a b c : Bool) → (a || (b || c)) ≡ ((a || b) || c)
    go true b c = refl
    go false b c = refl

abbrev named_in : Admissions → ℕ → Bool
named_in a i = names (tasks_of (admissions a)) i

named_more : (a : Admissions) (new : Admission) (i : ℕ) → a.count < length a.list → named_in (listed a new) i ≡ (named_in a i || eqb new.task i)
named_more a new i l =
    ap (λ (xs : List Admission). names (tasks_of xs) i)
    (ap (λ (k : ℕ). take k (set a.list a.count new)) (add-one a.count) ∙ take-suc-set a.list a.count new l)
    ∙ ap (λ (xs : List ℕ). names xs i) (tasks_more (take a.count a.list) new) ∙ names_more (tasks_of (admissions a)) new.task i

-- ---- what is listed

-- of task i: it stays and is not named, or it waited, executes now and is named
abbrev pub Each : Session → Session → Bool → ℕ → Type 0
Each s s' named i =
    ((task_at s' i ≡ task_at s i) × (named ≡ false))
    ⊎ ((waiting s i ≡ true) × (task_at s' i ≡ in_state (task_at s i) Executing) × (named ≡ true))

-- an admission is of a task that waited, with its counts
abbrev pub Entry : Session → Admission → Type 0
Entry s a = (a.task < s.n) × (waiting s a.task ≡ true) × (a ≡ admission a.task (state_at s a.task))

-- the session s becomes s', and the list says how
pub record Settled (s : Session) (a : Admissions) (s' : Session) : Type 0 where
  pub kept : Kept s s'
  pub each : (i : ℕ) → Each s s' (named_in a i) i
  pub entries : (k : ℕ) → k < a.count → Entry s (get_or a.list k no_admission)

pub none_settled : (s : Session) → Settled s none s
unfolding tasks_of names
none_settled s = record { kept = kept_refl s; each = λ i. inl (refl, refl); entries = λ k l. absurd (omega arith) }

-- ---- the scan

pub record Listing (s : Session) (x : Scanned) : Type 0 where
  pub counted : Counted s x
  pub size : length x.admitted.list ≡ 16
  pub settled : Settled s x.admitted x.session

pub none_listing : (s : Session) → Listing s (record { admitted = none; session = s })
none_listing s = record {
  counted = record { kept = kept_refl s; counts = omega arith; bounded = inl refl };
  size = length-replicate 16 no_admission;
  settled = none_settled s;
}

-- where there is room for one more to execute, there is a place for it in the list
pub listing_fits : (rank : Ranking) (s : Session) → s.m ≤ 16 → (x : Scanned) (i : ℕ) → Listing s x → admissible rank x.session i ≡ true
    → x.admitted.count < length x.admitted.list
listing_fits rank s few x i p a =
    omega (
      arith,
      p.size,
      rw p.counted.kept.n at (room_fewer rank x.session i (admissible_room rank x.session i a)),
      p.counted.counts,
      p.counted.kept.m,
    )

pub admit_listing : (rank : Ranking) (s : Session) → s.m ≤ 16 → Lasts rank (Listing s)
admit_listing rank s few x i p l w a = record {
  counted = counted_now;
  size = length-set x.admitted.list x.admitted.count new ∙ p.size;
  settled = record { kept = counted_now.kept; each = λ j. go j (eqb i j) refl (p.settled.each j); entries = entries };
}
  where
    now : Session
    now = x.session

    counted_now : Counted s (admit x i)
    counted_now = admit_counted rank s x i p.counted l w a

    new : Admission
    new = admission i (state_at now i)

    fits : x.admitted.count < length x.admitted.list
    fits = listing_fits rank s few x i p a

    -- one that still waits is as it was
    was : task_at now i ≡ task_at s i
    was = kept_waiting s now p.counted.kept i w

    waited : waiting s i ≡ true
    waited = ap (λ (t : Task). is_waiting t.state) (sym was) ∙ w

    go : (j : ℕ) (b : Bool) → eqb i j ≡ b → Each s now (named_in x.admitted j) j → Each s (admitted now i) (named_in (admit x i).admitted j) j
    go j true e before =
        let same : i ≡ j = eqb-true i j e in
        subst (λ (k : ℕ). Each s (admitted now i) (named_in (admit x i).admitted k) k) same
        (inr (
          waited,
          task_replaced now i (in_state (task_at now i) Executing) (waiting_inside now i w) ∙ ap (λ (t : Task). in_state t Executing) was,
          named_more x.admitted new i fits ∙ or_right (named_in x.admitted i) (eqb i i) (eq-eqb i i refl),
        ))
    go j false e before =
        let other : j ≢ i = λ q. eqb-false i j e (sym q) in
        let named : named_in (admit x i).admitted j ≡ named_in x.admitted j =
        named_more x.admitted new j fits ∙ ap (λ (b : Bool). named_in x.admitted j || b) e
        ∙ or_nothing (named_in x.admitted j)
        in
        let stays : task_at (admitted now i) j ≡ task_at now j = task_other now i j (in_state (task_at now i) Executing) other in
        elim before [ inl q ↦ inl (stays ∙ q.0, named ∙ q.1) | inr q ↦ inr (q.0, stays ∙ q.1, named ∙ q.2) ]

    entries : (k : ℕ) → k < x.admitted.count + 1 → Entry s (get_or (set x.admitted.list x.admitted.count new) k no_admission)
    entries k lk = pick (below_suc k x.admitted.count (omega arith))
      where
        pick : (k ≡ x.admitted.count) ⊎ (k < x.admitted.count)
            → Entry s (get_or (set x.admitted.list x.admitted.count new) k no_admission)
        pick (inl e) =
            rw (e, get_or-set_same x.admitted.list x.admitted.count new no_admission fits)
            (lt_of_lt_of_le l (le_of_eq p.counted.kept.n), waited, ap (λ (t : Task). admission i t.state) was)
        pick (inr m) =
            rw (get_or-set_other x.admitted.list x.admitted.count k new no_admission (ne_of_lt m)) (p.settled.entries k m)

pub scan_settled : (rank : Ranking) (s : Session) → s.m ≤ 16 → Settled s (scan rank s).admitted (scan rank s).session
scan_settled rank s few = (scan_lasts rank (Listing s) (admit_listing rank s few) s (none_listing s)).settled
