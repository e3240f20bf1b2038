-- Who ran just before a commit, by the calls, is who ran by the session: where history says each task's state, terms, last arrival and rank. And of any calls, those that count
-- as retries are among those that count as clashes.
use Prim.Native.Nat.{ℕ, ◌+◌, ◌≤◌, ◌<◌, zero-le}
use mathlib.Core.Path.{◌≡◌, refl, sym, ap, ap₂, ◌∙◌}
use mathlib.Core.List.{List, [], ◌∷◌}
use mathlib.Core.Bool.{Bool, true, false, cond, ◌&&◌}
use native.Mathlib.Omega.{arith}
use lib.Dec.{ltb}
use Rattle.objects.specs.Below.{one, count}
use Rattle.objects.proofs.Laws.Below.{and_left, and_right, and_both, one_mono, count_ext}
use Rattle.rules.specs.declared.State.{State}
use Rattle.rules.specs.declared.State.TheVariants.{Absent, Plain, Waiting, Executing}
use Rattle.rules.specs.declared.Session.{Session}
use Rattle.rules.specs.Ranking.{Ranking, Stays}
use Rattle.rules.specs.Tasks.{is_plain, is_waiting, is_executing, task_at, state_at, plain, waiting, executing}
use Rattle.rules.specs.Room.{rank_at, waiting_above, ran}
use Rattle.rules.specs.History.{Call, stage, is_waits, in_wait, is_plains, is_executes, deferred, during, passes, passed, rank_by, ran_by, reruns, retried}
use Rattle.rules.specs.Demand3.{stage_of, Told}

-- ---- a stage is that of a state

waits_waiting : (state : State) → is_waits (stage_of state) ≡ is_waiting state
waits_waiting Absent = refl
waits_waiting Plain = refl
waits_waiting (Waiting w) = refl
waits_waiting Executing = refl

plains_plain : (state : State) → is_plains (stage_of state) ≡ is_plain state
plains_plain Absent = refl
plains_plain Plain = refl
plains_plain (Waiting w) = refl
plains_plain Executing = refl

executes_executing : (state : State) → is_executes (stage_of state) ≡ is_executing state
executes_executing Absent = refl
executes_executing Plain = refl
executes_executing (Waiting w) = refl
executes_executing Executing = refl

pub in_wait_lem : (start s : Session) (calls : List Call) (i : ℕ) → Told start s calls i → in_wait i calls ≡ waiting s i
in_wait_lem start s calls i p = ap is_waits p.stands ∙ waits_waiting (state_at s i)

-- ---- who ran

pub ran_told : (rank : Ranking) → Stays rank → (start s : Session) (calls : List Call) → s.m ≡ start.m → s.n ≡ start.n
    → ((j : ℕ) → j < s.n → Told start s calls j) → (i : ℕ) → i < s.n → ran_by rank start i calls ≡ ran rank s i
unfolding ran_by ran
ran_told rank stays start s calls m_same n_same told i l =
    ap₂ ltb
    (ap₂ (λ (a b : ℕ). a + b)
    (ap₂ (λ (a b : ℕ). a + b) (counts (λ j. is_executes (stage j calls)) (executing s) (λ j lj. ap is_executes (told j lj).stands ∙ executes_executing (state_at s j)))
    (counts (λ j. is_plains (stage j calls)) (plain s) (λ j lj. ap is_plains (told j lj).stands ∙ plains_plain (state_at s j))))
    (counts (λ j. in_wait j calls && ltb (rank_by rank start calls j) (rank_by rank start calls i)) (waiting_above rank s i) above))
    (sym m_same)
  where
    counts : (f g : ℕ → Bool) → ((j : ℕ) → j < s.n → f j ≡ g j) → count start.n f ≡ count s.n g
    counts f g same = ap (λ (k : ℕ). count k f) (sym n_same) ∙ count_ext s.n f g same

    ranked : (j : ℕ) → j < s.n → rank_by rank start calls j ≡ rank_at rank s j
    ranked j lj = stays _ (task_at s j) j (sym (told j lj).terms) (sym (told j lj).arrival) (sym (told j lj).rank)

    above : (j : ℕ) → j < s.n → (in_wait j calls && ltb (rank_by rank start calls j) (rank_by rank start calls i)) ≡ waiting_above rank s i j
    above j lj = rw (in_wait_lem start s calls j (told j lj), ranked j lj, ranked i l)

-- ---- fewer

-- what has f has g: so there are no more of f
during_mono : (f g : Call → List Call → Bool) → ((c : Call) (before : List Call) → f c before ≡ true → g c before ≡ true) → (i : ℕ) (calls : List Call)
    → during f i calls ≤ during g i calls
unfolding during
during_mono f g h i [] = zero-le
during_mono f g h i (c ∷ before) = go (deferred c i) (during_mono f g h i before)
  where
    go : (b : Bool) → during f i before ≤ during g i before
        → cond b 0 (during f i before + one (in_wait i before && f c before)) ≤ cond b 0 (during g i before + one (in_wait i before && g c before))
    go true ih = zero-le
    go false ih =
        let w = in_wait i before in
        let more = one_mono (w && f c before) (w && g c before) (λ e. and_both w (g c before) (and_left w (f c before) e) (h c before (and_right w (f c before) e))) in
        omega (arith, ih, more)

pub retried_fewer : (rank : Ranking) (start : Session) (i : ℕ) (calls : List Call) → retried rank start i calls ≤ passed i calls
unfolding retried passed reruns
retried_fewer rank start i = during_mono (reruns rank start i) (passes i) (λ c before. and_left (passes i c before) _) i
