-- An event leaves a list as long as it was, of any words at all.
use Prim.Native.Nat.{ℕ, zero, suc}
use mathlib.Core.Path.{◌≡◌, refl, ◌∙◌}
use mathlib.Core.List.{List}
use lib.Dec.{eqb}
use lib.ListN.{length}
use Rattle.rules.specs.declared.Event.{Event}
use Rattle.machine.specs.Places.{row_task, row_held}
use Rattle.machine.specs.Asked.{blocked_in}
use Rattle.machine.specs.Row.{Scan, admissible_in, look_at, look_to, scan_from, scan_in}
use Rattle.machine.specs.Events.{Outcome, arrive_number_in, release_number_in, commit_number_in, finish_number_in, arrive_in, released_in, waits_in, release_accepted_in, release_in, committed_in, commit_in, finished_in, finish_in, step_in}
use Rattle.machine.proofs.Laws.Choices.{either, event_cases}
use Rattle.machine.proofs.Scan.{list_length}

-- ---- a scan

-- one place looked at
look_length : (x : Scan) (p : ℕ) → length (look_at x p).list ≡ length x.list
unfolding look_at
look_length x p =
    either (λ (y : Scan). length y.list ≡ length x.list) (admissible_in x (row_task x.words p)) (list_length x.list x.admitted _ _ _ _) refl

-- the first p places
looks_length : (x : Scan) (p : ℕ) → length (look_to x p).list ≡ length x.list
unfolding look_to
looks_length x zero = refl
looks_length x (suc p) = look_length (look_to x p) p ∙ looks_length x p

-- all of them
scan_length : (w list : List ℕ) → length (scan_in w list).list ≡ length list
unfolding scan_in
scan_length w list = looks_length (scan_from w list) (row_held w)

-- ---- an event

-- what an event comes to has a list of this length
abbrev Long : ℕ → Outcome → Type 0
Long n x = length x.list ≡ n

module _ (w list : List ℕ) (tick i : ℕ) where
  -- an arrival
  arrives : Long (length list) (arrive_in w list tick i)
  unfolding arrive_in
  arrives = either (Long (length list)) (eqb (arrive_number_in w tick i) 0) refl refl

  -- a commit
  commits : Long (length list) (commit_in w list tick i)
  unfolding commit_in
  commits = either (Long (length list)) (eqb (commit_number_in w tick i) 0) (scan_length (committed_in w tick i) list) refl

  -- a finish
  finishes : Long (length list) (finish_in w list tick i)
  unfolding finish_in
  finishes = either (Long (length list)) (eqb (finish_number_in w tick i) 0) (scan_length (finished_in w tick i) list) refl

  -- one that is accepted waits, and a scan follows, or it runs
  accepts : (reads writes : List ℕ) → Long (length list) (release_accepted_in w list tick i reads writes)
  unfolding release_accepted_in
  accepts reads writes =
      let v = released_in w tick i reads writes in
      either (Long (length list)) (blocked_in v i) (scan_length (waits_in v tick i) list) refl

  -- a release
  releases : (reads writes : List ℕ) → Long (length list) (release_in w list tick i reads writes)
  unfolding release_in
  releases reads writes = either (Long (length list)) (eqb (release_number_in w tick i) 0) (accepts reads writes) refl

-- any event
pub step_length : (w list : List ℕ) (e : Event) → length (step_in w list e).list ≡ length list
step_length w list e =
    event_cases (Long (length list)) w list e (λ kind. arrives w list e.tick e.task) (releases w list e.tick e.task e.reads e.writes)
    (commits w list e.tick e.task) (finishes w list e.tick e.task)
