-- Who ranks above whom moves at an arrival alone, of any words at all: every other event writes before those words, states and row, or behind them. What each change leaves
-- is a law of its own, for the events on words that hold a session too.
use Prim.Native.Nat.{ℕ, zero, suc, ◌+◌, ◌≤◌, ◌<◌}
use mathlib.Core.Path.{◌≡◌, refl, ◌∙◌}
use mathlib.Core.Logic.{inr}
use mathlib.Core.List.{List}
use mathlib.Core.Bool.{Bool, true, cond}
use native.Mathlib.Omega.{arith}
use lib.Dec.{eqb, ltb}
use borrow.Author.Tests.{lt-ltb}
use Rattle.rules.specs.declared.Said.{Said}
use Rattle.rules.specs.declared.Said.TheVariants.{Run}
use Rattle.machine.specs.Places.{row_held, row_task, above_of, sets_put}
use Rattle.machine.specs.Asked.{blocked_in, wait_said_in}
use Rattle.machine.specs.Row.{Scan, admissible_in, look_at, look_to, scan_from, scan_in}
use Rattle.machine.specs.Events.{Outcome, release_number_in, commit_number_in, finish_number_in, still_in, scanning_in, begun_in, released_in, runs_in, deferred_in, waits_in, release_accepted_in, release_in, raised_in, busy_in, ended_in, committed_in, commit_in, finished_in, finish_in}
use Rattle.machine.specs.Theorem.{AboveStays}
use Rattle.machine.proofs.Laws.Choices.{either, event_cases}
use Rattle.machine.proofs.Laws.Places.{kept, chain, sets_before}
use Rattle.machine.proofs.Laws.RowPut.{row_put_kept}
use Rattle.machine.proofs.Laws.Raised.{raised_aside, aside_low}

module _ (j : ℕ) (low : j < 64) where
  inside : ltb j 64 ≡ true
  inside = lt-ltb j 64 low

  -- words v say of task j what words w do
  abbrev Same : List ℕ → List ℕ → Type 0
  Same w v = above_of v j ≡ above_of w j

  -- ---- the changes of one task

  module _ (w : List ℕ) (tick i : ℕ) where
    -- a release, with its sets in their place
    bare_above : Same w (begun_in w tick i)
    bare_above = simp (chain, inside)

    pub begun_above : (reads writes : List ℕ) → Same w (sets_put (begun_in w tick i) i reads writes)
    begun_above reads writes = sets_before (begun_in w tick i) i reads writes (72 + j) (omega arith) ∙ bare_above

    -- a wait
    pub deferred_above : Same w (deferred_in w tick i)
    deferred_above = simp (chain, inside)

    -- the end of a transaction
    pub ended_above : Same w (ended_in w tick i)
    ended_above = simp (chain, inside)

    -- the end of a job
    finished_above : Same w (finished_in w tick i)
    finished_above = simp (chain, inside)

  -- ---- a scan

  -- one place looked at, behind those that stay
  look_above : (x : Scan) (p : ℕ) → x.kept ≤ p → p < 64 → ((look_at x p).kept ≤ suc p) × Same x.words (look_at x p).words
  unfolding look_at
  look_above x p few l =
      either (λ (y : Scan). (y.kept ≤ suc p) × Same x.words y.words) (admissible_in x (row_task x.words p)) (omega arith, simp chain)
      (omega arith, kept x.words (8 + x.kept) (72 + j) _ (omega arith))

  -- the first p places
  looks_above : (w list : List ℕ) (p : ℕ) → p ≤ 64 → ((look_to (scan_from w list) p).kept ≤ p) × Same w (look_to (scan_from w list) p).words
  unfolding look_to
  looks_above w list zero few = (omega arith, refl)
  looks_above w list (suc p) few =
      let before = looks_above w list p (omega arith) in
      let now = look_above (look_to (scan_from w list) p) p before.0 (omega arith) in
      (now.0, now.1 ∙ before.1)

  -- all of them
  scan_above : (w list : List ℕ) → Same w (scan_in w list).words
  unfolding scan_in
  scan_above w list =
      kept (look_to (scan_from w list) (row_held w)).words 7 (72 + j) _ (omega arith) ∙ (looks_above w list (row_held w) (omega arith)).1

  -- ---- the events

  module _ (w list : List ℕ) (tick i : ℕ) where
    -- what an event comes to says it still
    abbrev Says : Outcome → Type 0
    Says x = Same w x.words

    -- a scan of such words leaves such words
    scanned : (v : List ℕ) → Same w v → Same w (scan_in v list).words
    scanned v same = scan_above v list ∙ same

    -- a scan follows, or none
    either_above : (b : Bool) (said said' : Said) (v v' : List ℕ) → Same w v → Same w v' → Says (cond b (scanning_in said v list) (still_in said' v' list))
    either_above b said said' v v' same same' = either Says b (scanned v same) same'

    -- a commit raises the counts, and ends the transaction
    committed_above : Same w (committed_in w tick i)
    unfolding committed_in
    committed_above =
        ended_above (raised_in w i (busy_in w) (row_held w)) tick i ∙ raised_aside w i (busy_in w) (row_held w) (72 + j) (aside_low (72 + j) (omega arith))

    commits : Says (commit_in w list tick i)
    unfolding commit_in
    commits = either Says (eqb (commit_number_in w tick i) 0) (scanned (committed_in w tick i) committed_above) refl

    -- a finish
    finishes : Says (finish_in w list tick i)
    unfolding finish_in
    finishes = either Says (eqb (finish_number_in w tick i) 0) (scanned (finished_in w tick i) (finished_above w tick i)) refl

    module _ (reads writes : List ℕ) where
      abbrev begun : List ℕ
      begun = released_in w tick i reads writes

      released_above : Same w begun
      unfolding released_in
      released_above = begun_above w tick i reads writes

      -- it waits, in the row
      waits_above : Same begun (waits_in begun tick i)
      unfolding waits_in
      waits_above = row_put_kept (deferred_in begun tick i) i (72 + j) (inr (omega arith)) ∙ deferred_above begun tick i

      -- or it runs
      runs_above : Same begun (runs_in begun i)
      unfolding runs_in
      runs_above = simp chain

      accepts : Says (release_accepted_in w list tick i reads writes)
      unfolding release_accepted_in
      accepts =
          either_above (blocked_in begun i) (wait_said_in begun i) Run (waits_in begun tick i) (runs_in begun i) (waits_above ∙ released_above)
          (runs_above ∙ released_above)

      -- a release
      releases : Says (release_in w list tick i reads writes)
      unfolding release_in
      releases = either Says (eqb (release_number_in w tick i) 0) accepts refl

pub above_stays : AboveStays
above_stays w list e other j low =
    event_cases (λ (x : Outcome). above_of x.words j ≡ above_of w j) w list e (λ kind. absurd (other kind)) (releases j low w list e.tick e.task e.reads e.writes)
    (commits j low w list e.tick e.task) (finishes j low w list e.tick e.task)
