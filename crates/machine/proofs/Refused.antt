-- 'A refused event changes no part of the session', of any words at all.
use Prim.Native.Nat.{ℕ, ◌≤◌}
use mathlib.Core.Path.{◌≡◌, refl}
use mathlib.Core.List.{List}
use mathlib.Core.Bool.{cond}
use native.Mathlib.Omega.{arith}
use lib.Dec.{eqb}
use Rattle.rules.specs.declared.Said.TheVariants.{Ok}
use Rattle.rules.specs.Answers.{number}
use Rattle.machine.specs.Asked.{blocked_in, wait_said_in}
use Rattle.machine.specs.Events.{Outcome, arrive_number_in, finish_number_in, release_number_in, commit_number_in, refused_in, still_in, scanning_in, arrived_in, arrive_in, released_in, release_accepted_in, release_in, committed_in, commit_in, finished_in, finish_in}
use Rattle.machine.specs.Theorem.{RefusedStays}
use Rattle.machine.proofs.Laws.Choices.{either, event_cases}

-- where it is refused, nothing is another
abbrev Stays : List ℕ → List ℕ → Outcome → Type 0
Stays w list x = 1 ≤ number x.said → (x.words ≡ w) × (x.list ≡ list) × (x.admitted ≡ 0)

-- an event that is accepted where its number is 0
by_number : (w list : List ℕ) (k : ℕ) (accepts : Outcome) → number accepts.said ≡ 0 → Stays w list (cond (eqb k 0) accepts (refused_in w list k))
by_number w list k accepts zero = either (Stays w list) (eqb k 0) (λ l. absurd (omega arith)) (λ l. (refl, refl, refl))

module _ (w list : List ℕ) (tick i : ℕ) where
  -- an arrival
  arrive_stays : Stays w list (arrive_in w list tick i)
  unfolding arrive_in
  arrive_stays = by_number w list (arrive_number_in w tick i) (still_in Ok (arrived_in w tick i) list) refl

  -- a commit
  commit_stays : Stays w list (commit_in w list tick i)
  unfolding commit_in
  commit_stays = by_number w list (commit_number_in w tick i) (scanning_in Ok (committed_in w tick i) list) refl

  -- a finish
  finish_stays : Stays w list (finish_in w list tick i)
  unfolding finish_in
  finish_stays = by_number w list (finish_number_in w tick i) (scanning_in Ok (finished_in w tick i) list) refl

  module _ (reads writes : List ℕ) where
    -- one that runs and one that waits are accepted
    accepted_zero : number (release_accepted_in w list tick i reads writes).said ≡ 0
    unfolding release_accepted_in wait_said_in
    accepted_zero = either (λ (x : Outcome). number x.said ≡ 0) (blocked_in (released_in w tick i reads writes) i) refl refl

    -- a release
    release_stays : Stays w list (release_in w list tick i reads writes)
    unfolding release_in
    release_stays = by_number w list (release_number_in w tick i) (release_accepted_in w list tick i reads writes) accepted_zero

-- any event
pub refused_stays : RefusedStays
refused_stays w list e =
    event_cases (Stays w list) w list e (λ kind. arrive_stays w list e.tick e.task) (release_stays w list e.tick e.task e.reads e.writes)
    (commit_stays w list e.tick e.task) (finish_stays w list e.tick e.task)
