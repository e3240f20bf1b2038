-- What an event changes, with its definition one step open; that no event changes m; and what an event comes to by its number: the refusal where one is given, and else
-- the accepted event.
use Prim.Native.Nat.{ℕ, ◌+◌}
use mathlib.Core.Path.{◌≡◌, refl, ap, ◌∙◌}
use mathlib.Core.Logic.{inl}
use mathlib.Core.List.{List, []}
use mathlib.Core.Bool.{Bool, true, false, cond}
use native.Mathlib.Omega.{arith}
use lib.Dec.{eqb}
use lib.ListN.{set}
use Rattle.rules.specs.declared.Kind.{Kind}
use Rattle.rules.specs.declared.Kind.TheVariants.{Arrive, Release, Commit, Finish}
use Rattle.rules.specs.declared.Event.{Event}
use Rattle.rules.specs.declared.Said.TheVariants.{Ok, Run}
use Rattle.rules.specs.Events.{empty}
use Rattle.machine.specs.Bits.{with_bit, without_bit}
use Rattle.machine.specs.Places.{m_of, plain_of, waiting_of, executing_of, row_held, rank_place, number_place, releases_at, sets_put}
use Rattle.machine.specs.Asked.{blocked_in, wait_said_in}
use Rattle.machine.specs.Row.{row_put}
use Rattle.machine.specs.Events.{arrive_number_in, finish_number_in, release_number_in, commit_number_in, Outcome, refused_in, still_in, scanning_in, stamped_in, arrived_in, arrive_in, begun_in, released_in, runs_in, waits_in, release_accepted_in, release_in, raised_in, busy_in, committed_in, commit_in, finished_in, finish_in, step_in}
use Rattle.machine.proofs.Laws.Places.{kept, sets_before}
use Rattle.machine.proofs.Laws.RowPut.{row_put_kept}
use Rattle.machine.proofs.Laws.Raised.{raised_aside, aside_low}
use Rattle.placing.proofs.Laws.Tasks.{task_mod}
use Rattle.manager.proofs.Laws.Places.{beside_two}
use Rattle.rules.proofs.Laws.Refusals.{refusal_not_0}
use Rattle.manager.proofs.Laws.Numbers.{arrive_passed, release_passed, commit_passed, finish_passed}

-- ---- what an event changes

pub released_is : (w : List ℕ) (tick i : ℕ) (reads writes : List ℕ)
    → released_in w tick i reads writes
    ≡ sets_put (set (set (stamped_in w tick) 4 (without_bit (plain_of w) i)) (number_place i 4) (releases_at w i + 1)) i reads writes
unfolding released_in
released_is w tick i reads writes = refl

pub waits_is : (w : List ℕ) (tick i : ℕ)
    → waits_in w tick i
    ≡ row_put (set (set (set (set w 5 (with_bit (waiting_of w) i)) (number_place i 5) tick) (number_place i 6) 0) (number_place i 7) 0) i
unfolding waits_in
waits_is w tick i = refl

-- the words in which the counts are raised, stamped
abbrev pub raised_stamped : List ℕ → ℕ → ℕ → List ℕ
raised_stamped w tick i = stamped_in (raised_in w i (busy_in w) (row_held w)) tick

pub committed_is : (w : List ℕ) (tick i : ℕ)
    → let v = raised_stamped w tick i in
    committed_in w tick i ≡ sets_put (set (set v 4 (with_bit (plain_of v) i)) 6 (without_bit (executing_of v) i)) i empty empty
unfolding committed_in
committed_is w tick i = refl

-- ---- m stays

stamped_m : (w : List ℕ) (tick : ℕ) → m_of (stamped_in w tick) ≡ m_of w
stamped_m w tick = beside_two w 2 3 0 tick _ (omega arith) (omega arith)

pub finished_m : (w : List ℕ) (tick i : ℕ) → m_of (finished_in w tick i) ≡ m_of w
finished_m w tick i =
    let v = set (stamped_in w tick) 4 (without_bit (plain_of w) i) in
    beside_two v (number_place i 4) (rank_place i) 0 0 0 (omega arith) (omega arith) ∙ kept (stamped_in w tick) 4 0 _ (omega arith) ∙ stamped_m w tick

pub committed_m : (w : List ℕ) (tick i : ℕ) → m_of (committed_in w tick i) ≡ m_of w
committed_m w tick i =
    let v = raised_stamped w tick i in
    ap m_of (committed_is w tick i)
    ∙ sets_before (set (set v 4 (with_bit (plain_of v) i)) 6 (without_bit (executing_of v) i)) i empty empty 0 (omega arith)
    ∙ beside_two v 4 6 0 _ _ (omega arith) (omega arith)
    ∙ stamped_m (raised_in w i (busy_in w) (row_held w)) tick
    ∙ raised_aside w i (busy_in w) (row_held w) 0 (aside_low 0 (omega arith))

pub begun_m : (w : List ℕ) (tick i : ℕ) → m_of (begun_in w tick i) ≡ m_of w
begun_m w tick i = beside_two (stamped_in w tick) 4 (number_place i 4) 0 _ _ (omega arith) (omega arith) ∙ stamped_m w tick

pub sets_m : (w : List ℕ) (i : ℕ) (reads writes : List ℕ) → m_of (sets_put w i reads writes) ≡ m_of w
sets_m w i reads writes = sets_before w i reads writes 0 (omega arith)

pub waits_m : (w : List ℕ) (tick i : ℕ) → m_of (waits_in w tick i) ≡ m_of w
waits_m w tick i =
    let u = set (set w 5 (with_bit (waiting_of w) i)) (number_place i 5) tick in
    ap m_of (waits_is w tick i)
    ∙ row_put_kept (set (set u (number_place i 6) 0) (number_place i 7) 0) i 0 (inl (omega arith))
    ∙ beside_two u (number_place i 6) (number_place i 7) 0 0 0 (omega arith) (omega arith)
    ∙ beside_two w 5 (number_place i 5) 0 _ tick (omega arith) (omega arith)

-- ---- what an event comes to, by its number

-- what is accepted where the number is 0, and else refused
abbrev pub answering : ℕ → List ℕ → List ℕ → Outcome → Outcome
answering number w list accepts = cond (eqb number 0) accepts (refused_in w list number)

module _ (w list : List ℕ) (tick i : ℕ) where
  pub arrive_is : arrive_in w list tick i ≡ answering (arrive_number_in w tick i) w list (still_in Ok (arrived_in w tick i) list)
  unfolding arrive_in
  arrive_is = refl

  pub commit_is : commit_in w list tick i ≡ answering (commit_number_in w tick i) w list (scanning_in Ok (committed_in w tick i) list)
  unfolding commit_in
  commit_is = refl

  pub finish_is : finish_in w list tick i ≡ answering (finish_number_in w tick i) w list (scanning_in Ok (finished_in w tick i) list)
  unfolding finish_in
  finish_is = refl

  module _ (reads writes : List ℕ) where
    pub release_is : release_in w list tick i reads writes ≡ answering (release_number_in w tick i) w list (release_accepted_in w list tick i reads writes)
    unfolding release_in
    release_is = refl

    pub accepted_is : let v = released_in w tick i reads writes in
        release_accepted_in w list tick i reads writes
        ≡ cond (blocked_in v i) (scanning_in (wait_said_in v i) (waits_in v tick i) list) (still_in Run (runs_in v i) list)
    unfolding release_accepted_in
    accepted_is = refl

-- ---- an event by its kind

-- what an event of each kind comes to
abbrev pub outcome_of : List ℕ → List ℕ → Event → Kind → Outcome
outcome_of w list e Arrive = arrive_in w list e.tick e.task
outcome_of w list e Release = release_in w list e.tick e.task e.reads e.writes
outcome_of w list e Commit = commit_in w list e.tick e.task
outcome_of w list e Finish = finish_in w list e.tick e.task

pub step_is : (w list : List ℕ) (e : Event) → step_in w list e ≡ outcome_of w list e e.kind
unfolding step_in
step_is w list e = refl

-- an arrival lists nothing: the list is no part of what is said and left
pub arrive_lists : (w list : List ℕ) (tick i : ℕ)
    → arrive_in w list tick i ≡ (record { words = (arrive_in w [] tick i).words; list = list; said = (arrive_in w [] tick i).said; admitted = 0 })
arrive_lists w list tick i =
    arrive_is w list tick i ∙ rw (arrive_is w [] tick i) (go (arrive_number_in w tick i) (eqb (arrive_number_in w tick i) 0))
  where
    go : (number : ℕ) (b : Bool)
        → let accepts = still_in Ok (arrived_in w tick i) [] in
        cond b (still_in Ok (arrived_in w tick i) list) (refused_in w list number)
        ≡ (record {
          words = (cond b accepts (refused_in w [] number)).words;
          list = list;
          said = (cond b accepts (refused_in w [] number)).said;
          admitted = 0;
        })
    go number true = refl
    go number false = refl

-- ---- what each event's proof rests on

pub ruleset arriving = (arrive_is, refusal_not_0, arrive_passed)

pub ruleset releasing = (release_is, accepted_is, released_is, refusal_not_0, release_passed, task_mod)

pub ruleset committing = (commit_is, refusal_not_0, commit_passed, committed_m)

pub ruleset finishing = (finish_is, refusal_not_0, finish_passed, finished_m)

pub ruleset stepping = (step_is, arrive_lists)
