-- Where there is no such task: number 1 before all others, and sum 0. What stands in the place of a session has no task at all; one task alone has no other.
use Prim.Native.Nat.{ℕ, ◌≤◌, ◌<◌, zero-le}
use Rattle.std.specs.Prelude.{Ok, Err}
use mathlib.Core.Path.{◌≡◌, refl, ap, ◌∙◌}
use mathlib.Core.Logic.{◌⊎◌, inl, inr}
use mathlib.Core.List.{List}
use mathlib.Core.Bool.{Bool, true, false, cond, ◌&&◌, and-false}
use native.Mathlib.Nat.{le_of_eq, le_trans}
use native.Mathlib.Omega.{arith}
use lib.Dec.{eqb}
use borrow.Author.Tests.{le-ltb, eq-eqb}
use Rattle.objects.proofs.Laws.Below.{below_or_from, sum_zero}
use Rattle.rules.specs.declared.Task.{Task}
use Rattle.rules.specs.declared.Session.{Session}
use Rattle.rules.specs.declared.Said.TheVariants as said
use Rattle.rules.specs.declared.Answer.{Answer}
use Rattle.rules.specs.declared.Started.{Started}
use Rattle.rules.specs.declared.Refusal.TheVariants.{UnknownTask}
use Rattle.rules.specs.Answers.{number}
use Rattle.rules.specs.Ranking.{Ranking}
use Rattle.rules.specs.Tasks.{allowed, known, no_task, task_at}
use Rattle.rules.specs.Setup.{setup_number, fresh, no_session, start, NoSession, NoSessionPlain, RefusedStart}
use Rattle.rules.specs.Events.{trying, arrive_number, release_number, commit_number, finish_number, refused, arrive, release, commit, finish}
use Rattle.rules.specs.Sum.{share, bound, summed, sum_of, BadTaskSum, AloneSum}
use Rattle.rules.specs.Reachable.{RefusedBy1, BadTask, NoSessionAnswers}
use Rattle.rules.proofs.Laws.Rows.{filled_with}
use Rattle.rules.proofs.Laws.Steps.{step_cases}

unknown : (s : Session) (i : ℕ) → s.n ≤ i → known s i ≡ false
unknown s i l = ap (λ (b : Bool). allowed 16 s.m && allowed 64 s.n && b) (le-ltb i s.n l) ∙ and-false (allowed 16 s.m && allowed 64 s.n)

-- ---- events

module _ (s : Session) (tick i : ℕ) (l : s.n ≤ i) where
  first : (rest : ℕ) → trying s tick i rest ≡ 1
  first rest = rw (unknown s i l)

  by_1 : (k : ℕ) (accepts : Answer) → k ≡ 1 → RefusedBy1 s (cond (eqb k 0) accepts (refused s k))
  by_1 k accepts e = rw e (refl, refl, refl)

  arrive_1 : RefusedBy1 s (arrive s tick i)
  unfolding arrive arrive_number
  arrive_1 = by_1 (arrive_number s tick i) _ (first _)

  module _ (rank : Ranking) where
    release_1 : (reads writes : List ℕ) → RefusedBy1 s (release rank s tick i reads writes)
    unfolding release release_number
    release_1 reads writes = by_1 (release_number rank s tick i) _ (first _)

    commit_1 : RefusedBy1 s (commit rank s tick i)
    unfolding commit commit_number
    commit_1 = by_1 (commit_number s tick i) _ (first _)

    finish_1 : RefusedBy1 s (finish rank s tick i)
    unfolding finish finish_number
    finish_1 = by_1 (finish_number rank s tick i) _ (first _)

pub bad_task : BadTask
bad_task rank s e l =
    step_cases rank s e (RefusedBy1 s) (λ kind. arrive_1 s e.tick e.task l)
    (λ kind. release_1 s e.tick e.task l rank e.reads e.writes) (λ kind. commit_1 s e.tick e.task l rank)
    (λ kind. finish_1 s e.tick e.task l rank)

-- ---- sums

pub bad_task_sum : BadTaskSum
unfolding summed
bad_task_sum s i length l = rw (unknown s i l) (refl, refl, refl)

-- one task alone has no other
alone_bound : (s : Session) (i length : ℕ) → s.n ≡ 1 → i < s.n → bound s i length ≡ 0
unfolding bound
alone_bound s i length one l =
    sum_zero s.n (λ j. cond (eqb j i) 0 (share length (task_at s j).terms))
    (λ j lj. ap (λ (b : Bool). cond b 0 (share length (task_at s j).terms)) (eq-eqb j i (omega arith)))

pub alone_sum : AloneSum
unfolding summed
alone_sum s i length one = go (below_or_from i s.n)
  where
    either : bound s i length ≡ 0 → (b : Bool) → sum_of (cond b (Ok (bound s i length)) (Err UnknownTask)) ≡ 0
    either z true = z
    either z false = refl

    go : (i < s.n) ⊎ (s.n ≤ i) → sum_of (summed s i length) ≡ 0
    go (inl l) = either (alone_bound s i length one l) (known s i)
    go (inr l) = (bad_task_sum s i length l).2

-- ---- what a refused setup gives

pub no_session_plain : NoSessionPlain
unfolding no_session
no_session_plain = record { m = refl; n = refl; absent = λ i. ap (λ (t : Task). t.state) (filled_with 64 i no_task) }

pub refused_start : RefusedStart
unfolding start
refused_start u given = go (eqb (setup_number u) 0) given
  where
    answer : Bool → Started
    answer b = cond b (record { said = said.Ok; session = fresh u }) (record { said = said.No (setup_number u); session = no_session })

    go : (b : Bool) → 1 ≤ number (answer b).said → NoSession (answer b).session
    go true l = absurd (omega arith)
    go false l = no_session_plain

pub no_session_answers : NoSessionAnswers
no_session_answers u given =
    let s = (start u).session in
    let nobody : (i : ℕ) → s.n ≤ i = λ i. le_trans (le_of_eq (refused_start u given).n) zero-le in
    (λ rank e. bad_task rank s e (nobody e.task), λ i length. bad_task_sum s i length (nobody i))
