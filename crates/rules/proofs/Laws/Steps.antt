-- An event's answer by cases: it is refused and the session stands, or its number is 0 and the answer is the accepted one. Whatever holds in each case
-- holds of the answer.
use Prim.Native.Nat.{ℕ, ◌+◌}
use mathlib.Core.Path.{◌≡◌, refl}
use mathlib.Core.Logic.{◌≢◌}
use mathlib.Core.List.{List}
use mathlib.Core.Bool.{Bool, true, false, cond}
use lib.Dec.{eqb}
use borrow.Author.Tests.{eqb-true, eqb-false}
use Rattle.rules.specs.declared.State.TheVariants.{Executing}
use Rattle.rules.specs.declared.Session.{Session}
use Rattle.rules.specs.declared.Kind.TheVariants.{Arrive, Release, Commit, Finish}
use Rattle.rules.specs.declared.Event.{Event}
use Rattle.rules.specs.declared.Said.{Said}
use Rattle.rules.specs.declared.Said.TheVariants.{Ok, Run}
use Rattle.rules.specs.declared.Answer.{Answer}
use Rattle.rules.specs.Answers.{number}
use Rattle.rules.specs.Ranking.{Ranking}
use Rattle.rules.specs.Tasks.{task_at, sets_of, with_task, stamped}
use Rattle.rules.specs.Contest.{blocked}
use Rattle.rules.specs.Events.{arrive_number, release_number, commit_number, finish_number, refused, still, scanning, arrived, arrive, released_into, begins, wait_said, release, committed, commit, finished, finish, step}

-- an answer that is accepted where its number is 0
by_number : (k : ℕ) (s : Session) (accepts : Answer) (P : Answer → Type 0) → (k ≡ 0 → P accepts) → (k ≢ 0 → P (refused s k))
    → P (cond (eqb k 0) accepts (refused s k))
by_number k s accepts P accept refuse = go (eqb k 0) refl
  where
    go : (b : Bool) → eqb k 0 ≡ b → P (cond b accepts (refused s k))
    go true e = accept (eqb-true k 0 e)
    go false e = refuse (eqb-false k 0 e)

module _ (P : Answer → Type 0) (s : Session) (refuses : (k : ℕ) → k ≢ 0 → P (refused s k)) (tick i : ℕ) where
  pub arrive_cases : (arrive_number s tick i ≡ 0 → P (still Ok (with_task (stamped s tick) i (arrived s.mode (task_at s i) tick)))) → P (arrive s tick i)
  unfolding arrive
  arrive_cases accepts =
      by_number (arrive_number s tick i) s (still Ok (with_task (stamped s tick) i (arrived s.mode (task_at s i) tick))) P accepts
      (refuses (arrive_number s tick i))

  module _ (rank : Ranking) where
    pub commit_cases : (commit_number s tick i ≡ 0 → P (scanning rank Ok (committed rank s tick i))) → P (commit rank s tick i)
    unfolding commit
    commit_cases accepts =
        by_number (commit_number s tick i) s (scanning rank Ok (committed rank s tick i)) P accepts (refuses (commit_number s tick i))

    pub finish_cases : (finish_number rank s tick i ≡ 0 → P (scanning rank Ok (with_task (stamped s tick) i (finished (task_at s i)))))
        → P (finish rank s tick i)
    unfolding finish
    finish_cases accepts =
        by_number (finish_number rank s tick i) s (scanning rank Ok (with_task (stamped s tick) i (finished (task_at s i)))) P accepts
        (refuses (finish_number rank s tick i))

    module _ (reads writes : List ℕ) where
      abbrev waits : Answer
      waits =
          scanning rank (wait_said rank s (sets_of reads writes)) (released_into s tick i reads writes (begins tick))

      abbrev runs : Answer
      runs = still Run (released_into s tick i reads writes Executing)

      pub release_cases : (release_number rank s tick i ≡ 0 → blocked s (sets_of reads writes) ≡ true → P waits)
          → (release_number rank s tick i ≡ 0 → blocked s (sets_of reads writes) ≡ false → P runs) → P (release rank s tick i reads writes)
      unfolding release
      release_cases wait run =
          by_number (release_number rank s tick i) s (cond (blocked s (sets_of reads writes)) waits runs) P
          (λ z. go z (blocked s (sets_of reads writes)) refl) (refuses (release_number rank s tick i))
        where
          go : release_number rank s tick i ≡ 0 → (b : Bool) → blocked s (sets_of reads writes) ≡ b → P (cond b waits runs)
          go z true e = wait z e
          go z false e = run z e

-- any event, by its kind
pub step_cases : (rank : Ranking) (s : Session) (e : Event) (P : Answer → Type 0)
    → (e.kind ≡ Arrive → P (arrive s e.tick e.task))
    → (e.kind ≡ Release → P (release rank s e.tick e.task e.reads e.writes))
    → (e.kind ≡ Commit → P (commit rank s e.tick e.task))
    → (e.kind ≡ Finish → P (finish rank s e.tick e.task))
    → P (step rank s e)
unfolding step
step_cases rank s e P a r c f =
    (elim e.kind as (λ k. e.kind ≡ k → P (elim k [
      | Arrive ↦ arrive s e.tick e.task
      | Release ↦ release rank s e.tick e.task e.reads e.writes
      | Commit ↦ commit rank s e.tick e.task
      | Finish ↦ finish rank s e.tick e.task
    ])) [ Arrive ↦ a | Release ↦ r | Commit ↦ c | Finish ↦ f ]) refl

-- ---- the same by what is said

-- one more event accepted, at this tick
pub record Stamped (s : Session) (at : ℕ) (s' : Session) : Type 0 where
  pub m : s'.m ≡ s.m
  pub accepted : s'.accepted ≡ s.accepted + 1
  pub tick : s'.tick ≡ at

-- an event is refused, or accepted with no scan, or accepted and a scan follows
pub outcome : (rank : Ranking) (s : Session) (e : Event) (P : Answer → Type 0)
    → ((k : ℕ) → k ≢ 0 → P (refused s k))
    → ((said : Said) (s' : Session) → number said ≡ 0 → Stamped s e.tick s' → P (still said s'))
    → ((said : Said) (s' : Session) → number said ≡ 0 → Stamped s e.tick s' → P (scanning rank said s'))
    → P (step rank s e)
outcome rank s e P refuses stays scans =
    step_cases rank s e P
    (λ kind. arrive_cases P s refuses e.tick e.task (λ z. stays Ok _ refl (record { m = refl; accepted = refl; tick = refl })))
    (λ kind. release_cases P s refuses e.tick e.task rank e.reads e.writes
    (λ z b. scans (wait_said rank s (sets_of e.reads e.writes)) _ refl (record { m = refl; accepted = refl; tick = refl }))
    (λ z b. stays Run _ refl (record { m = refl; accepted = refl; tick = refl })))
    (λ kind. commit_cases P s refuses e.tick e.task rank (λ z. scans Ok (committed rank s e.tick e.task) refl (record { m = refl; accepted = refl; tick = refl })))
    (λ kind. finish_cases P s refuses e.tick e.task rank (λ z. scans Ok (with_task (stamped s e.tick) e.task (finished (task_at s e.task))) refl (record { m = refl; accepted = refl; tick = refl })))
