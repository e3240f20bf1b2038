-- What holds of both sides of a test holds of what the test chooses; what is asked after a test is asked where it holds; what holds of the four events holds of any.
use Prim.Native.Nat.{ℕ}
use mathlib.Core.Path.{◌≡◌, refl}
use mathlib.Core.List.{List}
use mathlib.Core.Bool.{Bool, true, false, cond, ◌&&◌}
use Rattle.rules.specs.declared.Kind.TheVariants.{Arrive, Release, Commit, Finish}
use Rattle.rules.specs.declared.Event.{Event}
use Rattle.machine.specs.Events.{Outcome, arrive_in, release_in, commit_in, finish_in, step_in}

-- one choice
pub either : {A : Type 0} (P : A → Type 0) (b : Bool) {x y : A} → P x → P y → P (cond b x y)
either P true p q = p
either P false p q = q

-- two choices by tests that agree
pub both : {A B : Type 0} (P : A → B → Type 0) {a b : Bool} {x x' : A} {y y' : B} → a ≡ b → (b ≡ true → P x y) → (b ≡ false → P x' y')
    → P (cond a x x') (cond b y y')
both P {b = true} same first second = rw same (first refl)
both P {b = false} same first second = rw same (second refl)

-- two questions after one test, which agree where it holds
pub asked_where : (b p q : Bool) → (b ≡ true → p ≡ q) → (b && p) ≡ (b && q)
asked_where true p q same = same refl
asked_where false p q same = refl

-- an event is one of four; of the first it is known that it is that
pub event_cases : (P : Outcome → Type 0) (w list : List ℕ) (e : Event) → (e.kind ≡ Arrive → P (arrive_in w list e.tick e.task))
    → P (release_in w list e.tick e.task e.reads e.writes) → P (commit_in w list e.tick e.task) → P (finish_in w list e.tick e.task)
    → P (step_in w list e)
unfolding step_in
event_cases P w list e arrives releases commits finishes =
    (elim e.kind as (λ k. e.kind ≡ k → P (elim k [
      | Arrive ↦ arrive_in w list e.tick e.task
      | Release ↦ release_in w list e.tick e.task e.reads e.writes
      | Commit ↦ commit_in w list e.tick e.task
      | Finish ↦ finish_in w list e.tick e.task
    ])) [
      | Arrive ↦ arrives
      | Release ↦ λ kind. releases
      | Commit ↦ λ kind. commits
      | Finish ↦ λ kind. finishes
    ]) refl
