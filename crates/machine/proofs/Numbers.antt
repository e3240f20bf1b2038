-- The number that refuses an event, asked of words that hold a session, is the rules' number.
use Prim.Native.Nat.{ℕ, ◌+◌, ◌-◌, ◌<◌}
use mathlib.Core.Path.{◌≡◌, refl, ap, ap₂, ◌∙◌}
use mathlib.Core.List.{List}
use mathlib.Core.Bool.{Bool, true, false, cond, ◌&&◌}
use native.Mathlib.Omega.{arith}
use lib.Dec.{eqb, leb, ltb}
use borrow.Author.Tests.{ne_eqb, ltb-true}
use Rattle.objects.specs.Objects.{bit}
use Rattle.objects.proofs.Laws.Below.{and_right}
use Rattle.std.specs.Prelude.{Option, None, Some}
use Rattle.rules.specs.declared.Session.{Session}
use Rattle.rules.specs.Ranking.{Ranking}
use Rattle.rules.specs.Tasks.{is_plain, task_at, state_at, plain, allowed, known}
use Rattle.rules.specs.Room.{room}
use Rattle.rules.specs.Events.{trying, early, arrive_number, release_number, commit_number, finish_number}
use Rattle.machine.specs.Places.{tick_of, accepted_of, plain_of, transactions_at, releases_at}
use Rattle.machine.specs.Asked.{known_in, left_in, room_in}
use Rattle.machine.specs.Events.{trying_in, early_in, arrive_number_in, finish_number_in, release_number_in, commit_number_in}
use Rattle.machine.specs.Opened.{arrival_code}
use Rattle.machine.specs.Holds.{Tabled}
use Rattle.machine.proofs.Laws.Choices.{both}
use Rattle.machine.proofs.Laws.Agree.{present, plain_bit, executing_bit, absent_agrees, left_agrees, room_agrees}

-- an arrival is early by its code where it is early
early_coded : (a : Option ℕ) (period tick : ℕ) → early_in (arrival_code a) period tick ≡ early a period tick
early_coded None period tick = refl
early_coded (Some last) period tick =
    let less : last + 1 - 1 ≡ last = omega arith in
    rw (ne_eqb (last + 1) 0 (omega arith), less)

-- the number of a release or a finish, by what is tried in its order
abbrev ordered : Bool → Bool → Bool → Bool → Bool → ℕ → ℕ
ordered a b c p r x = cond a (cond b 2 (cond c 3 (cond p (cond r x 6) 4))) 1

-- what is tried after all of it is tried last in it
tried_last : (a b c p r : Bool) (x : ℕ) → cond (eqb (ordered a b c p r 0) 0) x (ordered a b c p r 0) ≡ ordered a b c p r x
tried_last false b c p r x = refl
tried_last true true c p r x = refl
tried_last true false true p r x = refl
tried_last true false false false r x = refl
tried_last true false false true false x = refl
tried_last true false false true true x = refl

module _ (rank : Ranking) (w : List ℕ) (s : Session) (table : Tabled rank w s) (tick i : ℕ) where
  -- the first three numbers, and the rest, which is asked of a task below n alone
  trying_agrees : (rest rest' : ℕ) → (i < s.n → rest ≡ rest') → trying_in w tick i rest ≡ trying s tick i rest'
  trying_agrees rest rest' same = rw (table.m, table.n, table.tick, table.accepted) (go (known s i) refl)
    where
      go : (b : Bool) → known s i ≡ b
          → cond b (cond (ltb tick s.tick) 2 (cond (leb 1000000 s.accepted) 3 rest)) 1
          ≡ cond b (cond (ltb tick s.tick) 2 (cond (leb 1000000 s.accepted) 3 rest')) 1
      go true e =
          ap (λ (x : ℕ). cond (ltb tick s.tick) 2 (cond (leb 1000000 s.accepted) 3 x))
          (same (ltb-true i s.n (and_right (allowed 16 s.m && allowed 64 s.n) (ltb i s.n) e)))
      go false e = refl

  -- of an arrival
  pub arrive_number_lem : arrive_number_in w tick i ≡ arrive_number s tick i
  unfolding arrive_number_in arrive_number
  arrive_number_lem =
      trying_agrees _ _
      (λ l.
      ap₂ (λ (a b : Bool). cond a (cond b 5 0) 4) (absent_agrees rank w s table i l)
      (ap₂ (λ (a b : ℕ). early_in a b tick) (table.numbers i l).arrival (table.numbers i l).period
      ∙ early_coded (task_at s i).arrival (task_at s i).terms.period tick))

  -- of a commit
  pub commit_number_lem : commit_number_in w tick i ≡ commit_number s tick i
  unfolding commit_number_in commit_number
  commit_number_lem = trying_agrees _ _ (λ l. ap (λ (b : Bool). cond b 0 4) (executing_bit rank w s table i l))

  -- with what is tried after room
  rest_agrees : i < s.n → (x : ℕ)
      → cond (bit (plain_of w) i) (cond (room_in w (left_in w) i) x 6) 4 ≡ cond (plain s i) (cond (room rank s i) x 6) 4
  rest_agrees l x =
      both (λ (a b : ℕ). a ≡ b) (plain_bit rank w s table i l)
      (λ e.
      ap (λ (b : Bool). cond b x 6)
      (room_agrees rank w s table (left_in w) i (left_agrees rank w s table) l (present is_plain refl (state_at s i) e)))
      (λ e. refl)

  -- of a finish
  pub finish_number_lem : finish_number_in w tick i ≡ finish_number rank s tick i
  unfolding finish_number_in finish_number
  finish_number_lem = trying_agrees _ _ (λ l. rest_agrees l 0)

  -- of a release
  pub release_number_lem : release_number_in w tick i ≡ release_number rank s tick i
  unfolding release_number_in release_number
  release_number_lem =
      tried_last (known_in w i) (ltb tick (tick_of w)) (leb 1000000 (accepted_of w)) (bit (plain_of w) i) (room_in w (left_in w) i) used
      ∙ trying_agrees _ _
      (λ l.
      rest_agrees l used
      ∙ ap (λ (x : ℕ). cond (plain s i) (cond (room rank s i) x 6) 4)
      (ap₂ (λ (a b : ℕ). cond (ltb a b) 0 7) (table.numbers i l).releases (table.numbers i l).transactions))
    where
      -- '7: release when the job has used its transactions'
      used : ℕ
      used = cond (ltb (releases_at w i) (transactions_at w i)) 0 7
