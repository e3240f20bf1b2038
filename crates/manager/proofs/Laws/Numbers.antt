-- The numbers that every event tries first, what is known where none of them is given, and what an event comes to by its number.
use Prim.Native.Nat.{ℕ, zero, suc, ◌%◌, ◌≤◌, ◌<◌}
use mathlib.Core.Path.{◌≡◌, refl, sym, ◌∙◌}
use mathlib.Core.List.{List}
use mathlib.Core.Bool.{Bool, true, false, cond, not, ◌&&◌, ◌||◌}
use native.Mathlib.Omega.{arith}
use lib.Dec.{eqb, leb, ltb}
use lib.Bits.{bit_or}
use borrow.Author.Tests.{ltb-true, ltb-false, leb-false, ne_eqb}
use Rattle.objects.specs.Objects.{bit}
use Rattle.objects.proofs.Laws.Below.{and_left, and_right}
use Rattle.objects.proofs.Laws.Bits.{bit_or_lem}
use Rattle.rules.specs.declared.Refusal.{Refusal}
use Rattle.rules.proofs.Laws.Refusals.{refusal_not_0}
use Rattle.rules.specs.Refusals.{refusal_number}
use Rattle.rules.specs.Tasks.{allowed}
use Rattle.rules.proofs.Laws.Numbers.{must, must_not, allowed_bounds}
use Rattle.machine.specs.Places.{m_of, n_of, tick_of, accepted_of, plain_of, waiting_of, executing_of, period_at, transactions_at, arrival_at, releases_at}
use Rattle.machine.specs.Asked.{known_in, absent_in, left_in, room_in}
use Rattle.machine.specs.Events.{trying_in, early_in, arrive_number_in, finish_number_in, release_number_in, commit_number_in}
use Rattle.placing.proofs.Laws.Tasks.{task_mod}

-- ---- the first three

-- the number that an event is first tried for
abbrev pub first_in : List ℕ → ℕ → ℕ → ℕ
first_in w tick i = trying_in w tick i 0

-- the number of the rest counts where none of the first three is given
trying_first : (w : List ℕ) (tick i rest : ℕ) → trying_in w tick i rest ≡ cond (eqb (first_in w tick i) 0) rest (first_in w tick i)
trying_first w tick i rest = go (known_in w i) (ltb tick (tick_of w)) (leb 1000000 (accepted_of w))
  where
    go : (a b c : Bool)
        → cond a (cond b 2 (cond c 3 rest)) 1
        ≡ cond (eqb (cond a (cond b 2 (cond c 3 0)) 1) 0) rest (cond a (cond b 2 (cond c 3 0)) 1)
    go true true c = refl
    go true false true = refl
    go true false false = refl
    go false b c = refl

module _ (w : List ℕ) (tick i rest : ℕ) where
  -- one of the first three is given: it is the number
  trying_given : (refusal : Refusal) → refusal_number refusal ≡ first_in w tick i → refusal_number refusal ≡ trying_in w tick i rest
  trying_given refusal e = sym (trying_first w tick i rest ∙ rw (← e, ne_eqb (refusal_number refusal) 0 (refusal_not_0 refusal)))

  -- none of them is given: the rest is the number
  trying_rest : 0 ≡ first_in w tick i → trying_in w tick i rest ≡ rest
  trying_rest z = trying_first w tick i rest ∙ rw (← z)

-- ---- what is known where none of the first three is given

pub record Passed (w : List ℕ) (at i : ℕ) : Type 0 where
  pub m_low : 1 ≤ m_of w
  pub m_high : m_of w ≤ 16
  pub n_high : n_of w ≤ 64
  pub below : i < n_of w
  pub small : i < 64
  pub tick : tick_of w ≤ at
  pub accepted : accepted_of w < 1000000

module _ (w : List ℕ) (at i rest : ℕ) (e : trying_in w at i rest ≡ 0) where
  known_timely : (known_in w i ≡ true) × (cond (ltb at (tick_of w)) 2 (cond (leb 1000000 (accepted_of w)) 3 rest) ≡ 0)
  known_timely = must (known_in w i) (cond (ltb at (tick_of w)) 2 (cond (leb 1000000 (accepted_of w)) 3 rest)) 1 (omega arith) e

  timely : (ltb at (tick_of w) ≡ false) × (cond (leb 1000000 (accepted_of w)) 3 rest ≡ 0)
  timely = must_not (ltb at (tick_of w)) (cond (leb 1000000 (accepted_of w)) 3 rest) 2 (omega arith) known_timely.1

  few : (leb 1000000 (accepted_of w) ≡ false) × (rest ≡ 0)
  few = must_not (leb 1000000 (accepted_of w)) rest 3 (omega arith) timely.1

  pub passed : Passed w at i
  passed =
      let sizes = allowed 16 (m_of w) && allowed 64 (n_of w) in
      let both = and_left sizes (ltb i (n_of w)) known_timely.0 in
      let ms = allowed_bounds 16 (m_of w) (and_left (allowed 16 (m_of w)) (allowed 64 (n_of w)) both) in
      let ns = allowed_bounds 64 (n_of w) (and_right (allowed 16 (m_of w)) (allowed 64 (n_of w)) both) in
      let below : i < n_of w = ltb-true i (n_of w) (and_right sizes (ltb i (n_of w)) known_timely.0) in
      record {
        m_low = ms.0;
        m_high = ms.1;
        n_high = ns.1;
        below = below;
        small = omega (arith, ns.1);
        tick = ltb-false at (tick_of w) timely.0;
        accepted = leb-false 1000000 (accepted_of w) few.0;
      }

  -- and the rest gives none
  pub rest_none : rest ≡ 0
  rest_none = few.1

-- ---- the numbers that an event tries after the first three

abbrev pub arrive_rest : List ℕ → ℕ → ℕ → ℕ
arrive_rest w tick i = cond (absent_in w i) (cond (early_in (arrival_at w i) (period_at w i) tick) 5 0) 4

abbrev pub finish_rest : List ℕ → ℕ → ℕ
finish_rest w i = cond (bit (plain_of w) i) (cond (room_in w (left_in w) i) 0 6) 4

abbrev pub commit_rest : List ℕ → ℕ → ℕ
commit_rest w i = cond (bit (executing_of w) i) 0 4

-- the three words that together have the bit of each task that is not absent
abbrev pub present_of : List ℕ → ℕ
present_of w = bit_or (bit_or (plain_of w) (waiting_of w)) (executing_of w)

-- a task is absent where they lack its bit
by_absent : (w : List ℕ) (i x y : ℕ) → cond (absent_in w i) x y ≡ cond (bit (present_of w) i) y x
by_absent w i x y =
    rw (bit_or_lem (bit_or (plain_of w) (waiting_of w)) (executing_of w) i, bit_or_lem (plain_of w) (waiting_of w) i)
    (go (bit (plain_of w) i) (bit (waiting_of w) i) (bit (executing_of w) i))
  where
    go : (a b c : Bool) → cond (not (a || (b || c))) x y ≡ cond ((a || b) || c) y x
    go true b c = refl
    go false true c = refl
    go false false true = refl
    go false false false = refl

module _ (w : List ℕ) (tick i : ℕ) where
  -- one of the first three refuses an event of each kind
  pub arrive_given : (refusal : Refusal) → refusal_number refusal ≡ first_in w tick i → refusal_number refusal ≡ arrive_number_in w tick i
  unfolding arrive_number_in
  arrive_given refusal e = trying_given w tick i (arrive_rest w tick i) refusal e

  pub finish_given : (refusal : Refusal) → refusal_number refusal ≡ first_in w tick i → refusal_number refusal ≡ finish_number_in w tick i
  unfolding finish_number_in
  finish_given refusal e = trying_given w tick i (finish_rest w i) refusal e

  pub commit_given : (refusal : Refusal) → refusal_number refusal ≡ first_in w tick i → refusal_number refusal ≡ commit_number_in w tick i
  unfolding commit_number_in
  commit_given refusal e = trying_given w tick i (commit_rest w i) refusal e

  -- past them the number is what the others give
  module _ (z : 0 ≡ first_in w tick i) where
    small : i % 64 ≡ i
    small = task_mod i (passed w tick i 0 (sym z)).small

    pub arrive_number_is : arrive_number_in w tick i ≡ cond (bit (present_of w) (i % 64)) 4 (cond (early_in (arrival_at w i) (period_at w i) tick) 5 0)
    unfolding arrive_number_in
    arrive_number_is = trying_rest w tick i (arrive_rest w tick i) z ∙ by_absent w i _ 4 ∙ rw small

    pub finish_number_is : finish_number_in w tick i ≡ cond (bit (plain_of w) (i % 64)) (cond (room_in w (left_in w) (i % 64)) 0 6) 4
    unfolding finish_number_in
    finish_number_is = trying_rest w tick i (finish_rest w i) z ∙ rw small

    pub commit_number_is : commit_number_in w tick i ≡ cond (bit (executing_of w) (i % 64)) 0 4
    unfolding commit_number_in
    commit_number_is = trying_rest w tick i (commit_rest w i) z ∙ rw small

-- a release tries one number more than a finish
release_is : (w : List ℕ) (tick i : ℕ)
    → release_number_in w tick i
    ≡ cond (eqb (finish_number_in w tick i) 0) (cond (ltb (releases_at w i) (transactions_at w i)) 0 7) (finish_number_in w tick i)
unfolding release_number_in
release_is w tick i = refl

module _ (w : List ℕ) (tick i : ℕ) where
  pub release_given : (refusal : Refusal) → refusal_number refusal ≡ finish_number_in w tick i → refusal_number refusal ≡ release_number_in w tick i
  release_given refusal e = sym (release_is w tick i ∙ rw (← e, ne_eqb (refusal_number refusal) 0 (refusal_not_0 refusal)))

  pub release_number_is : 0 ≡ finish_number_in w tick i → release_number_in w tick i ≡ cond (ltb (releases_at w i) (transactions_at w i)) 0 7
  release_number_is z = release_is w tick i ∙ rw (← z)

-- ---- what is known where an event is not refused

module _ (w : List ℕ) (tick i : ℕ) where
  pub arrive_passed : arrive_number_in w tick i ≡ 0 → Passed w tick i
  unfolding arrive_number_in
  arrive_passed e = passed w tick i (arrive_rest w tick i) e

  pub finish_passed : finish_number_in w tick i ≡ 0 → Passed w tick i
  unfolding finish_number_in
  finish_passed e = passed w tick i (finish_rest w i) e

  pub commit_passed : commit_number_in w tick i ≡ 0 → Passed w tick i
  unfolding commit_number_in
  commit_passed e = passed w tick i (commit_rest w i) e

  -- the two parts of a release's number
  release_parts : release_number_in w tick i ≡ 0 → (finish_number_in w tick i ≡ 0) × (ltb (releases_at w i) (transactions_at w i) ≡ true)
  release_parts e = both (finish_number_in w tick i) (ltb (releases_at w i) (transactions_at w i)) (sym (release_is w tick i) ∙ e)
    where
      both : (first : ℕ) (b : Bool) → cond (eqb first 0) (cond b 0 7) first ≡ 0 → (first ≡ 0) × (b ≡ true)
      both zero true f = (refl, refl)
      both zero false f = absurd (omega arith)
      both (suc k) b f = absurd (omega (arith, rw (ne_eqb (suc k) 0 (omega arith)) at f))

  pub release_passed : release_number_in w tick i ≡ 0 → Passed w tick i
  release_passed e = finish_passed (release_parts e).0

  -- there is a transaction left
  pub release_left : release_number_in w tick i ≡ 0 → releases_at w i < transactions_at w i
  release_left e = ltb-true (releases_at w i) (transactions_at w i) (release_parts e).1
