-- `laid::back::state_back` meets its contract: the words of the states are asked in the order of its tests. Assumes nothing.
use Rattle.std.proofs.Common.{◌≡◌, ◌<◌, ◌%◌, ℕ, List, Bool, cond, refl, sym, ◌∙◌}
use Rattle.objects.specs.Objects.{bit}
use Rattle.rules.specs.declared.State.TheVariants.{Absent, Plain, Waiting, Executing}
use Rattle.machine.specs.Places.{plain_of, waiting_of, executing_of}
use Rattle.machine.specs.Opened.{wait_back, state_back}
use Rattle.placing.proofs.Laws.Tasks.{own}
use Rattle.laid.proofs.back.state_back.Goals as goal

-- the state by what the three words answer, where the question is asked for the task's own number
state_is : (w : List ℕ) (i : ℕ) (plain waits executes : Bool) → i < 64 → plain ≡ bit (plain_of w) (i % 64) → waits ≡ bit (waiting_of w) (i % 64)
    → executes ≡ bit (executing_of w) (i % 64) → state_back w i ≡ cond plain Plain (cond waits (Waiting (wait_back w i)) (cond executes Executing Absent))
unfolding state_back
state_is w i plain waits executes l p q r =
    rw (own Bool (bit (plain_of w)) i plain l p, own Bool (bit (waiting_of w)) i waits l q, own Bool (bit (executing_of w)) i executes l r)

pub returns-then-has_bit : goal.returns-then-has_bit
returns-then-has_bit c = sym (state_is c.args.words.now c.args.i _ _ _ c.requires c.has_bit.ensures refl refl ∙ rw c.if-has_bit.true)

pub returns-then-has_bit-2 : goal.returns-then-has_bit-2
returns-then-has_bit-2 c =
    sym (state_is c.args.words.now c.args.i _ _ _ c.requires c.has_bit.ensures c.has_bit-else-has_bit.ensures refl
    ∙ rw (c.if-has_bit.false, c.if-has_bit-2.true, c.low_32.ensures, c.low_32-then-has_bit-2.ensures, c.low_32-then-has_bit-2-2.ensures))

pub returns-then-has_bit-3 : goal.returns-then-has_bit-3
returns-then-has_bit-3 c =
    sym (state_is c.args.words.now c.args.i _ _ _ c.requires c.has_bit.ensures c.has_bit-else-has_bit.ensures c.has_bit-else-has_bit-2.ensures
    ∙ rw (c.if-has_bit.false, c.if-has_bit-2.false, c.if-has_bit-3.true))

pub returns-else-has_bit-3 : goal.returns-else-has_bit-3
returns-else-has_bit-3 c =
    sym (state_is c.args.words.now c.args.i _ _ _ c.requires c.has_bit.ensures c.has_bit-else-has_bit.ensures c.has_bit-else-has_bit-2.ensures
    ∙ rw (c.if-has_bit.false, c.if-has_bit-2.false, c.if-has_bit-3.false))
