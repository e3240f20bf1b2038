-- `seek::contest::contested_of` meets its contract. The loop's invariant: the words have the objects of the group on which task i clashes with an executing task that the walk
-- has passed, and those tasks. Assumes nothing.
use Prim.Native.Nat.{ℕ, ◌%◌, ◌<◌}
use mathlib.Core.Path.{◌≡◌, refl, ap, ◌∙◌}
use mathlib.Core.List.{List}
use mathlib.Core.Bool.{◌||◌}
use native.Mathlib.Omega.{arith}
use lib.Bits.{bit_or}
use Rattle.objects.specs.Objects.{bit}
use Rattle.objects.proofs.Laws.Bits.{bit_or_lem}
use Rattle.machine.specs.Places.{executing_of}
use Rattle.seek.specs.declared.clash.Group.{Group}
use Rattle.seek.specs.Groups.{group_in, word_in}
use Rattle.seek.specs.Tasks.{tasks_in}
use Rattle.seek.proofs.Laws.Gathered.{gathered_none, gathered_more, gathered_all}
use Rattle.seek.proofs.contest.contested_of.Invariants.{object_of, objects_all, task_of, tasks_all, own_none, nobody, tasks_with, tasks_without}
use Rattle.seek.proofs.contest.contested_of.Goals as goal

pub returns-then-words-at-eq0-2 : goal.returns-then-words-at-eq0-2
returns-then-words-at-eq0-2 c =
    let a = c.args in record {
      objects = own_none a.words.now a.i a.g c.if-words-at-eq0.true c.if-words-at-eq0-2.true;
      tasks = nobody a.words.now a.i a.g c.if-words-at-eq0.true c.if-words-at-eq0-2.true;
    }

pub loop-other-init : goal.loop-other-init
loop-other-init c =
    let a = c.args in
    let all = tasks_in (executing_of a.words.now) in
    let e : tasks_in c.into_iter-other-iterator.result.0 ≡ all = cc in
    (gathered_none (object_of a.words.now a.i a.g) all _ e, gathered_none (task_of a.words.now a.i a.g) all _ e)

-- the objects of the turn's task are put with the others
objects_more : (w : List ℕ) (i g other objects more : ℕ) (x : Group) → x ≡ group_in w i (other % 64) g → more ≡ word_in x → (b : ℕ) → b < 64
    → bit (bit_or objects more) b ≡ (bit objects b || object_of w i g b other)
objects_more w i g other objects more x found is b l = bit_or_lem objects more b ∙ ap (λ (y : ℕ). bit objects b || bit y b) (is ∙ ap word_in found)

pub loop-other-preserved-then-more-ne0 : goal.loop-other-preserved-then-more-ne0
loop-other-preserved-then-more-ne0 c =
    let a = c.args in
    let w = a.words.now in
    let loop = c.loop-other in
    let other = c.in-Some.other in
    let more = c.contested-more in
    let x = c.group_of in
    let turn = c.in-Some.ensures.steps in (
      gathered_more (object_of w a.i a.g) _ loop.objects _ other _ _ turn (objects_more w a.i a.g other loop.objects more.result x.result x.ensures more.ensures) loop.invariant.0,
      gathered_more (task_of w a.i a.g) _ loop.tasks _ other _ _ turn
          (tasks_with w a.i a.g (other % 64) loop.tasks c.with_bit-tasks.result more.result x.result x.ensures more.ensures c.if-more-ne0.true c.with_bit-tasks.ensures) loop.invariant.1,
    )

pub loop-other-preserved : goal.loop-other-preserved
loop-other-preserved c =
    let a = c.args in
    let w = a.words.now in
    let loop = c.loop-other in
    let other = c.in-Some.other in
    let more = c.contested-more in
    let x = c.group_of in
    let turn = c.in-Some.ensures.steps in (
      gathered_more (object_of w a.i a.g) _ loop.objects _ other _ _ turn (objects_more w a.i a.g other loop.objects more.result x.result x.ensures more.ensures) loop.invariant.0,
      gathered_more (task_of w a.i a.g) _ loop.tasks _ other _ _ turn
          (tasks_without w a.i a.g (other % 64) loop.tasks loop.tasks more.result x.result x.ensures more.ensures c.if-more-ne0.false refl) loop.invariant.1,
    )

pub returns : goal.returns
returns c =
    let a = c.args in
    let w = a.words.now in
    let loop = c.loop-other in
    let none = c.in-None.ensures.steps.0 in record {
      objects = objects_all w a.i a.g loop.objects (omega arith) (gathered_all (object_of w a.i a.g) _ loop.objects _ none loop.invariant.0);
      tasks = tasks_all w a.i a.g loop.tasks (gathered_all (task_of w a.i a.g) _ loop.tasks _ none loop.invariant.1);
    }
