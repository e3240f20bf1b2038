-- `seek::contest::wait_said` meets its contract. The loop's invariant: the groups passed have so many contested objects, the lowest of them is found where there is one, and
-- the tasks are those with which the transaction clashes in one of these groups.
use Prim.Native.Nat.{ℕ, ◌%◌, ◌≤◌}
use mathlib.Core.Path.{◌≡◌}
use mathlib.Core.List.{List}
use native.Mathlib.Nat.{le_refl, le_antisymm}
use native.Mathlib.Omega.{arith}
use Rattle.objects.specs.Objects.{bit, lowest_object}
use Rattle.objects.proofs.Laws.Sets.{lowest_lt}
use Rattle.machine.specs.Asked.{contested_groups}
use Rattle.objects.proofs.Laws.Below.{least_le}
use Rattle.machine.specs.Bits.{lowest}
use Rattle.seek.proofs.Laws.Highest.{foremost_le}
use Rattle.seek.proofs.Laws.Groups.{passed_none, passed_few, passed_first, passed_later, passed_empty, passed_lowest, passed_many, ones_few}
use Rattle.seek.proofs.contest.wait_said.Invariants.{groups_fit, told_none, told_more, whom_is, said_is}
use Rattle.seek.proofs.contest.wait_said.Goals.{After-foremost_of-whom, At-loop-g, then-contested-eq0+then-group-ne0, else-contested-eq0, else-contested-eq0-via-then-contested-eq0+else-group-ne0, else-contested-eq0-via-else-contested-eq0}
use Rattle.seek.proofs.contest.wait_said.Goals as goal

pub loop-g-init : goal.loop-g-init
loop-g-init c =
    let a = c.args in
    let w = a.words.now in
    let i = a.task % 64 in
    (passed_none (contested_groups w i) (groups_fit w i), told_none w i)

-- the lowest bit of a word, 64 where it has none
lowest_le : (x : ℕ) → lowest x ≤ 64
unfolding lowest
lowest_le x = least_le 64 (bit x)

pub overflow_add-object : goal.overflow_add-object
overflow_add-object c = omega (arith, c.lowest_of.ensures, lowest_le c.contested_of-group.result.objects)

pub overflow_add-contested : goal.overflow_add-contested
overflow_add-contested c = omega (arith, passed_few _ _ c.loop-g.invariant.0, ones_few c.contested_of-group.result.objects)

pub loop-g-preserved : goal.loop-g-preserved
loop-g-preserved c =
    let loop = c.loop-g in
    let w = c.args.words.now in
    let i = c.args.task % 64 in
    let group = c.contested_of-group in
    let set = contested_groups w i in
    let fit = groups_fit w i in
    let p = loop.invariant.0 in
    let word = group.result.objects in
    let new = c.if-contested-eq0.object in
    let count = c.ones_of-contested in
    let is = group.ensures.objects in
    let below = c.loop-g-test.true in (
      elim c.if-contested-eq0.branch [
        | then-contested-eq0+then-group-ne0 t ↦ passed_first set fit p below word new count.result is count.ensures t.if-contested-eq0.true t.if-group-ne0.true t.lowest_of.result t.lowest_of.ensures t.object-is
        | else-contested-eq0 t ↦ elim t.else-contested-eq0.branch [
          | else-contested-eq0-via-then-contested-eq0+else-group-ne0 u ↦ passed_empty set fit p below word new count.result is count.ensures u.if-group-ne0.false t.object-is
          | else-contested-eq0-via-else-contested-eq0 u ↦ passed_later set fit p below word new count.result is count.ensures u.if-contested-eq0.false t.object-is
        ]
      ],
      told_more w i loop.g loop.tasks group.result.tasks loop.invariant.1 group.ensures.tasks,
    )

-- where the loop ends all four are passed
module _ (c : After-foremost_of-whom) where
  abbrev loop : At-loop-g
  loop = c.before.before

  abbrev w : List ℕ
  w = loop.args.words.now

  abbrev i : ℕ
  i = loop.args.task % 64

  all : loop.loop-g.g ≡ 4
  all = le_antisymm loop.loop-g.invariant.0.few c.loop-g-test.false

  lowest_is : loop.loop-g.object ≡ lowest_object (contested_groups w i)
  lowest_is = passed_lowest (contested_groups w i) (groups_fit w i) loop.loop-g.invariant.0 all

pub overflow_cast-result : goal.overflow_cast-result
overflow_cast-result c = omega (arith, lowest_is c, lowest_lt (contested_groups (w c) (i c)))

pub overflow_cast-result-2 : goal.overflow_cast-result-2
overflow_cast-result-2 c = omega (arith, passed_few _ _ c.loop-g.invariant.0)

pub overflow_cast-result-3 : goal.overflow_cast-result-3
overflow_cast-result-3 c = omega (arith, c.foremost_of-whom.ensures, foremost_le (w c) (bit (loop c).loop-g.tasks) 64 (le_refl 64))

pub returns : goal.returns
returns c =
    said_is (w c) (i c) (loop c).loop-g.object (loop c).loop-g.contested c.foremost_of-whom.result (lowest_is c)
    (passed_many (contested_groups (w c) (i c)) (groups_fit (w c) (i c)) (loop c).loop-g.invariant.0 (all c))
    (whom_is (w c) (i c) (loop c).loop-g.g (loop c).loop-g.tasks c.foremost_of-whom.result (all c) (loop c).loop-g.invariant.1 c.foremost_of-whom.ensures)
