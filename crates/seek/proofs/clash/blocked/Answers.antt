-- `seek::clash::blocked` meets its contract. The invariant of the loop over tasks: the transaction is blocked where it clashes with one of the tasks to come. That of the loop
-- over groups: no group passed is contested. Assumes nothing.
use Prim.Native.Nat.{◌%◌}
use mathlib.Core.Path.{◌≡◌, refl, ◌∙◌}
use native.Mathlib.Nat.{le_antisymm}
use Rattle.objects.proofs.Laws.Below.{any_empty}
use Rattle.machine.specs.Places.{executing_of}
use Rattle.seek.specs.Tasks.{tasks_in}
use Rattle.seek.proofs.Laws.Clash.{group_clash}
use Rattle.seek.proofs.Laws.Loops.{none_more, group_asked, group_clashes_lem, no_group_clashes, met_all, met_more, met_one}
use Rattle.seek.proofs.clash.blocked.Goals as goal

pub search-init : goal.search-init
search-init c =
    let w = c.args.words.now in
    let all : tasks_in c.into_iter-other-iterator.result.0 ≡ tasks_in (executing_of w) = cc in
    (refl, met_all w (c.args.task % 64) _ all)

pub loop-g-init : goal.loop-g-init
loop-g-init c = (c.search.invariant.0, any_empty (group_clash c.args.words.now (c.args.task % 64) (c.in-Some.other % 64)))

pub loop-g-preserved : goal.loop-g-preserved
loop-g-preserved c =
    let w = c.args.words.now in
    let i = c.args.task % 64 in
    let j = c.in-Some.other % 64 in
    let loop = c.loop-g in (
      loop.invariant.0,
      none_more loop.g (group_clash w i j) loop.invariant.1
          (group_asked w i j loop.g c.group_of.result c.is_contested.result c.group_of.ensures c.is_contested.ensures ∙ c.if-is_contested.false),
    )

pub search-preserved : goal.search-preserved
search-preserved c =
    let w = c.args.words.now in
    let i = c.args.task % 64 in
    let other = c.in-Some.other in
    let loop = c.loop-g in
    let all : loop.g ≡ 4 = le_antisymm loop.auto.g-end c.loop-g-test.false in
    (loop.invariant.0, met_more w i other _ _ c.in-Some.ensures.steps (no_group_clashes w i (other % 64) loop.g all loop.invariant.1) c.search.invariant.1)

pub returns-then-is_contested : goal.returns-then-is_contested
returns-then-is_contested c =
    let w = c.args.words.now in
    let i = c.args.task % 64 in
    let other = c.in-Some.other in
    let g = c.loop-g.g in
    met_one w i other _ _ c.in-Some.ensures.steps
    (group_clashes_lem w i (other % 64) g c.loop-g-test.true
    (group_asked w i (other % 64) g c.group_of.result c.is_contested.result c.group_of.ensures c.is_contested.ensures ∙ c.if-is_contested.true))
    c.search.invariant.1
