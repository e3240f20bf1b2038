-- `laid::put::open` meets its contract. The first loop's invariant: the words are those with the numbers of the first i tasks; the second's: those with their states.
use Rattle.std.proofs.Common.{arith, ◌≡◌, ◌<◌, ◌≤◌, refl, sym, ap, ◌∙◌, ℕ, List, get_or, take, length, replicate, set}
use borrow.Rule.Slice.PartMut.{put_mid}
use Rattle.std.proofs.Math.ListN.{length-set}
use Rattle.std.proofs.lemmas.List.{get_or-take}
use Rattle.rules.specs.Tasks.{task_at, no_task}
use Rattle.machine.specs.Opened.{held, head_put}
use Rattle.placing.proofs.Laws.Tasks.{task_mod}
use Rattle.laid.proofs.Laws.Laid.{four_put, numbers_none, numbers_more, states_none, states_more, opened_whole}
use Rattle.laid.proofs.put.open.Goals as goal

pub loop-i-init : goal.loop-i-init
loop-i-init c =
    let w = c.args.words.now in
    let s = c.args.s in
    let head : List ℕ = set (set (set (set w 0 s.m) 1 s.n) 2 s.tick) 3 s.accepted in
    let long : 8 ≤ length head = simp length-set (omega arith) in
    let four : length c.fill.new.self ≡ 4 = omega arith in
    let zeros : c.fill.new.self ≡ replicate 4 0 = c.fill.ensures.after (λ y e. e) ∙ ap (λ n. replicate n 0) (sym c.fill.ensures.len ∙ four) in
    rw (c.from.ensures, c.from-2.ensures, c.from-3.ensures, c.from-4.ensures, c.from-5.ensures)
    (ap (λ x. set x 1224 s.mode) (ap (put_mid 4 4 head) zeros ∙ four_put head (replicate 4 0) 4 4 refl long refl) ∙ numbers_none (head_put w s) s)

pub loop-i-preserved : goal.loop-i-preserved
loop-i-preserved c =
    let s = c.args.s in
    let i = c.loop-i.i in
    let in_range : i < 64 = omega arith in
    let named : get_or (take c.min-end.result s.tasks) i no_task ≡ task_at s i = get_or-take c.min-end.result s.tasks i no_task (omega arith) in
    numbers_more _ s i c.loop-i.words c.put_sets.new.words c.loop-i.invariant
    (c.put_sets.ensures ∙ rw (c.put_numbers.ensures, c.four_of.ensures, c.four_of-in-loop-i.ensures, task_mod i in_range, named))

pub loop-i-2-init : goal.loop-i-2-init
loop-i-2-init c = states_none c.loop-i.words c.args.s

pub loop-i-2-preserved : goal.loop-i-2-preserved
loop-i-2-preserved c =
    let s = c.args.s in
    let i = c.loop-i-2.i in
    let in_range : i < 64 = omega arith in
    let named : get_or (take c.min-end.result s.tasks) i no_task ≡ task_at s i = get_or-take c.min-end.result s.tasks i no_task (omega arith) in
    states_more c.loop-i.words s i c.loop-i-2.words c.put_state.new.words c.loop-i-2.invariant
    (c.put_state.ensures ∙ rw (c.put_in_rank.ensures, task_mod i in_range, named))

pub returns : goal.returns
returns c =
    let a = c.args in
    let all : c.loop-i.i ≡ held a.s = omega arith in
    let each : c.loop-i-2.i ≡ held a.s = omega arith in
    opened_whole a.words.now a.s c.loop-i.i c.loop-i-2.i c.loop-i.words c.loop-i-2.words all each c.loop-i.invariant c.loop-i-2.invariant
