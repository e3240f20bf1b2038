-- `manager::row::scan` meets its contract. The loop's invariant: the words, the list and the three counts are those of the scan that has come past the first p places.
use mathlib.Core.Path.{◌≡◌, sym, ap, ◌∙◌}
use mathlib.Core.Bool.{false, not, ◌&&◌}
use native.Mathlib.Nat.{mod-lt}
use native.Mathlib.Omega.{arith}
use Rattle.machine.specs.Places.{row_held, row_task}
use Rattle.machine.specs.Asked.{room_in, blocked_in}
use Rattle.machine.specs.Row.{Scan, scan_in}
use Rattle.manager.proofs.Laws.Scan.{looked_none, looked_admitted, looked_kept, scanned, closed, room_left}
use Rattle.manager.proofs.row.scan.Goals.{then-has_room+then-not-blocked, else-has_room, else-has_room-via-then-has_room+else-not-blocked, else-has_room-via-else-has_room}
use Rattle.manager.proofs.row.scan.Goals as goal

pub loop-p-init : goal.loop-p-init
loop-p-init c = looked_none c.args.words.now c.args.list.now c.left_of-left.result c.requires c.left_of-left.ensures

pub admit-requires : goal.admit-requires
admit-requires c =
    let loop = c.loop-p in
    let left = room_left loop.words loop.left (row_task loop.words loop.p) (sym c.has_room.ensures ∙ c.if-has_room.true) in
    (mod-lt _ (omega arith), omega (arith, loop.invariant.few))

pub overflow_sub-left : goal.overflow_sub-left
overflow_sub-left c =
    let loop = c.loop-p in
    omega (arith, room_left loop.words loop.left (row_task loop.words loop.p) (sym c.has_room.ensures ∙ c.if-has_room.true))

pub loop-p-preserved : goal.loop-p-preserved
loop-p-preserved c =
    let a = c.args in
    let loop = c.loop-p in
    let x : Scan = record { words = loop.words; list = loop.list; admitted = loop.admitted; kept = loop.kept; left = loop.left } in
    let i = row_task loop.words loop.p in
    elim c.if-has_room.branch [
      | then-has_room+then-not-blocked t ↦
          rw (t.left-is, t.kept-is, t.admitted-is)
          (looked_admitted a.words.now a.list.now loop.p x loop.invariant c.if-has_room.words c.if-has_room.list
          (sym c.has_room.ensures ∙ t.if-has_room.true)
          (sym t.blocked.ensures ∙ t.if-not-blocked.true)
          (t.words-is ∙ t.admit.ensures.leaves)
          (t.list-is ∙ t.admit.ensures.lists))
      | else-has_room t ↦
          let stays : (room_in loop.words loop.left i && not (blocked_in loop.words i)) ≡ false =
          elim t.else-has_room.branch [
            | else-has_room-via-then-has_room+else-not-blocked u ↦
                rw (sym c.has_room.ensures ∙ u.if-has_room.true, sym u.blocked.ensures ∙ u.if-not-blocked.false)
            | else-has_room-via-else-has_room u ↦ rw (sym c.has_room.ensures ∙ u.if-has_room.false)
          ] in
          rw (t.words-is, t.list-is, t.left-is, t.kept-is, t.admitted-is) (looked_kept a.words.now a.list.now loop.p x loop.invariant stays)
    ]

pub returns : goal.returns
returns c =
    let a = c.args in
    let loop = c.loop-p in
    let x : Scan = record { words = loop.words; list = loop.list; admitted = loop.admitted; kept = loop.kept; left = loop.left } in
    let p_is : loop.p ≡ row_held a.words.now = omega arith in
    let all : closed x ≡ scan_in a.words.now a.list.now = scanned a.words.now a.list.now loop.p x p_is loop.invariant in record {
      says = ap (λ (y : Scan). y.admitted) all;
      leaves = ap (λ (y : Scan). y.words) all;
      lists = ap (λ (y : Scan). y.list) all;
    }
