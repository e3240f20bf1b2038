-- `sheet::compose::push_sheet` meets its contract: the lines after the rows follow the lines up to them.
use Rattle.std.proofs.Common.{◌∙◌, arith, ap}
use Rattle.text.proofs.Pushing.{pushes_more, pushes_stop, pushes_err, pushes_as}
use Rattle.sheet.specs.Text.{sheet_text, head_text, foot_text}
use Rattle.sheet.proofs.Front.{head_front, foot_front}
use Rattle.sheet.proofs.compose.push_sheet.Goals as goal

pub returns-in_err-push_head-clause-is : goal.returns-in_err-push_head-clause-is
unfolding sheet_text
returns-in_err-push_head-clause-is g c =
    let t = c.args.t in
    let n = c.from.ensures ∙ c.min.ensures in
    let head = pushes_as c.in_err-push_head.ensures.is (head_front t.figures c.from.result c.args.logs (omega arith) ∙ ap (λ k. head_text c.args.logs k t.figures) n) in
    pushes_err _ c.from_residual.ensures.0 (pushes_stop _ head)

pub returns-clause-is : goal.returns-clause-is
unfolding sheet_text
returns-clause-is g c =
    let t = c.args.t in
    let n = c.from.ensures ∙ c.min.ensures in
    let head = pushes_as c.in_ok-push_head.ensures.is (head_front t.figures c.from.result c.args.logs (omega arith) ∙ ap (λ k. head_text c.args.logs k t.figures) n) in
    let foot =
    pushes_as c.push_foot.ensures.is
    (foot_front t.figures c.from.result c.middle.result c.nine_tenths.result c.args.left (omega arith)
    ∙ ap (λ k. foot_text c.middle.result c.nine_tenths.result k t.figures c.args.left) n) in
    rw (← c.middle.ensures, ← c.nine_tenths.ensures) (pushes_more head foot)
