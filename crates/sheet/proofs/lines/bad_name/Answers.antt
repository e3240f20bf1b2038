-- `sheet::lines::bad_name` meets its contract: what stands before the name has room, and with the name and the line feed it is the line.
use Rattle.std.proofs.Common.{◌≡◌, ◌∙◌, ◌++◌, arith, ap, sym, length}
use Rattle.std.proofs.lemmas.Bool.{false≢true}
use Rattle.sheet.specs.Text.{bad_front}
use Rattle.sheet.proofs.Writing.{bad_parts}
use Rattle.sheet.proofs.lines.bad_name.Goals as goal

pub returns-in_err-ok : goal.returns-in_err-ok
returns-in_err-ok c =
    let pushed = c.push_bad_front.ensures.short (omega (arith, ap length c.new-front.ensures)) in
    absurd (false≢true (c.in_err-ok.ensures.variant ∙ pushed.0))

pub returns : goal.returns
returns c =
    let text = c.push_bad_front.ensures.is.text (sym c.in_ok-ok.ensures.variant) in
    let front : c.as_slice.result.now ≡ bad_front c.args.number = c.as_slice.ensures.value ∙ text ∙ ap (λ s. s ++ bad_front c.args.number) c.new-front.ensures in
    rw (front, bad_parts) at c.put_three.ensures
