-- `text::place::put_word` meets its contract: a test each for a place past the buffer and for too few bytes after it, and else the copy.
use Rattle.std.proofs.Common.{◌∙◌, refl, length, arith}
use Rattle.std.proofs.lemmas.Slice.{put_mid-paste}
use Rattle.text.proofs.Writing.{accepted, refused, whole}
use Rattle.text.proofs.place.put_word.Goals as goal

pub returns-in_err-checked_sub : goal.returns-in_err-checked_sub
returns-in_err-checked_sub c =
    let r = refused c.args.buf.now c.args.at c.args.word.now (omega arith) in
    record { says = rw c.from_residual.ensures r.0; leaves = r.1 }

pub returns-then-branch-word : goal.returns-then-branch-word
returns-then-branch-word c =
    let r = refused c.args.buf.now c.args.at c.args.word.now (omega arith) in
    record { says = r.0; leaves = r.1 }

pub returns : goal.returns
returns c =
    let a = c.args in
    let p = accepted a.buf.now a.at a.word.now (omega arith) in
    record {
      says = p.0;
      leaves = put_mid-paste a.at _ a.buf.now _ a.word.now (length a.word.now) c.copy_from_slice.ensures.after (omega arith) refl ∙ whole a.buf.now a.at a.word.now ∙ p.1;
    }
