-- `sheet::lines::put_three` meets its contract: with room for all three they are put one after another, and else nothing is.
use Rattle.std.proofs.Common.{◌≡◌, ◌∙◌, ◌+◌, ◌≤◌, ap, arith, length}
use Rattle.sheet.proofs.Writing.{refused_three, three_put, put_end, put_none, put_length}
use Rattle.sheet.proofs.lines.put_three.Goals as goal

pub returns-in_err-rest : goal.returns-in_err-rest
returns-in_err-rest c =
    let a = c.args in
    let no = refused_three a.buf.now a.at a.a.now a.b.now a.c.now (omega arith) in
    record { says = rw c.from_residual.ensures no.0; leaves = no.1 }

pub returns-in_err-checked_sub : goal.returns-in_err-checked_sub
returns-in_err-checked_sub c =
    let a = c.args in
    let no = refused_three a.buf.now a.at a.a.now a.b.now a.c.now (omega arith) in
    record { says = rw c.from_residual-in_err-checked_sub.ensures no.0; leaves = no.1 }

pub returns-in_err-checked_sub-2 : goal.returns-in_err-checked_sub-2
returns-in_err-checked_sub-2 c =
    let a = c.args in
    let no = refused_three a.buf.now a.at a.a.now a.b.now a.c.now (omega arith) in
    record { says = rw c.from_residual-in_err-checked_sub-2.ensures no.0; leaves = no.1 }

pub returns-in_err-checked_sub-3 : goal.returns-in_err-checked_sub-3
returns-in_err-checked_sub-3 c =
    let a = c.args in
    let no = refused_three a.buf.now a.at a.a.now a.b.now a.c.now (omega arith) in
    record { says = rw c.from_residual-in_err-checked_sub-3.ensures no.0; leaves = no.1 }

pub returns-in_err-second : goal.returns-in_err-second
returns-in_err-second c =
    let a = c.args in
    let room : a.at + length a.a.now + length a.b.now + length a.c.now ≤ length a.buf.now =
    omega (arith, c.in_ok-rest.ensures, c.in_ok-checked_sub.ensures, c.in_ok-checked_sub-2.ensures, c.in_ok-checked_sub-3.ensures) in
    absurd (put_none a.buf.now a.at a.a.now (omega arith) c.in_err-second.ensures.says)

pub returns-in_err-third : goal.returns-in_err-third
returns-in_err-third c =
    let a = c.args in
    let room : a.at + length a.a.now + length a.b.now + length a.c.now ≤ length a.buf.now =
    omega (arith, c.in_ok-rest.ensures, c.in_ok-checked_sub.ensures, c.in_ok-checked_sub-2.ensures, c.in_ok-checked_sub-3.ensures) in
    let first = c.put_word in
    let size = put_length a.buf.now a.at a.a.now first.new.buf (omega arith) first.ensures.leaves in
    let second = put_end a.buf.now a.at c.in_ok-second.second a.a.now (omega arith) c.in_ok-second.ensures.says in
    absurd (put_none first.new.buf c.in_ok-second.second a.b.now (omega (arith, size, second)) c.in_err-third.ensures.says)

pub returns : goal.returns
returns c =
    let a = c.args in
    let room : a.at + length a.a.now + length a.b.now + length a.c.now ≤ length a.buf.now =
    omega (arith, c.in_ok-rest.ensures, c.in_ok-checked_sub.ensures, c.in_ok-checked_sub-2.ensures, c.in_ok-checked_sub-3.ensures) in
    let first = c.put_word in
    let second = c.put_word-2 in
    let third = c.put_word-3 in
    let size = put_length a.buf.now a.at a.a.now first.new.buf (omega arith) first.ensures.leaves in
    let ends = put_end a.buf.now a.at c.in_ok-second.second a.a.now (omega arith) c.in_ok-second.ensures.says in
    let ends' : c.in_ok-third.third ≡ a.at + length a.a.now + length a.b.now =
    put_end first.new.buf c.in_ok-second.second c.in_ok-third.third a.b.now (omega (arith, size, ends)) c.in_ok-third.ensures.says ∙ ap (λ k. k + length a.b.now) ends in
    let all =
    three_put a.buf.now a.at a.a.now a.b.now a.c.now first.new.buf second.new.buf third.new.buf second.result third.result
    (omega arith) first.ensures.leaves (rw ends at second.ensures.says) (rw ends at second.ensures.leaves) (rw ends' at third.ensures.says) (rw ends' at third.ensures.leaves) in
    record { says = all.0; leaves = all.1 }
