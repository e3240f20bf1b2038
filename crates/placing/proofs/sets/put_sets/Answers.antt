-- `placing::sets::put_sets` meets its contract: four words that are copied to a place are put one by one from there on. Assumes nothing.
use Prim.Native.Nat.{ℕ, ◌+◌, ◌*◌, ◌%◌, ◌≤◌, ◌-◌}
use mathlib.Core.Path.{◌≡◌, sym, ◌∙◌}
use mathlib.Core.List.{List}
use native.Mathlib.Nat.{add-zero}
use native.Mathlib.Omega.{arith}
use borrow.Rule.Slice.PartMut.{put_mid}
use lib.ListN.{length, length-set}
use lib.Seq.{paste}
use borrow.Author.Rules.{rules}
use Rattle.std.proofs.lemmas.List.Edits.{paste_none, paste_more}
use Rattle.std.proofs.lemmas.Slice.{put_mid-paste}
use Rattle.machine.specs.Places.{four_put, sets_put}
use Rattle.placing.proofs.sets.put_sets.Goals as goal

-- one by one
four_pasted : (w : List ℕ) (at : ℕ) (s : List ℕ) → length s ≡ 4 → at + 4 ≤ length w → paste w at s 4 ≡ four_put w at s
four_pasted w at s four room =
    let none : paste w at s 0 ≡ w = sym (paste_none w at s) in
    let one = paste_more w at s 0 0 (omega arith) (omega arith) in
    let two = paste_more w at s 1 0 (omega arith) (omega arith) in
    let three = paste_more w at s 2 0 (omega arith) (omega arith) in
    let last = paste_more w at s 3 0 (omega arith) (omega arith) in
    cc (none, add-zero at, one, two, three, last)

four_copied : (w : List ℕ) (at k : ℕ) (now s : List ℕ) → now ≡ s → k ≡ 4 → length s ≡ 4 → at + 4 ≤ length w → put_mid at k w now ≡ four_put w at s
four_copied w at k now s e m four room = put_mid-paste at k w now s 4 e (sym m) (sym four) ∙ four_pasted w at s four room

-- both sets, beside each other
sets_copied : (w : List ℕ) (at k n : ℕ) (first second reads writes : List ℕ) → first ≡ reads → second ≡ writes → k ≡ 4 → n ≡ 4 → length reads ≡ 4 → length writes ≡ 4
    → at + 8 ≤ length w → put_mid (at + 4) n (put_mid at k w first) second ≡ four_put (four_put w (at + 0) reads) (at + 4) writes
sets_copied w at k n first second reads writes d e f g h m room =
    rw (four_copied w at k first reads d f h (omega arith), add-zero at)
    (four_copied (four_put w at reads) (at + 4) n second writes e g m (omega (arith, length-set {A = ℕ})))

pub returns : goal.returns
unfolding sets_put
returns c =
    let a = c.args in
    let base = 648 + a.task % 64 * 8 in
    sets_copied a.words.now base ((base + 4) - base) ((base + 8) - (base + 4)) c.copy_from_slice.new.self c.copy_from_slice-2.new.self a.reads a.writes
    c.copy_from_slice.ensures.after c.copy_from_slice-2.ensures.after (omega arith) (omega arith) (search rules) (search rules) (omega arith)
