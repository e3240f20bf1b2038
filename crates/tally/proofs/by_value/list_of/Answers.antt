-- `tally::by_value::list_of` meets its contract. The loop's invariant: the list has the waits of the admissions passed.
use Prim.Native.Nat.{ℕ}
use mathlib.Core.Path.{sym, subst, ◌∙◌}
use native.Mathlib.Numerals.{add-one}
use native.Mathlib.Omega.{arith}
use lib.ListN.{get_or}
use Rattle.rules.specs.Scan.{no_admission}
use Rattle.tally.specs.Parts.{Lists}
use Rattle.tally.proofs.Laws.Listing.{put_four, four_length, lists_more}
use Rattle.tally.proofs.by_value.list_of.Goals as goal

pub loop-k-preserved : goal.loop-k-preserved
loop-k-preserved c =
    let inv = c.loop-k.invariant in
    let k = c.loop-k.k in
    let list = c.loop-k.list in
    let since = c.since_of-since.result in
    let a = get_or c.args.admitted.list k no_admission in
    let after = put_four list k a.task a.clashes a.retries since in
    let since_is = rw c.from.ensures at c.since_of-since.ensures in
    rw (c.from-in-loop-k.ensures, c.from-in-loop-k-2.ensures, c.from-in-loop-k-3.ensures, c.from-in-loop-k-4.ensures)
    (record {
      size = four_length list k a.task a.clashes a.retries since ∙ inv.size;
      lists = subst (λ (n : ℕ). Lists c.args.tasks c.args.tick c.args.admitted.list n after) (sym (add-one k))
          (lists_more c.args.tasks c.args.tick c.args.admitted.list k list (omega (arith, inv.size, c.requires.0)) inv.lists (c.requires.1 k (omega arith)) since since_is);
    })
