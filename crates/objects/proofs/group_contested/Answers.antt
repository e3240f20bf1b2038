-- `objects::group_contested` meets its contract: the group is contested where its contested word is not 0. Assumes nothing.
use Prim.Native.Nat.{ℕ}
use mathlib.Core.Path.{ap, sym, ◌∙◌}
use mathlib.Core.Bool.{not}
use lib.Dec.{eqb}
use Rattle.objects.proofs.Laws.Clash.{group_contested_word}
use Rattle.objects.proofs.group_contested.Goals as goal

pub returns : goal.returns
returns c =
    let a = c.args in
    ap (λ (word : ℕ). not (eqb word 0)) c.contested_word.ensures
    ∙ sym (group_contested_word a.reads a.writes a.other_reads a.other_writes)
