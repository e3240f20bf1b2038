-- `seek::room::left_of` meets its contract: where no fewer execute than may, none is left. Assumes nothing.
use Prim.Native.Nat.{ℕ, ◌-◌}
use mathlib.Core.Path.{ap, ◌∙◌}
use lib.ListN.{get_or}
use Rattle.machine.specs.Asked.{left_in}
use Rattle.seek.proofs.room.left_of.Goals as goal

pub returns : goal.returns
unfolding left_in
returns c = c.saturating_sub.ensures ∙ ap (λ (busy : ℕ). get_or c.args.words.now 0 0 - busy) c.ones_of.ensures
