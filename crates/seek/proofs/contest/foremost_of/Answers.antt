-- `seek::contest::foremost_of` meets its contract: of the tasks so far and the next one, the one that ranks higher stays.
use Prim.Native.Nat.{ℕ}
use mathlib.Core.Path.{refl, ap, ◌∙◌}
use Rattle.std.specs.Prelude.{Option, unwrap_or}
use borrow.Author.Tests.{tests}
use Rattle.std.proofs.Common.{rules}
use Rattle.std.proofs.lemmas.Iterator.Consumers.{YieldsList-from_first}
use Rattle.seek.specs.Tasks.{tasks_in}
use Rattle.seek.proofs.Laws.Reduced.{higher, reduced, foremost_reduced}
use Rattle.seek.proofs.contest.foremost_of.Goals as goal

pub returns : goal.returns
returns c =
    let w = c.args.words.now in
    c.unwrap_or.ensures
    ∙ ap (λ (r : Option ℕ). unwrap_or r 64)
    (reduced _ (higher w) c.reduce.result c.reduce.ensures.ran (YieldsList-from_first (λ x. x) (λ s. tasks_in s.0) (tasks_in c.args.tasks) refl) (λ a x b q k. search (rules, tests)))
    ∙ foremost_reduced w c.args.tasks
