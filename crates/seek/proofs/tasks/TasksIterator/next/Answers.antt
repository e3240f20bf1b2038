-- `seek::tasks::Tasks` yields the tasks of its word: the lowest, and then those of the word without it.
use mathlib.Core.Path.{ap}
use native.Mathlib.Omega.{arith}
use lib.ListN.{length}
use borrow.Author.Rules.{rules}
use Rattle.seek.proofs.Laws.Tasks.{tasks_none, tasks_first}
use Rattle.seek.proofs.tasks.TasksIterator.next.Goals as goal

pub returns-then-self-eq0-clause-steps : goal.returns-then-self-eq0-clause-steps
returns-then-self-eq0-clause-steps c = let none = tasks_none c.args.self.now.0 c.if-self-eq0.true in (none, none)

pub returns-clause-steps : goal.returns-clause-steps
returns-clause-steps c = tasks_first c.args.self.now.0 c.lowest_of-task.result c.without_bit-self.result (omega arith) c.if-self-eq0.false c.lowest_of-task.ensures c.without_bit-self.ensures

pub returns-clause-goes : goal.returns-clause-goes
returns-clause-goes c = let more = ap length (returns-clause-steps c) in search rules
