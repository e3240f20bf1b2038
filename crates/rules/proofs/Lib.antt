-- The theorems of the rules, and the laws that they share. Demand 3 is read in this order: Moves (what an event does, task by task), Ran (who ran, by history),
-- Told (history follows it), Jobs (how often a task can commit), Known (what is known at every place of a run), Demand3, Ended (where
-- a wait has ended).
pub mod Laws
pub mod Cases
pub mod Ranking
pub mod Start
pub mod Accepted
pub mod Fresh
pub mod Events
pub mod Moves
pub mod Ran
pub mod Told
pub mod Jobs
pub mod Known
pub mod Demand3
pub mod Ended
pub mod Contest
pub mod NoTask
