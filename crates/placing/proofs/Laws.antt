-- The laws that the functions of this crate rest on, and those of the crates below: Tasks is a task's number, which counts mod 64, and how many tasks a loop passes; Ranks
-- carries the loop that puts a job among the ranks, and Row the one that puts a wait into the row.
pub mod Tasks
pub mod Ranks
pub mod Row
