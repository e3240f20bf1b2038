-- Document 01 as definitions, from simple to whole. Above each stands the sentence that it is.
pub mod Answers
pub mod Refusals
pub mod Ranking
pub mod Tasks
pub mod Setup
pub mod Room
pub mod Contest
pub mod Scan
pub mod Listed
pub mod Events
pub mod Sum
pub mod Lines
pub mod Reachable
pub mod History
pub mod Cases
pub mod Demand3
