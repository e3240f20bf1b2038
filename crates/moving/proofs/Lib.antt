-- The theorems of a whole log: it is written back, it reads back, and what moving it keeps.
pub mod Logs
pub mod Back
pub mod Moved
pub mod Progress
pub mod Number
pub mod Laws
