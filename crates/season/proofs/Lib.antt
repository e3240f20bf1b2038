-- The theorems of a season of logs, and the laws that they share.
pub mod Laws
pub mod Windows
pub mod Log
pub mod Season
pub mod Same
