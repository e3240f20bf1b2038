-- The sheet's text, and a worked one.
pub mod Text
pub mod Example
pub mod Sums
