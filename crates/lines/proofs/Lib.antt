-- The theorems of the lines, and the laws that they share.
pub mod Laws
pub mod Whole
pub mod Written
pub mod Sizes
pub mod Bounds
pub mod Fitting
pub mod Answers
pub mod Alike
pub mod Windows
pub mod Progress
