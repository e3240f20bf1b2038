-- The theorems about the text, and the laws that the writers share.
pub mod Decimal
pub mod Examples
pub mod Writing
pub mod Answers
pub mod Admitted
pub mod Pushing
pub mod Sizes
