-- What copying a window of a log leads to.
pub mod Feeding
