-- The lines of a log: what a record gives, the whole log, a window replayed into a buffer, windows one after another, and that it moves on.
pub mod Program
pub mod Whole
pub mod Replay
pub mod Windows
pub mod Progress
