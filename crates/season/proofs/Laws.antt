-- What the proofs share. News has what an event has to book, Turns what is done with the next record of a window, and Runs takes a window from a place on.
pub mod News
pub mod Turns
pub mod Runs
