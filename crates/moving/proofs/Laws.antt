-- What the proofs of the code share. Events has the next event of a log, Writing a run into a buffer, Fitting the size of what a log is moved to, and Answers what moving a whole log answers.
pub mod Events
pub mod Writing
pub mod Fitting
pub mod Answers
