-- What a word of a call says, which calls are worth another try, what is written out, and the numbers of the verdicts.
pub mod Verdict
pub mod Words
pub mod World
