-- The laws that the functions of this crate rest on: Bits says that the machine's operations on words set a bit, take one out and count; Ones is the lowest one of a word
-- and the word without it; Tasks is the walk over the tasks of a word, lowest first; Gathered a word that such a walk gathers; Clash the clash of two tasks, group by
-- group; Loops what holds of one index more, and of the tasks to come; Highest the highest ranked of some tasks, and so whom a transaction waits for; Reduced how a walk
-- finds it; Groups a set of objects looked through group by group.
pub mod Bits
pub mod Ones
pub mod Tasks
pub mod Gathered
pub mod Clash
pub mod Loops
pub mod Highest
pub mod Reduced
pub mod Groups
