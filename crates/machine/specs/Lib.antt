-- The manager in place, over any words, from simple to whole. Bits: words with a bit for each task. Places: what stands where. Ranks: who ranks above whom, and how it moves.
-- Asked: what the events ask of the words. Row: how a wait is put into the row and how a scan walks it. Events: the number that refuses an event, what is said, and what it leaves. Opened: a session laid into the
-- words, and read back. Then what is proved of them: Holds, that the words hold a session; Theorem, that each event on words that hold a session is the rules' step; Demands,
-- what holds over any run of calls.
pub mod Bits
pub mod Places
pub mod Ranks
pub mod Asked
pub mod Row
pub mod Events
pub mod Opened
pub mod Holds
pub mod Theorem
pub mod Demands
