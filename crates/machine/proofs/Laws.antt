-- The laws that the proofs of this crate rest on: Choices of tests and events; Bits and Places of words; Ranks of who ranks above whom; Counting, Gapped and RowPut of the
-- row; Changed and Edited of a change of one task; Agree of what is asked of the words, and Asking of what the rules ask; Walked of the rules' scan; Raised of what a commit
-- raises.
pub mod Choices
pub mod Bits
pub mod Places
pub mod Ranks
pub mod Counting
pub mod Gapped
pub mod RowPut
pub mod Changed
pub mod Edited
pub mod Agree
pub mod Asking
pub mod Walked
pub mod Raised
