-- What the proofs share. Lines has the lines of the bytes that are left, Writing a run into a buffer.
pub mod Lines
pub mod Writing
