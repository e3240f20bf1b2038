-- The laws that proofs cite: of the bounded definitions, of the bits of words, of sets of objects, and of the clash; and the least and how many said plainly.
pub mod Below
pub mod Bits
pub mod Sets
pub mod Clash
pub mod Plainly
