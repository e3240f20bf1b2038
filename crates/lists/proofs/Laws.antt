-- The laws that proofs cite: of lists and what stands in them, of the set of a list, of the list of a set, and that each is known by the other.
pub mod Rises
pub mod Sets
pub mod Objects
pub mod Back
