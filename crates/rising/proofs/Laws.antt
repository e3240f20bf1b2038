-- The laws that proofs cite: of counts, and of the rising order.
pub mod Counts
pub mod Order
