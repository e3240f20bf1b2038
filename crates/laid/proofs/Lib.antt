-- The proofs of this crate: one folder a function, and the laws that they share.
pub mod Laws
