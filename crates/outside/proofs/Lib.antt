-- What the proofs of the functions share.
pub mod Beginnings
pub mod Digits
pub mod Sending
