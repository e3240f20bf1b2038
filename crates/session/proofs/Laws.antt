-- The laws that the functions of this crate rest on: Given is what a function is told of a session that it is given; ByValue the calls; Total the sum.
pub mod Given
pub mod ByValue
pub mod Total
