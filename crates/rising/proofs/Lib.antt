-- The theorems of the rising order, the laws that they share, and the search by halves.
pub mod Laws
pub mod Agree
pub mod Plain
pub mod Search
