-- What the calls by value read off the machine's list, and demand 3 of what they return.
pub mod Listed
pub mod Demand3
