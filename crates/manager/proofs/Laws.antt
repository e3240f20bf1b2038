-- The laws that the functions of this crate rest on: Places is what stands at a place after another was written; Numbers carries what refuses an event; Scan and Raised
-- the loops over the row; Events what an event changes and comes to.
pub mod Places
pub mod Numbers
pub mod Scan
pub mod Raised
pub mod Events
