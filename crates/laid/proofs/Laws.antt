-- The laws that the functions of this crate rest on: Laid carries the loops that lay a session in and read it back.
pub mod Laid
