-- The laws that a setup's functions rest on.
pub mod Start
