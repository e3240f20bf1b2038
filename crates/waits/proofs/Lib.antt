-- The laws of how many waits are booked.
pub mod Booked
