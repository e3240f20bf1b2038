-- What the private functions of the searches go by.
pub mod Groups
pub mod Foremost
pub mod Tasks
