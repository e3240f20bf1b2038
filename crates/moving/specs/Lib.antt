-- A whole log, and the same log with its releases in the other kind. Logs has the log that is made of a setup and events, Convert the program that moves a log and what its
-- calls give, Laws what is proved of them.
pub mod Logs
pub mod Convert
pub mod Laws
