-- What a scan keeps, as statements, and their proofs: Scan has them all, from the laws of the files before it; Listed says that what it lists is what it does, and InOrder that it lists them in rank order. Then what an event changes: Steps has the
-- answers by cases, Change how one changed task keeps a session sound, Almost how a scan does.
pub mod Kept
pub mod Tasks
pub mod Foremost
pub mod Keeping
pub mod Room
pub mod Looks
pub mod Passed
pub mod Scan
pub mod Listed
pub mod InOrder
pub mod Steps
pub mod Rows
pub mod Numbers
pub mod Refusals
pub mod Alike
pub mod Almost
pub mod Change
