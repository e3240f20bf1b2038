-- The proofs of this crate. Of any words: Refused, Above and Length. Of words that hold a session: Numbers, Scan, then the events, an arrival and a finish in Turns, Release and
-- Commit, and Step for all of them. Of a session laid in and read back: Opened, Back, and Fits, Lists and Fresh for what the rules' step and a setup keep. Demands last.
pub mod Laws
pub mod Refused
pub mod Above
pub mod Numbers
pub mod Scan
pub mod Length
pub mod Turns
pub mod Release
pub mod Commit
pub mod Step
pub mod Opened
pub mod Back
pub mod Fits
pub mod Lists
pub mod Fresh
pub mod Demands
