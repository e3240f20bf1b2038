-- The text of a replay's lines, from a number to the lines of one event, and what a writer does with it.
pub mod Decimal
pub mod Words
pub mod Lines
pub mod Written
pub mod Laws
