-- Counted, one item in a task's figures; Entered, items one after another; Rows, one wait more in the row; Listing, one admission
-- more in the list; Inside, that what an answer lists lies within the tables; Entering, what items make of a tally and of the row; Booked, that a booking is its parts.
pub mod Counted
pub mod Entered
pub mod Rows
pub mod Listing
pub mod Inside
pub mod Booked
pub mod Entering
