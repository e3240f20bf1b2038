-- Setups has that equal setups are equal to each other; Opening, what an opening makes; Totals, the figures of a list and of one item more; Entering, that a tally's figures stay those of what is booked, and that items fit
-- exactly if the totals do; Writing, the row and how many waits are booked; Row, what the row holds; Most, the order of the tasks that waited; Events, that an event books
-- what history says.
pub mod Setups
pub mod Opening
pub mod Totals
pub mod Entering
pub mod Writing
pub mod Row
pub mod Most
pub mod Events
