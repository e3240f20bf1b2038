-- The report: what is booked, by an event and into a tally, by the calls; then the same over the list of sessions, and the theorem that joins them; how many events are left
-- out; what the sheet says of all tasks, over numbers and lists alone; and worked cases.
pub mod Items
pub mod Booking
pub mod Ledger
pub mod Sheet
pub mod Row
pub mod Report
pub mod Left
pub mod Plain
pub mod Cases
