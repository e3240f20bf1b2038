-- What an event books, by the list of its admissions; and parts of a booking, as the functions that make them say them.
pub mod Listed
pub mod Parts
