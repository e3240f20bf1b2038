-- A season of logs: what is done with a record, by value and in place; a window, windows one after another, a whole log, and logs one after another; and that in place it is
-- the same.
pub mod Program
pub mod InPlace
pub mod Window
pub mod Windows
pub mod Log
pub mod Season
pub mod Same
