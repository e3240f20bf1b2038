-- The number at a place of a row in rising order. Order says it plainly, Counts by how many numbers do not pass one, and Laws that the two agree.
pub mod Order
pub mod Counts
pub mod Laws
