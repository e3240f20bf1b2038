-- The laws of lists of objects and their sets.
pub mod Laws
