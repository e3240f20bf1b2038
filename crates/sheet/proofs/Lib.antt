-- The laws that the functions share, and the worked sheet.
pub mod Writing
pub mod Example
pub mod Front
