-- The report's theorem, and the laws that it stands on; how many events are left out; the same over numbers and lists alone; the worked cases.
pub mod Laws
pub mod Report
pub mod Left
pub mod Plain
pub mod Cases
