-- What a read answers and leaves, and a part of a window's bytes.
pub mod Block
pub mod Part
