-- The one outcome of reading.
pub mod Unique
