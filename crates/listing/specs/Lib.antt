-- The text of the listing program: what is read, and the lines that are written.
pub mod Words
pub mod Numeral
pub mod Asked
pub mod Stated
pub mod Lines
pub mod Answer
pub mod Writing
pub mod Filling
pub mod Pairs
pub mod Listing
pub mod Telling
