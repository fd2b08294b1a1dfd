-- The refusals: their numbers, the order in which they are given, and how one is printed.
pub mod Gates
pub mod Number
pub mod Printed
pub mod Status
