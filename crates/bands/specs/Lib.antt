-- The first best strip of every band of a stack.
pub mod Bands
pub mod Filling
