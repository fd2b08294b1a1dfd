-- Strips through a grid, for ANY worth of the two kinds of step: what a strip is, its value, the order of strips, and what
-- greatest, first, next and "none left" mean over ALL strips. Nothing here knows coordinates.
pub mod Strip
pub mod Segments
pub mod Value
pub mod Order
pub mod Best
pub mod Number
pub mod Keppel
