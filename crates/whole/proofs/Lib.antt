-- Laws that every crate may cite: the whole numbers, their order and bounds, what the machine's signed words hold, and tests and
-- judgements.
pub mod Linear
pub mod Order
pub mod TestLaws
pub mod Bounds
pub mod Machine
pub mod Halves
pub mod Parts
pub mod Telling
pub mod Stages
pub mod Filling
pub mod Firstly
