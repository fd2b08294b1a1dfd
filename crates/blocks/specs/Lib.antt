-- The blocks of the register file: how contents stand in them, what is judged of them, and two of them exchanged.
pub mod Blocks
pub mod Faults
pub mod Opened
pub mod Exchanged
