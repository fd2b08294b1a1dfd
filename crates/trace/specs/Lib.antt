-- One trace, in 01's words: its points and twice its area, its six faults, the judgement, and its status.
pub mod Points
pub mod Judgement
pub mod Faults
pub mod Judged
pub mod Walk
pub mod Refused
pub mod Status
pub mod Outline
