-- Laws of a stack for the crates above, and the theorems on its judgement (Exact).
pub mod StackLaws
pub mod Exact
pub mod Cases
pub mod Laying
mod StripLaws
mod FaultTests
mod StackCases
