-- The best strips between two traces.
pub mod Cells
pub mod Table
pub mod Walking
pub mod Answers
pub mod Listing
pub mod Lines
pub mod Calls
pub mod Status
pub mod Outcomes
