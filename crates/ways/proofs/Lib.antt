-- The theorems about strips, for any worths. `Answers` gathers those that answer 01; the others lead there.
pub mod OrderLaws
pub mod Way
pub mod Tight
pub mod Greatest
pub mod Traced
pub mod TopLaws
pub mod Unique
pub mod Complete
pub mod Runs
pub mod Numbers
pub mod Segments
pub mod Answers
