pub mod Between
pub mod Sum
pub mod Tests
pub mod Lowest
pub mod Tells
pub mod Filled
pub mod Firstly
