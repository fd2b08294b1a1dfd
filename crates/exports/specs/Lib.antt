-- What the entry points for other languages show of the answers of the functions that they call.
pub mod Shown
pub mod Stacks
pub mod Files
