-- The register file: what its contents hold, and what writing and reading answer.
pub mod Contents
pub mod Stored
pub mod Writing
pub mod Reading
pub mod Accepted
pub mod Decoding
pub mod Answering
