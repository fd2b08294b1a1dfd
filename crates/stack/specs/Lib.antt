-- A stack of layers over one common coordinate list, and the strips of its bands.
pub mod Entries
pub mod Faults
pub mod Strips
pub mod Laid
