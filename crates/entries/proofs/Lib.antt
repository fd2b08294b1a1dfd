-- The laws of gathering entries into a Stack (GatherLaws) and of writing a Stack's entries at the front of a slice (ScatterLaws).
pub mod ScatterLaws
mod GatherLaws
