-- The closed triangle list and six times its volume.
pub mod Triangles
pub mod Volume
pub mod Closed
pub mod Bands
pub mod Meshing
pub mod Working
pub mod Writing
