-- What 01 says of the closed triangle list and of the volume (Answers), and the laws about sides and determinants behind it.
pub mod Answers
pub mod Balance
pub mod Volumes
mod Cases
mod Corners
mod Rings
mod Caps
mod Stacked
mod SixLaws
mod MeshLaws
mod WriteLaws
mod ClosedLaws
mod Vertices
