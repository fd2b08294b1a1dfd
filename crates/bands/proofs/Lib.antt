-- What holds of the strips of all bands (Exact), and the laws behind it.
pub mod Exact
mod CellLaws
mod FillLaws
mod AnswerLaws
