-- Laws of one trace for the crates above, and the theorems on its judgement (Exact).
pub mod PointLaws
pub mod Exact
mod Along
pub mod OutlineLaws
