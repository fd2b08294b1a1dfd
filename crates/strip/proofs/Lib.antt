-- Laws of the worth and the value of a strip for the crates above, and the theorems on judging one (Exact).
pub mod PairLaws
pub mod JudgingLaws
pub mod WorthLaws
pub mod ValueLaws
pub mod SameAmount
pub mod BytesLaws
pub mod BandLaws
pub mod Exact
mod Along
pub mod StepLaws
