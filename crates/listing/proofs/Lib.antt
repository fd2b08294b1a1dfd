-- Laws of the text layer.
-- The theorems: what is read is what 01 states (Exact), what is written is read back (RoundTrip), 01's example (Examples).
pub mod NumeralLaws
pub mod WordLaws
pub mod AheadLaws
pub mod SignedLaws
pub mod FillLaws
pub mod LayerLaws
pub mod PairLaws
pub mod LineLaws
pub mod LengthLaws
pub mod StripLines
pub mod PlaneLaws
pub mod ListLaws
pub mod TellLaws
pub mod Exact
pub mod Cases
pub mod RoundTrip
pub mod Unique
pub mod ReadLaws
pub mod Examples
