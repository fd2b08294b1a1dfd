-- The theorems on the register file: round trips (RoundTrip), what the checks find (Changes), one outcome for each input (WriteExact and
-- ReadExact). The rest are the laws behind them.
pub mod RoundTrip
pub mod Changes
pub mod Content
pub mod WriteExact
pub mod ReadExact
mod WriteCases
mod PutLaws
mod WriteLaws
mod DecodeLaws
mod ChainLaws
pub mod StoredLaws
mod SignLaws
mod GatherLaws
mod FrontLaws
mod ExtentLaws
pub mod ReadGates
mod ReadCases
