-- The theorems on the blocks of the register file: one outcome for each input (Exact), sealing and opening (RoundTrip), and what the
-- check finds (Changes). The rest are the laws behind them.
pub mod Cases
pub mod Exact
pub mod RoundTrip
pub mod Changes
mod CheckLaws
mod TailLaws
mod CopyLaws
mod SealLaws
mod OpenLaws
mod ChangeLaws
mod BlockLaws
