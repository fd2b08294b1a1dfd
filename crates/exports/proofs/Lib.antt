-- What holds of the entry points for other languages: one outcome for each input (Exact), and the register file's round trips (RoundTrip).
pub mod Exact
pub mod RoundTrip
