-- The one theorem over the table of 01's starred rows.
pub mod Lists
pub mod Rows
