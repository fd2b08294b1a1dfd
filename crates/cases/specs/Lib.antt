-- 01, "Cases to be proved together": the table of the rows marked with a star.
pub mod Table
