-- How entries and rows are settled.
-- Assumes nothing.
pub mod Rows
