-- What the stretches of a list are after one of them is written, and the table, built one character after the other.
-- Assumes nothing.
pub mod Stretches
pub mod Building
