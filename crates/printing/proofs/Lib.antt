-- Writing, a byte or a piece at a time; and how long numbers in print are.
-- Assumes nothing.
pub mod Laws
pub mod Lengths
