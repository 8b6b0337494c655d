-- A character's length from its entries, and the sum over all (Counting).
-- Assumes nothing.
pub mod Counting
