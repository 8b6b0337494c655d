-- The sums over all characters have their meaning (Summing), and what is found is one (Unique).
-- Assumes nothing.
pub mod Summing
pub mod Unique
