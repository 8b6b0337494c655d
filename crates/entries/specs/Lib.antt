-- Which kept entries no pass leaves.
-- Assumes nothing.
pub mod Entries
