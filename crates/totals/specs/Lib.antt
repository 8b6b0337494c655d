-- The length of a tree.
-- Assumes nothing.
pub mod Totals
