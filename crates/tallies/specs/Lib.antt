-- Lengths from kept entries.
-- Assumes nothing.
pub mod Tallies
