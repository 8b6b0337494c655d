-- A struct of two numbers as a range of states.
-- Assumes nothing.
pub mod Ranges
