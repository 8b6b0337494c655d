-- Which tables are accepted and which are refused.
-- Assumes nothing.
pub mod Answers
