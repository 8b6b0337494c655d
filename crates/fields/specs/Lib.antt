-- How the lines of a report are written.
-- Assumes nothing.
pub mod Fields
-- fractions that are at most 1
pub mod Proper
-- texts and their room
pub mod Fitting
