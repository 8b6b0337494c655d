-- The lines for the characters of a report.
-- Assumes nothing.
pub mod Lines
