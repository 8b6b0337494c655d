-- How the interior nodes are listed in a line of a report.
-- Assumes nothing.
pub mod Ranges
