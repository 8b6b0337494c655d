-- One character's ranges at the interior nodes, and its final ranges.
-- Assumes nothing.
pub mod Descents
