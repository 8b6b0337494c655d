-- The path from a node of an accepted table to the root, as a list.
-- Assumes nothing.
pub mod Paths
