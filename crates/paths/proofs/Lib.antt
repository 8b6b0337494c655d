-- The path from a node to the root: its nodes, their number, and how a loop lists it.
-- Assumes nothing.
pub mod Paths
