-- How the descendants of the nodes are counted.
-- Assumes nothing.
mod Counting
