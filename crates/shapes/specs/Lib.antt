-- The shape of an accepted table: the two descendants of each interior node, as lists; and the subtree of a node.
-- Assumes nothing.
pub mod Shape
-- what the functions ask, and what they do to a list at each step
pub mod Filling
