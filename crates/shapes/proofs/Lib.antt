-- How the lists are filled, entry by entry; and the subtree of a node, for those that follow the lists.
--     Listing     the two descendants of each interior node
--     Ready       what that asks for
--     Subtrees    the subtree of a node
-- Assumes nothing.
mod Listing
pub mod Ready
pub mod Subtrees
