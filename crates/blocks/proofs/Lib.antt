-- How subtrees are settled.
-- Assumes nothing.
pub mod Walks
