-- The root of a tree table, in the words of document 01, and what the searches for it and for its descendant find.
-- Assumes nothing.
pub mod Roots
