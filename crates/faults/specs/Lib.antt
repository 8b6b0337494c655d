-- The faults of a tree table beside the root's, in the words of document 01, and what the searches for them find.
-- Assumes nothing.

-- a definition for each sentence
pub mod Faults
-- what each search asks and finds
pub mod Finding
