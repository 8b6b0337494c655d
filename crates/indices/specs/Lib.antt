-- What an index is, and what is asked of the cells of a character.
-- Assumes nothing.
pub mod Indices
