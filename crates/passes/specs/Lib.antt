-- The first pass over a block of characters.
-- Assumes nothing.
pub mod Passes
