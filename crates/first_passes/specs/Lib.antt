-- The first pass of one character.
-- Assumes nothing.
pub mod FirstPasses
