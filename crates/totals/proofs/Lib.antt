-- The sums of lengths, one block after the other.
-- Assumes nothing.
pub mod Blocks
