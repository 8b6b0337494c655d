-- The searches for a bad entry, one entry after the other.
-- Assumes nothing.
pub mod Searching
