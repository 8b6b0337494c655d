-- A matrix whose characters can be summed over.
-- Assumes nothing.
pub mod Extents
