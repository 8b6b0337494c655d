-- The limits of n and c, and the lengths of lent slices.
-- Assumes nothing.
pub mod Limits
