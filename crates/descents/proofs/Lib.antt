-- The second pass, one node after the other (Passing). Final ranges have one outcome (Unique).
-- Assumes nothing.
pub mod Passing
pub mod Unique
