-- What the three numbers say.
-- Assumes nothing.
pub mod Threes
