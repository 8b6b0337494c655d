-- The cell and the path of a correction.
-- Assumes nothing.
pub mod Repairs
