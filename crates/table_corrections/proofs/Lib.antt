-- A stretch of the kept table, lent on and put back (Stretching).
-- Assumes nothing.
pub mod Stretching
