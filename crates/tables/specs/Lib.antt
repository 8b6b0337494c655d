-- The layout of a kept table, and what it means.
-- Assumes nothing.
pub mod Tables
