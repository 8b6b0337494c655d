-- How one character is taken out of a block, and what it has after a first pass.
-- Assumes nothing.
mod Taking
pub mod Passed
