-- How rows are loaded, and what the pass leaves.
-- Assumes nothing.
mod Loading
mod Passing
