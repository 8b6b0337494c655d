-- How far the search for the root has come.
-- Assumes nothing.
mod Rooting
