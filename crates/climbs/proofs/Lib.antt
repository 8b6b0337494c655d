-- How a climb with marks tells whether it leads to the root.
-- Assumes nothing.
mod Rounds
