-- The lines of a report for the tree, and the line of a refusal, as text.
-- Assumes nothing.
pub mod Report
-- the room of its parts
pub mod Rooms
