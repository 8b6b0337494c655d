-- The lines of a report for one character, as text.
-- Assumes nothing.
pub mod Report
-- the room of its parts
pub mod Rooms
