-- One kept character.
-- Assumes nothing.
pub mod Readings
