-- What a correction does to the entries of its character.
-- Assumes nothing.
pub mod Mending
