-- The lines of a sheet: how they are written, and how they are read at a position.
-- Assumes nothing.
pub mod Printed
pub mod Lines
