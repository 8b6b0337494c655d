-- What the program writes.
-- Assumes nothing.
pub mod Gains
