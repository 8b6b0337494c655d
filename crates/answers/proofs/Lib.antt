-- How a caller reads the one number.
-- Assumes nothing.
pub mod Reading
