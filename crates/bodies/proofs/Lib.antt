-- The numbers that are stored, and what is then said of the text.
-- Assumes nothing.
pub mod Storing
