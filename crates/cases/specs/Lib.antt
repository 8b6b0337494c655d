-- What is read out of a text of cases, and what is printed of a list.
-- Assumes nothing.
pub mod Reading
pub mod Printing
