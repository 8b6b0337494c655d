-- What a search through the cells has passed, and that a cell is one of the matrix.
-- Assumes nothing.
mod Passing
pub mod Reading
