-- How the ranges are read, and what a node sees from above.
-- Assumes nothing.
pub mod Reading
