-- How lines and rows are read step by step; how far they reach; that reading and writing them undo each other; and what an answer of one says.
-- Assumes nothing.
pub mod Laws
pub mod Reach
pub mod Round
pub mod Unambiguous
pub mod Results
