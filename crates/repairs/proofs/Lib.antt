-- The marks of the path tell which nodes are beside it (Looking); the cell, and what the path is settled from (Writing).
-- Assumes nothing.
pub mod Looking
pub mod Writing
