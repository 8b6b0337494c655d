-- Several characters side by side, and one node settled in them.
-- Assumes nothing.
pub mod Rows
