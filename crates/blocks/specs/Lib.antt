-- What the first pass does to several characters side by side.
-- Assumes nothing.
pub mod Blocks
