-- What the report on a text says.
-- Assumes nothing.
pub mod Says
-- what its steps leave
pub mod Steps
