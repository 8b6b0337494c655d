-- An order of the interior nodes of an accepted table, as a list.
-- Assumes nothing.
pub mod Orders
