-- The checks of the calls, as lists in document 01's order.
-- Assumes nothing.
pub mod Calls
