-- What the checks tell, one after the other.
-- Assumes nothing.
pub mod Admitting
pub mod Orders
