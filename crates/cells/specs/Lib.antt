-- Which cells hold a state above 9999.
-- Assumes nothing.
pub mod Above
