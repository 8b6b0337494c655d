-- The choice of the states, one node after the other.
-- Assumes nothing.
pub mod Choosing
