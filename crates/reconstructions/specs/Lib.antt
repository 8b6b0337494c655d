-- What the states of a reconstruction are.
-- Assumes nothing.
pub mod Reconstructions
