-- What the steps at one node ask and leave.
-- Assumes nothing.
pub mod Nodes
