-- One node settled from its descendants (Nodes), the climb from a taxon (Climbs), what the lists hold after some nodes of it (Turns), and one node more
-- (Paths), from the first to the last (Ends). What a mended path means (Means), and that it has one outcome (Unique).
-- Assumes nothing.
pub mod Nodes
pub mod Climbs
pub mod Turns
pub mod Paths
pub mod Ends
pub mod Means
pub mod Unique
