-- What the code computes is the join, the cost and the nearest state of the crate `parsimony`.
-- Assumes nothing.
pub mod Ends
pub mod Unique
