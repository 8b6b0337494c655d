-- What is known of a slice that is not refused, and of n and c in their limits.
-- Assumes nothing.
pub mod Lending
