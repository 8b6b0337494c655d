-- What a slice holds after something was written into it. How numbers are written is in the crate `numbers`.
-- Assumes nothing.
pub mod Writing
