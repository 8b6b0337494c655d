-- What a correction does, and when it is refused.
-- Assumes nothing.
pub mod Corrections
