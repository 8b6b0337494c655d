-- What the calls answer.
-- Assumes nothing.
pub mod Afresh
