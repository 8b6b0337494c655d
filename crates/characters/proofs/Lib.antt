-- From the checks to the scores, and each call has one outcome.
-- Assumes nothing.
pub mod Calling
pub mod Unique
