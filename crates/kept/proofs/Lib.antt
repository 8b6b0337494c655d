-- From the checks to the steps (Calling).
-- Assumes nothing.
pub mod Calling
