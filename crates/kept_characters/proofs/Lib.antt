-- From the checks to the steps (Calling).
-- Assumes nothing.
mod Calling
