-- Lemmas on digests, and on what is printed of a list.
-- Assumes nothing.
pub mod Steps
