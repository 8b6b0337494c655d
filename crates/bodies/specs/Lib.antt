-- What the answers about a text say.
-- Assumes nothing.
pub mod Scanned
