-- What the passes leave of one character has its meaning.
-- Assumes nothing.
pub mod Meaning
