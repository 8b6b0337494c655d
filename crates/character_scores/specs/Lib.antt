-- What the passes over one character ask.
-- Assumes nothing.
pub mod CharacterScores
