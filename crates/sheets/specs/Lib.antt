-- What the answer of the call says.
-- Assumes nothing.
pub mod Answers
