-- What is scored (Scores.antt), and the step to it (Steps.antt).
-- Assumes nothing.
pub mod Scores
pub mod Steps
