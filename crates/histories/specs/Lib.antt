-- What the calls of the kept table promise (Kept.antt), and what lists of corrections leave (Histories.antt).
-- Assumes nothing.
pub mod Kept
pub mod Histories
