-- A block of one is taken as it stands.
-- Assumes nothing.
pub mod Beginning
