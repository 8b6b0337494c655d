-- What a correction does to a kept table.
-- Assumes nothing.
pub mod TableCorrections
