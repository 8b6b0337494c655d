-- What the steps of the calls leave (Steps.antt). What the calls promise is said in the crate `histories`.
-- Assumes nothing.
pub mod Steps
