-- From the searches that found nothing to an accepted table; and that a table has one answer.
-- Assumes nothing.
mod Accepting
pub mod Unique
-- and that a table without a fault is accepted
pub mod Faultless
