-- From what is read at a position to what a text is: which lines are in form, and where the first fault is.
-- Assumes nothing.
mod Lines
pub mod Forms
mod Agreement
pub mod Faults
pub mod Endings
pub mod Reading
pub mod Unique
pub mod Examples
pub mod Missing
