-- Lists in a line of a report: document 01's, as an example; ranges one after another; and the room that lists need.
-- Assumes nothing.
pub mod Examples
mod Ranges
mod Room
