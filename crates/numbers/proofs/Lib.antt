-- How a number is read step by step; that reading and writing undo each other; a few numbers in print; and a law of lists that readers and writers
-- share.
-- Assumes nothing.
pub mod Laws
pub mod Round
pub mod Examples
pub mod Lists
