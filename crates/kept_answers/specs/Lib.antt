-- What the calls of the kept table reply to a C caller.
-- Assumes nothing.
pub mod Replies
