-- What the calls about sheets reply to a C caller.
-- Assumes nothing.
pub mod Replies
