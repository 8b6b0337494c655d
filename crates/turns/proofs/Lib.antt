-- The lines for the characters come to say what they should:
--     Proper      the indices are at most 1
--     Ready       once all characters are scored, no call about one of them is refused
--     Writing     the lines of one character after another, and their room
-- Assumes nothing.
pub mod Proper
pub mod Ready
pub mod Writing
