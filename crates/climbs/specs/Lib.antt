-- Climbs that lead to the root, and climbs that go round for ever.
-- Assumes nothing.
pub mod Climbs
