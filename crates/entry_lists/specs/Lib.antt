-- One character of a block: its entries, and its length.
-- Assumes nothing.
pub mod EntryLists
