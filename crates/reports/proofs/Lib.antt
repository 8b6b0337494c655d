-- The theorems of the report, in full; document 01's own, as an example; and how they are reached:
--     Telling     the whole report, on a tree and a matrix and on a text
--     Unique      one outcome
-- Assumes nothing.
pub mod Theorems
pub mod Examples
pub mod Telling
pub mod Unique
